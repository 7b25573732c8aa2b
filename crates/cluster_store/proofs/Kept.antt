-- What is kept where clusters change.
use Rattle.std.proofs.Common.{◌≡◌, ℕ, ◌*◌, ◌≤◌, ◌==◌, true, count_by, map, Option, Some, None, IsSome, is_some, Contains, refl, sym, ap, ◌∙◌, subst}
use Rattle.std.proofs.lemmas.Option.{none-some, same_Some}
use Rattle.std.specs.Cmp.{unsigned_Decides}
use Rattle.std.specs.FinMap as finmap
use Rattle.graphs.specs.Closures.{rate_of}
use Rattle.chunk_index.specs.declared.entry.Tag.{Tag}
use Rattle.chunk_index.specs.Items.{Items}
use Rattle.cluster.specs.Clusters.{}
use Rattle.record.specs.Records.{IsRecord}
use Rattle.cluster_store.specs.Stores.{Stored, Numbered, AreWhole, IsLeast, IsStore}
use Rattle.cluster_store.specs.Changes.{moved_to, Sets}
use Rattle.cluster_store.specs.Slots.{MovesIn, Writes}
use Rattle.cluster_store.specs.Kept.{Slots, at, place_of, shelved, IsShown, IsKept}
use Rattle.cluster_store.proofs.Shelves.{get_shelved, none_counted}
use Rattle.cluster_store.proofs.Walks.{is_ordered}

module _ (w : ℕ) (slots : Slots) (items : Items) (least : ℕ) (kept : IsKept w slots items least) where
  pub shelved_least : IsLeast (shelved slots) least
  shelved_least n s is id here = kept.floor n s (sym (get_shelved slots n) ∙ is) id here

  pub shelved_whole : AreWhole (64 * w) (shelved slots)
  shelved_whole n s is = kept.whole n s (sym (get_shelved slots n) ∙ is)

  pub kept_store : IsStore (64 * w) (record { clusters = shelved slots; order = map place_of items; least = least })
  kept_store = record { whole = shelved_whole; ordered = is_ordered slots items kept.shown; least = shelved_least }

-- where there is no cluster, any number is a bound of sizes
pub kept_anew : (w : ℕ) (slots : Slots) (items : Items) (least least' : ℕ)
    → (count_by is_some slots == 0) ≡ true → IsKept w slots items least → IsKept w slots items least'
kept_anew w slots items least least' none kept = record {
  narrow = kept.narrow;
  shown = kept.shown;
  whole = kept.whole;
  floor = λ n s is. absurd (none-some s (sym (none_counted slots ((unsigned_Decides (count_by is_some slots) 0).0 none) n) ∙ is));
}

-- one slot is written, and so one number has another content
pub shelved_written : (slots slots' : Slots) (n : ℕ) (o : Option Stored) → Writes slots slots' n o
    → (old new : Numbered) → shelved slots ≡ old → shelved slots' ≡ new → Sets n o old new
shelved_written slots slots' n o writes old new is is' =
    subst (λ (m : Numbered). Sets n o m new) is (subst (λ (m : Numbered). Sets n o (shelved slots) m) is' (record {
      changed = get_shelved slots' n ∙ writes.changed;
      others = λ m other. get_shelved slots' m ∙ writes.others m other ∙ sym (get_shelved slots m);
    }))

-- what stood under the number before, by the slots and by the numbers
pub shelved_at : (slots : Slots) (n : ℕ) (clusters : Numbered) → shelved slots ≡ clusters → at slots n ≡ finmap.get clusters n
shelved_at slots n clusters is = sym (get_shelved slots n) ∙ ap (λ (m : Numbered). finmap.get m n) is

pub moved_cluster : (to : Option Tag) (o : Option Stored) (s : Stored) → moved_to to o ≡ Some s → (t : Stored) × (o ≡ Some t) × (t.cluster ≡ s.cluster)
moved_cluster None o s is = absurd (none-some s is)
moved_cluster (Some tag) None s is = absurd (none-some s is)
moved_cluster (Some tag) (Some t) s is = (t, refl, ap (λ (x : Stored). x.cluster) (same_Some (record { cluster = t.cluster; tag = tag }) s is))

-- what is kept where each cluster that stands somewhere stood under the same number before
module _ (slots slots' : Slots) (stood : (m : ℕ) (s : Stored) → at slots' m ≡ Some s → (t : Stored) × (at slots m ≡ Some t) × (t.cluster ≡ s.cluster)) where
  pub kept_stood : (w : ℕ) (items items' : Items) (least : ℕ) → IsKept w slots items least → IsShown slots' items' → IsKept w slots' items' least
  kept_stood w items items' least kept shown = record {
    narrow = kept.narrow;
    shown = shown;
    whole = λ m s is. let old = stood m s is in subst (IsRecord (64 * w)) old.2 (kept.whole m old.0 old.1);
    floor = λ m s is id here.
        let old = stood m s is in
        subst (λ c. least ≤ (rate_of c.graph id).size) old.2 (kept.floor m old.0 old.1 id (subst (λ c. Contains c.names id) (sym old.2) here));
  }

-- one cluster moved, and so one number has another content
pub shelved_moved : (slots slots' : Slots) (n : ℕ) (to : Option Tag) → MovesIn slots slots' n to → (old new : Numbered) → shelved slots ≡ old → shelved slots' ≡ new
    → Sets n (moved_to to (finmap.get old n)) old new
shelved_moved slots slots' n to moves old new is is' =
    subst (λ (o : Option Stored). Sets n (moved_to to o) old new) (shelved_at slots n old is)
    (shelved_written slots slots' n (moved_to to (at slots n)) moves old new is is')

pub shelved_there : (slots : Slots) (n : ℕ) (clusters : Numbered) → shelved slots ≡ clusters → IsSome (finmap.get clusters n) → IsSome (at slots n)
shelved_there slots n clusters is there = ap is_some (shelved_at slots n clusters is) ∙ there
