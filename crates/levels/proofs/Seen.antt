-- What is seen of each level.
use Rattle.std.proofs.Common.{◌≡◌, ℕ, Bool, true, false, cond, List, Option, Some, None, inl, inr, ◌⊎◌, refl, sym, ap, ◌∙◌}
use Rattle.std.specs.Prelude.{option_map, slice_index}
use Rattle.std.proofs.lemmas.Option.{none-some, same_Some}
use Rattle.std.specs.FinMap as finmap
use Rattle.graphs.specs.declared.names.Level.{Level}
use Rattle.graphs.specs.declared.names.Level.TheVariants.{Main, Top}
use Rattle.chunk_index.specs.declared.entry.Tag.{Tag}
use Rattle.chunk_index.specs.declared.entry.Tag.TheVariants.{Both, MainOnly, TopOnly}
use Rattle.chunk_index.specs.Items.{is_in}
use Rattle.cluster.specs.Clusters.{Cluster}
use Rattle.cluster_store.specs.Stores.{Stored, Numbered}
use Rattle.levels.specs.Changes.{AreAt}
use Rattle.levels.specs.Shelves.{AllHave, seen_in, seen_at, stored_at}

-- what is seen in a level is stored
pub seen_is_stored : (level : Level) (clusters : Numbered) (number : ℕ) (c : Cluster)
    → seen_at level clusters number ≡ Some c → stored_at clusters number ≡ Some c
seen_is_stored level clusters number c is = from (finmap.get clusters number) is
  where
    from_tag : (b : Bool) (s : Stored) → cond b (Some s.cluster) None ≡ Some c → Some s.cluster ≡ Some c
    from_tag true s e = e
    from_tag false s e = absurd (none-some c e)

    from : (o : Option Stored) → seen_in level o ≡ Some c → option_map (λ (s : Stored). s.cluster) o ≡ Some c
    from None e = absurd (none-some c e)
    from (Some s) e = from_tag (is_in level s.tag) s e

-- what is stored under a number, with its tag
pub slot_of : (clusters : Numbered) (number : ℕ) (c : Cluster) → stored_at clusters number ≡ Some c
    → (s : Stored) × (finmap.get clusters number ≡ Some s) × (s.cluster ≡ c)
slot_of clusters number c is = from (finmap.get clusters number) refl is
  where
    from : (o : Option Stored) → finmap.get clusters number ≡ o → option_map (λ (s : Stored). s.cluster) o ≡ Some c
        → (s : Stored) × (finmap.get clusters number ≡ Some s) × (s.cluster ≡ c)
    from None there e = absurd (none-some c e)
    from (Some s) there e = (s, there, same_Some s.cluster c e)

pub stored_of : (clusters : Numbered) (number : ℕ) (s : Stored) → finmap.get clusters number ≡ Some s → stored_at clusters number ≡ Some s.cluster
stored_of clusters number s is = ap (option_map (λ (x : Stored). x.cluster)) is

-- and what is stored is seen in main or in the top level
pub stored_is_seen : (clusters : Numbered) (number : ℕ) (c : Cluster) → stored_at clusters number ≡ Some c
    → (seen_at Main clusters number ≡ Some c) ⊎ (seen_at Top clusters number ≡ Some c)
stored_is_seen clusters number c is = from (finmap.get clusters number) is
  where
    by_tag : (tag : Tag) (d : Cluster) → Some d ≡ Some c → (cond (is_in Main tag) (Some d) None ≡ Some c) ⊎ (cond (is_in Top tag) (Some d) None ≡ Some c)
    by_tag Both d e = inl e
    by_tag MainOnly d e = inl e
    by_tag TopOnly d e = inr e

    from : (o : Option Stored) → option_map (λ (s : Stored). s.cluster) o ≡ Some c → (seen_in Main o ≡ Some c) ⊎ (seen_in Top o ≡ Some c)
    from None e = absurd (none-some c e)
    from (Some s) e = by_tag s.tag s.cluster e

-- what is stored where all stand in both levels is seen in each
pub both_seen : (level : Level) (clusters : Numbered) → AllHave Both clusters → (number : ℕ) → seen_at level clusters number ≡ stored_at clusters number
both_seen level clusters both number = from (finmap.get clusters number) (λ s is. both number s is)
  where
    in_each : (l : Level) → is_in l Both ≡ true
    in_each Main = refl
    in_each Top = refl

    from : (o : Option Stored) → ((s : Stored) → o ≡ Some s → s.tag ≡ Both) → seen_in level o ≡ option_map (λ (s : Stored). s.cluster) o
    from None all = refl
    from (Some s) all = ap (λ t. cond (is_in level t) (Some s.cluster) None) (all s refl) ∙ ap (λ b. cond b (Some s.cluster) None) (in_each level)

-- what is seen under a number in both levels is one cluster
pub one_seen : (a b : Level) (clusters : Numbered) (number : ℕ) (c d : Cluster)
    → seen_at a clusters number ≡ Some c → seen_at b clusters number ≡ Some d → c ≡ d
one_seen a b clusters number c d one two =
    same_Some c d (sym (seen_is_stored a clusters number c one) ∙ seen_is_stored b clusters number d two)

-- what is seen is stored
pub at_stored : (clusters : Numbered) (list : List ℕ) (found : List Cluster) → AreAt (seen_at Top clusters) list found → AreAt (stored_at clusters) list found
at_stored clusters list found are = record {
  count = are.count;
  stand = λ i c is. seen_is_stored Top clusters (slice_index list i) c (are.stand i c is);
}
