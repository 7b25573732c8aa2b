-- Which tags the index has under the keys of a number, where what is stored there changes.
use Rattle.std.proofs.Common.{◌≡◌, ◌≢◌, ℕ, Bool, true, false, cond, not, ◌&&◌, List, [], Option, Some, None, nat_eq, inl, inr, refl, sym, ap, ◌∙◌}
use Rattle.std.proofs.lemmas.Bool.{cases_eq, false_from_ne_true, and_parts}
use Rattle.std.specs.Cmp.{unsigned_Decides}
use Rattle.graphs.specs.Certificates.{Part}
use Rattle.chunk_index.specs.declared.entry.Tag.{Tag}
use Rattle.chunk_index.specs.declared.key.Key.{Key}
use Rattle.chunk_index.specs.Items.{Items}
use Rattle.cluster_store.specs.Stores.{Stored}
use Rattle.cluster_store.specs.Kept.{Slots, at, found, has_rate, tag_for, fresh, IsShown, Enters, Leaves}

-- ---- by the number of a key

pub fresh_serial : (n : ℕ) (ps qs : List Part) (k : Key) → fresh n ps qs k ≡ true → k.serial ≡ n
unfolding fresh
fresh_serial n ps qs k f = (unsigned_Decides k.serial n).0 (and_parts (nat_eq k.serial n) (has_rate ps k && not (has_rate qs k)) f).0

pub fresh_has : (n : ℕ) (ps qs : List Part) (k : Key) → fresh n ps qs k ≡ true → has_rate ps k ≡ true
unfolding fresh
fresh_has n ps qs k f =
    (and_parts (has_rate ps k) (not (has_rate qs k)) (and_parts (nat_eq k.serial n) (has_rate ps k && not (has_rate qs k)) f).1).0

pub fresh_here : (n : ℕ) (ps qs : List Part) (k : Key) → k.serial ≡ n → fresh n ps qs k ≡ (has_rate ps k && not (has_rate qs k))
unfolding fresh
fresh_here n ps qs k serial = ap (λ b. b && (has_rate ps k && not (has_rate qs k))) ((unsigned_Decides k.serial n).1 serial)

pub fresh_elsewhere : (n : ℕ) (ps qs : List Part) (k : Key) → k.serial ≢ n → fresh n ps qs k ≡ false
fresh_elsewhere n ps qs k other = false_from_ne_true (fresh n ps qs k) (λ f. other (fresh_serial n ps qs k f))

alone : (b : Bool) → (b && not false) ≡ b
alone true = refl
alone false = refl

pub fresh_alone : (n : ℕ) (ps : List Part) (k : Key) → k.serial ≡ n → fresh n ps [] k ≡ has_rate ps k
unfolding has_rate
fresh_alone n ps k serial = fresh_here n ps [] k serial ∙ alone (has_rate ps k)

-- ---- one number's content

module _ (slots : Slots) (items : Items) (shown : IsShown slots items) (n : ℕ) where
  tag_there : (o : Option Stored) → at slots n ≡ o → (k : Key) → k.serial ≡ n → found items k ≡ tag_for o k
  tag_there o is k serial = shown.tags k ∙ ap (λ m. tag_for (at slots m) k) serial ∙ ap (λ p. tag_for p k) is

  pub free_absent : at slots n ≡ None → (ps qs : List Part) (k : Key) → fresh n ps qs k ≡ true → found items k ≡ None
  free_absent free ps qs k f = tag_there None free k (fresh_serial n ps qs k f)

  pub stored_there : (s : Stored) → at slots n ≡ Some s → (qs : List Part) (k : Key) → fresh n s.cluster.parts qs k ≡ true → found items k ≡ Some s.tag
  stored_there s is qs k f =
      tag_there (Some s) is k (fresh_serial n s.cluster.parts qs k f)
      ∙ ap (λ b. cond b (Some s.tag) None) (fresh_has n s.cluster.parts qs k f)

  module _ (slots' : Slots) (items' : Items) (others : (m : ℕ) → m ≢ n → at slots' m ≡ at slots m) where
    elsewhere : (k : Key) → k.serial ≢ n → found items k ≡ tag_for (at slots' k.serial) k
    elsewhere k other = shown.tags k ∙ ap (λ o. tag_for o k) (sym (others k.serial other))

    pub shown_added : (s : Stored) → at slots n ≡ None → at slots' n ≡ Some s → Enters n s.tag s.cluster.parts [] items items' → IsShown slots' items'
    shown_added s free is enters = record {
      sorted = enters.sorted shown.sorted;
      tags = λ k. elim (cases_eq k.serial n) [
        | inl serial ↦
            enters.tags k ∙ ap (λ b. cond b (Some s.tag) (found items k)) (fresh_alone n s.cluster.parts k serial)
            ∙ ap (λ o. cond (has_rate s.cluster.parts k) (Some s.tag) o) (tag_there None free k serial)
            ∙ sym (ap (λ m. tag_for (at slots' m) k) serial ∙ ap (λ p. tag_for p k) is)
        | inr other ↦ enters.tags k ∙ ap (λ b. cond b (Some s.tag) (found items k)) (fresh_elsewhere n s.cluster.parts [] k other) ∙ elsewhere k other
      ];
    }

    gone : (b : Bool) (t : Tag) → cond b None (cond b (Some t) None) ≡ None
    gone true t = refl
    gone false t = refl

    pub shown_removed : (s : Stored) → at slots n ≡ Some s → at slots' n ≡ None → Leaves n s.cluster.parts [] items items' → IsShown slots' items'
    shown_removed s is free leaves = record {
      sorted = leaves.sorted shown.sorted;
      tags = λ k. elim (cases_eq k.serial n) [
        | inl serial ↦
            leaves.tags k ∙ ap (λ b. cond b None (found items k)) (fresh_alone n s.cluster.parts k serial)
            ∙ ap (λ o. cond (has_rate s.cluster.parts k) None o) (tag_there (Some s) is k serial)
            ∙ gone (has_rate s.cluster.parts k) s.tag
            ∙ sym (ap (λ m. tag_for (at slots' m) k) serial ∙ ap (λ p. tag_for p k) free)
        | inr other ↦ leaves.tags k ∙ ap (λ b. cond b None (found items k)) (fresh_elsewhere n s.cluster.parts [] k other) ∙ elsewhere k other
      ];
    }

    again : (b : Bool) (t u : Tag) → cond b (Some t) (cond b (Some u) None) ≡ cond b (Some t) None
    again true t u = refl
    again false t u = refl

    pub shown_tagged : (s : Stored) (t : Tag) → at slots n ≡ Some s → at slots' n ≡ Some (record { cluster = s.cluster; tag = t })
        → Enters n t s.cluster.parts [] items items' → IsShown slots' items'
    shown_tagged s t is now enters = record {
      sorted = enters.sorted shown.sorted;
      tags = λ k. elim (cases_eq k.serial n) [
        | inl serial ↦
            enters.tags k ∙ ap (λ b. cond b (Some t) (found items k)) (fresh_alone n s.cluster.parts k serial)
            ∙ ap (λ o. cond (has_rate s.cluster.parts k) (Some t) o) (tag_there (Some s) is k serial)
            ∙ again (has_rate s.cluster.parts k) t s.tag
            ∙ sym (ap (λ m. tag_for (at slots' m) k) serial ∙ ap (λ p. tag_for p k) now)
        | inr other ↦ enters.tags k ∙ ap (λ b. cond b (Some t) (found items k)) (fresh_elsewhere n s.cluster.parts [] k other) ∙ elsewhere k other
      ];
    }
