-- What stands under a number, read from the slots.
use Rattle.std.proofs.Common.{◌≡◌, ℕ, Option, Some, None, MatchOption, IfSome, sym, ◌∙◌, subst}
use Rattle.std.specs.FinMap as finmap
use Rattle.cluster.specs.Clusters.{Cluster}
use Rattle.record.specs.Records.{IsRecord}
use Rattle.cluster_store.specs.Stores.{Stored, Numbered}
use Rattle.cluster_store.specs.Kept.{Slots, at, shelved}
use Rattle.cluster_store.proofs.Shelves.{get_shelved}

pub read_by : {A B : Type 0} (r : Option A) (read : A → B) (f : Stored → B) (slots : Slots) (n : ℕ) (clusters : Numbered) → shelved slots ≡ clusters
    → MatchOption r (at slots n ≡ None) (λ x. (s : Stored) × (at slots n ≡ Some s) × (read x ≡ f s))
    → MatchOption r (finmap.get clusters n ≡ None) (λ x. (s : Stored) × (finmap.get clusters n ≡ Some s) × (read x ≡ f s))
read_by None read f slots n clusters same h = subst (λ (m : Numbered). finmap.get m n ≡ None) same (get_shelved slots n ∙ h)
read_by (Some x) read f slots n clusters same h = (h.0, subst (λ (m : Numbered). finmap.get m n ≡ Some h.0) same (get_shelved slots n ∙ h.1), h.2)

-- what is lent of a slot is whole, where each slot is
pub whole_by : {A : Type 0} (r : Option A) (read : A → Cluster) (most : ℕ) (slots : Slots) (n : ℕ)
    → ((m : ℕ) (s : Stored) → at slots m ≡ Some s → IsRecord most s.cluster)
    → MatchOption r (at slots n ≡ None) (λ x. (s : Stored) × (at slots n ≡ Some s) × (read x ≡ s.cluster)) → IfSome r (λ x. IsRecord most (read x))
whole_by None read most slots n whole h = tt
whole_by (Some x) read most slots n whole h = subst (IsRecord most) (sym h.2) (whole n h.0 h.1)
