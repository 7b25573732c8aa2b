-- A slot that is written.
use Rattle.std.proofs.Common.{◌≡◌, ◌≢◌, ℕ, ◌<◌, length, set, Some, None, inl, inr, sym, ◌∙◌}
use Rattle.std.proofs.lemmas.Bool.{cases_lt}
use Rattle.std.proofs.lemmas.Option.{none-some}
use Rattle.std.proofs.lemmas.List.{get_or-set_same, get_or-set_other, get_or_past}
use Rattle.cluster_store.specs.Stores.{Stored}
use Rattle.cluster_store.specs.Kept.{Slots, at}

slot_low : (slots : Slots) (n : ℕ) (s : Stored) → at slots n ≡ Some s → n < length slots
slot_low slots n s is = elim (cases_lt n (length slots)) [
  | inl low ↦ low
  | inr past ↦ absurd (none-some s (sym (get_or_past slots n None past) ∙ is))
]

pub set_here : (slots : Slots) (n : ℕ) (s t : Stored) → at slots n ≡ Some s → at (set slots n (Some t)) n ≡ Some t
set_here slots n s t is = get_or-set_same slots n (Some t) None (slot_low slots n s is)

pub set_other : (slots : Slots) (n m : ℕ) (t : Stored) → m ≢ n → at (set slots n (Some t)) m ≡ at slots m
set_other slots n m t apart = get_or-set_other slots n m (Some t) None apart
