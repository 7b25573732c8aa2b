-- Where the places of an order stand in it.
use Rattle.std.proofs.Common.{◌≡◌, ℕ, ◌+◌, ◌<◌, List, length, slice_index, inl, inr, sym, ap, ◌∙◌, arith}
use Rattle.std.proofs.Math.ListN.{set}
use Rattle.std.proofs.lemmas.Bool.{cases_eq}
use Rattle.std.proofs.lemmas.List.{get_or-set_same, get_or-set_other}
use Rattle.lists.proofs.Distinct.{one_place}
use Rattle.lists.specs.Distinct.{AreDistinct}

pub stand_more : (order positions : List ℕ) (at : ℕ) → AreDistinct order → at < length order → slice_index order at < length positions
    → ((i : ℕ) → i < at → slice_index positions (slice_index order i) ≡ i) → (i : ℕ) → i < at + 1
    → slice_index (set positions (slice_index order at) at) (slice_index order i) ≡ i
stand_more order positions at once low inside earlier i below = elim (cases_eq i at) [
  | inl same ↦ ap (λ k. slice_index (set positions (slice_index order at) at) (slice_index order k)) same
      ∙ get_or-set_same positions (slice_index order at) at 0 inside ∙ sym same
  | inr other ↦
      get_or-set_other positions (slice_index order at) (slice_index order i) at 0 (λ same. other (one_place order i at 0 once (omega arith) low same))
      ∙ earlier i (omega arith)
]
