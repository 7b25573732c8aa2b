-- Rates that were compared one after the other fall.
use Rattle.std.proofs.Common.{◌≡◌, ℕ, ◌+◌, ◌-◌, ◌<◌, inl, inr, List, [], ◌∷◌, length, map, get_or, slice_get, Some, refl, ap, ◌∙◌, subst, add-one, arith}
use Rattle.std.proofs.lemmas.Bool.{cases_lt}
use Rattle.std.proofs.lemmas.Option.{get_or_from_slice_get}
use Rattle.fee_rate.specs.Rates.{AtMost}
use Rattle.graphs.specs.Rates.{Falls}
use Rattle.linearize.specs.declared.draft.LinearPart.{LinearPart}
use Rattle.linearize.specs.Graphs.{sum_from}

-- up to position n each part has at most the rate of the one before it
abbrev pub AreBelow : List LinearPart → ℕ → Type 0
AreBelow parts n =
    (i : ℕ) (x y : LinearPart) → i + 1 < n → slice_get parts i ≡ Some x → slice_get parts (i + 1) ≡ Some y
    → AtMost (sum_from y.rate) (sum_from x.rate)

-- one position more, whose part has at most the rate of the one before it
pub one_more : (parts : List LinearPart) (n : ℕ) (d e : LinearPart) → AreBelow parts n
    → AtMost (sum_from (get_or parts n d).rate) (sum_from (get_or parts (n - 1) e).rate) → AreBelow parts (n + 1)
one_more parts n d e below low i x y less ex ey =
    elim (cases_lt (i + 1) n) as (λ _. AtMost (sum_from y.rate) (sum_from x.rate)) [
      | inl before ↦ below i x y before ex ey
      | inr last ↦
          let here : get_or parts n d ≡ y = ap (λ k. get_or parts k d) (omega (arith, less, last)) ∙ get_or_from_slice_get parts (i + 1) y d ey in
          let behind : get_or parts (n - 1) e ≡ x = ap (λ k. get_or parts k e) (omega (arith, less, last)) ∙ get_or_from_slice_get parts i x e ex in
          subst (λ z. AtMost (sum_from y.rate) (sum_from z.rate)) behind
          (subst (λ z. AtMost (sum_from z.rate) (sum_from (get_or parts (n - 1) e).rate)) here low)
    ]

pub all_fall : (parts : List LinearPart) → AreBelow parts (length parts) → Falls (map (λ part. sum_from part.rate) parts)
all_fall [] h = tt
all_fall (x ∷ []) h = tt
all_fall (x ∷ y ∷ parts) h = (
  h 0 x y (omega arith) refl refl,
  all_fall (y ∷ parts) (λ i a b low ea eb.
      h (i + 1) a b (omega (arith, low)) (ap (slice_get (x ∷ y ∷ parts)) (add-one i) ∙ ea) (ap (slice_get (x ∷ y ∷ parts)) (add-one (i + 1)) ∙ eb)),
)
