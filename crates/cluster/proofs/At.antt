-- What a name has, by its place.
use Rattle.std.proofs.Common.{◌≡◌, ℕ, ◌<◌, List, length, slice_index, sym, ap, ap₂, ◌∙◌, subst}
use Rattle.graphs.specs.Closures.{Closure, is_ancestor, rate_of}
use Rattle.lists.specs.Distinct.{AreDistinct}
use Rattle.cluster.specs.Named.{named}
use Rattle.cluster.proofs.Names.{named-rate, named-ancestor}

-- where a name stands in a list
pub record IsAt (names : List ℕ) (p id : ℕ) : Type 0 where
  pub low : p < length names
  pub here : slice_index names p ≡ id

pub at_in : (xs names : List ℕ) (p id : ℕ) → xs ≡ names → p < length xs → slice_index xs p ≡ id → IsAt names p id
at_in xs names p id same low here = subst (λ (ys : List ℕ). IsAt ys p id) same (record { low = low; here = here })

module _ (names : List ℕ) (g : Closure) (once : AreDistinct names) where
  pub rate_at : (p id : ℕ) → IsAt names p id → rate_of (named names g) id ≡ rate_of g p
  rate_at p id at = ap (rate_of (named names g)) (sym at.here) ∙ named-rate names g once p at.low

  pub above_at : (p q a d : ℕ) → IsAt names p a → IsAt names q d → is_ancestor (named names g) a d ≡ is_ancestor g p q
  above_at p q a d one two = ap₂ (is_ancestor (named names g)) (sym one.here) (sym two.here) ∙ named-ancestor names g once p q one.low two.low
