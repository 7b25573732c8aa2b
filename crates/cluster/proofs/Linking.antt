-- A copy of a cluster's graph, with a change, by names.
use Rattle.std.proofs.Common.{◌≡◌, ℕ, ℤ, true, false, List, sym, ◌∙◌, subst, subst₂}
use Rattle.fee_rate.specs.Limits.{IsFee}
use Rattle.graphs.specs.Closures.{Closure, is_member, is_ancestor, IsClosed, AddsPair, SetsFee}
use Rattle.cluster.specs.Changes.{IsSame}
use Rattle.cluster.specs.Named.{named, IsNamed}
use Rattle.cluster.proofs.At.{IsAt, above_at}
use Rattle.cluster.proofs.Kept.{place_member, AddsPair-named, SetsFee-named, AddsPair-same, SetsFee-same, IsNamed-pair, IsNamed-fee}

module _ (n : ℕ) (names : List ℕ) (g h : Closure) (kept : IsNamed n names g) (same : IsSame g h) (copy : IsNamed n names h) where
  module _ (p q a d : ℕ) (one : IsAt names p a) (two : IsAt names q d) where
    pub link_asks : is_ancestor (named names g) d a ≡ false → (is_member h p ≡ true) × (is_member h q ≡ true) × (is_ancestor h q p ≡ false)
    link_asks none = (
      place_member n names h copy p one.low,
      place_member n names h copy q two.low,
      same.ancestors q p ∙ sym (above_at names g kept.once q p d a two one) ∙ none,
    )

    module _ (new : Closure) (pair : AddsPair h new p q) where
      pub link_kept : IsClosed n new → IsNamed n names new
      link_kept closed = IsNamed-pair n names h new copy closed p q pair

      pub link_graph : AddsPair (named names g) (named names new) a d
      link_graph = subst₂ (λ (x y : ℕ). AddsPair (named names g) (named names new) x y) one.here two.here
          (AddsPair-named names g new kept.once p q one.low two.low (AddsPair-same g h new same p q pair))

  module _ (p a : ℕ) (fee : ℤ) (at : IsAt names p a) where
    pub fee_asks : is_member h p ≡ true
    fee_asks = place_member n names h copy p at.low

    module _ (new : Closure) (sets : SetsFee h new p fee) where
      pub fee_kept : IsFee fee → IsClosed n new → IsNamed n names new
      fee_kept in_range closed = IsNamed-fee n names h new copy closed p fee in_range sets

      pub fee_graph : SetsFee (named names g) (named names new) a fee
      fee_graph = subst (λ (x : ℕ). SetsFee (named names g) (named names new) x fee) at.here
          (SetsFee-named names g new kept.once p fee at.low (SetsFee-same g h new same p fee sets))
