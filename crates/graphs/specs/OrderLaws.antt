-- Laws of optimal orders: what all optimal orders of a graph have in common, and what the parts of one promise.
use Rattle.std.specs.Prelude.{◌≢◌, ℕ, ◌≤◌, pos, ◌≤ℤ◌, List, [], ◌∷◌, ◌++◌, map, flat_map, Contains}
use Rattle.fee_rate.specs.declared.rates.Sum.{Sum}
use Rattle.fee_rate.specs.Rates.{AtMost, Same}
use Rattle.graphs.specs.Graphs.{Graph, IsCover}
use Rattle.graphs.specs.Rates.{sum_of, sums, HasSizes}
use Rattle.graphs.specs.Linearizations.{IsClosedWithin, IsUnderLine, IsOptimal}
use Rattle.graphs.specs.Certificates.{Part, IsCertificate}
use Rattle.graphs.specs.Drops.{IsDescendantSet}

-- The diagram of an optimal order bounds every closed set at the line of each part, whatever the set's size: for the line of a part,
-- a set may be smaller than what stands before the part or larger than what ends with it.
abbrev pub OptimalPartsBoundClosedSets : Type 0
OptimalPartsBoundClosedSets =
    (rate : ℕ → Sum) (graph : Graph) (before after : List (List ℕ)) (part set : List ℕ)
    → HasSizes rate graph.names → IsOptimal rate graph (before ++ part ∷ after)
    → IsClosedWithin graph.pairs graph.names set → IsUnderLine (sums rate (flat_map (λ ids. ids) before)) (sums rate part) (sums rate set)

-- A name's part has the same rate in any two optimal orders of one graph.
abbrev pub NamesHaveOneRate : Type 0
NamesHaveOneRate =
    (rate : ℕ → Sum) (graph : Graph) (a b : List (List ℕ)) (id : ℕ) (p q : List ℕ) → HasSizes rate graph.names → IsOptimal rate graph a → IsOptimal rate graph b
    → Contains a p → Contains p id → Contains b q → Contains q id → Same (sums rate p) (sums rate q)

-- The last part of an optimal order is a set with all descendants of its names, and no such set has a lower rate.
pub record LastPartIsLowest : Type 0 where
  pub one : (rate : ℕ → Sum) (graph : Graph) (before : List (List ℕ)) (last : List ℕ) → IsOptimal rate graph (before ++ last ∷ [])
      → IsDescendantSet graph last × (last ≢ [])
  pub lowest : (rate : ℕ → Sum) (graph : Graph) (before : List (List ℕ)) (last set : List ℕ) → HasSizes rate graph.names
      → IsOptimal rate graph (before ++ last ∷ []) → IsDescendantSet graph set → AtMost (sums rate last) (sums rate set)

-- Of the closed sets that are no larger than some first parts of an optimal order, of which the last has a fee of at least 0, none has
-- a greater fee than these parts together. So it is for the parts that a block takes before the first that it leaves out.
abbrev pub FirstPartsAreBest : Type 0
FirstPartsAreBest =
    (rate : ℕ → Sum) (graph : Graph) (first after : List (List ℕ)) (part set : List ℕ) → HasSizes rate graph.names
    → IsOptimal rate graph ((first ++ part ∷ []) ++ after) → pos 0 ≤ℤ (sums rate part).fee → IsClosedWithin graph.pairs graph.names set
    → (sums rate set).size ≤ (sums rate (flat_map (λ ids. ids) (first ++ part ∷ []))).size
    → (sums rate set).fee ≤ℤ (sums rate (flat_map (λ ids. ids) (first ++ part ∷ []))).fee

-- The same three laws of the parts of certificates over the covering pairs, with the fees and sizes that the parts tell.
pub record CertifiedPartsAgree : Type 0 where
  pub rates : (rate : ℕ → Sum) (graph : Graph) (a b : List Part) (id : ℕ) (p q : Part) → HasSizes rate graph.names
      → IsCertificate rate graph (IsCover graph.pairs) a → IsCertificate rate graph (IsCover graph.pairs) b
      → Contains a p → Contains p.ids id → Contains b q → Contains q.ids id → Same p.rate q.rate
  pub last : (rate : ℕ → Sum) (graph : Graph) (before : List Part) (part : Part) (set : List ℕ) → HasSizes rate graph.names
      → IsCertificate rate graph (IsCover graph.pairs) (before ++ part ∷ []) → IsDescendantSet graph set → AtMost part.rate (sums rate set)
  pub first : (rate : ℕ → Sum) (graph : Graph) (first after : List Part) (part : Part) (set : List ℕ) → HasSizes rate graph.names
      → IsCertificate rate graph (IsCover graph.pairs) ((first ++ part ∷ []) ++ after) → pos 0 ≤ℤ part.rate.fee → IsClosedWithin graph.pairs graph.names set
      → (sums rate set).size ≤ (sum_of (map (λ p. p.rate) (first ++ part ∷ []))).size
      → (sums rate set).fee ≤ℤ (sum_of (map (λ p. p.rate) (first ++ part ∷ []))).fee
