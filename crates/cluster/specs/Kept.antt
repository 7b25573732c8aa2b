-- How the parts of an order are kept: one list of names, one of flows, and where those of each part end.
use Rattle.std.specs.Prelude.{◌≡◌, ℕ, ◌-◌, List, [], ◌∷◌, length, map, take, drop, pos}
use Rattle.graphs.specs.Closures.{Closure}
use Rattle.graphs.specs.declared.names.Flow.{Flow}
use Rattle.graphs.specs.Certificates.{Part}
use Rattle.linearize.specs.declared.draft.LinearPart.{LinearPart}
use Rattle.linearize.specs.Drafts.{placed, flows_in, totals}
use Rattle.fee_rate.specs.declared.rates.Sum.{Sum}
use Rattle.cluster.specs.declared.order.PartEnd.{PartEnd}
use Rattle.cluster.specs.Clusters.{ArePicked, AreUncut}
use Rattle.cluster.specs.Named.{named, IsNamed}

-- the fee and the size of a part, as a sum
abbrev pub sum_in : PartEnd → Sum
sum_in part = record { fee = part.fee; size = part.size }

-- where the first part begins
abbrev pub no_end : PartEnd
no_end = record { fee = pos 0; size = 0; end = 0; flow_end = 0 }

-- what is kept of a part that is shown, whose flows end at some position
abbrev pub end_of : LinearPart → ℕ → PartEnd
end_of part flow_end = record { fee = part.rate.fee; size = part.rate.size; end = part.end; flow_end = flow_end }

-- the parts that ends cut off a list of names and one of flows, which begin at positions i and j
unfoldable pub cut_from : ℕ → ℕ → List PartEnd → List ℕ → List Flow → List Part
cut_from i j [] order flows = []
cut_from i j (part ∷ parts) order flows =
    record { rate = sum_in part; ids = take (part.end - i) order; flows = take (part.flow_end - j) flows }
    ∷ cut_from part.end part.flow_end parts (drop (part.end - i) order) (drop (part.flow_end - j) flows)

abbrev pub cut : List PartEnd → List ℕ → List Flow → List Part
cut shown order flows = cut_from 0 0 shown order flows

-- parts as they are kept
pub record AreCut (shown : List PartEnd) (order : List ℕ) (flows : List Flow) (parts : List Part) : Type 0 where
  pub rates_are : map sum_in shown ≡ map (λ part. part.rate) parts
  pub ends_are : map (λ part. part.end) shown ≡ totals 0 (map (λ part. length part.ids) parts)
  pub flow_ends_are : map (λ part. part.flow_end) shown ≡ totals 0 (map (λ part. length part.flows) parts)
  pub order_is : placed parts ≡ order
  pub flows_are : flows_in parts ≡ flows

-- the parts that are kept are a pick of the graph of the names
pub record IsOrdered (names : List ℕ) (g : Closure) (shown : List PartEnd) (order : List ℕ) (flows : List Flow) : Type 0 where
  pub ends : AreCut shown order flows (cut shown order flows)
  pub picked : ArePicked (named names g) (cut shown order flows)
  pub uncut : AreUncut (named names g) (cut shown order flows)

-- what is kept of a cluster
pub record IsKept (n : ℕ) (names : List ℕ) (g : Closure) (shown : List PartEnd) (order : List ℕ) (flows : List Flow) : Type 0 where
  pub place : IsNamed n names g
  pub ordered : IsOrdered names g shown order flows
