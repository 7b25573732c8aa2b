-- A draft of an order: parts that are closed, and the places and the flows of the part that is open. It is kept as
-- one list of places and one of flows, with the ends of each part in them.
use Rattle.std.specs.Prelude.{◌≡◌, ℕ, ◌+◌, ◌-◌, ◌*◌, ◌≤◌, List, [], ◌∷◌, ◌++◌, length, map, flat_map, take, drop}
use Rattle.graphs.specs.declared.names.Flow.{Flow}
use Rattle.graphs.specs.Certificates.{Part}
use Rattle.linearize.specs.declared.draft.LinearPart.{LinearPart}
use Rattle.linearize.specs.declared.draft.PlaceFlow.{PlaceFlow}
use Rattle.linearize.specs.Graphs.{sum_from}

-- the parts that are closed, and what was written since
pub record Written : Type 0 where
  pub parts : List Part
  pub ids : List ℕ
  pub flows : List Flow

-- the places and the flows of parts, in their order
abbrev pub placed : List Part → List ℕ
placed parts = flat_map (λ part. part.ids) parts

abbrev pub flows_in : List Part → List Flow
flows_in parts = flat_map (λ part. part.flows) parts

abbrev pub all_placed : Written → List ℕ
all_placed written = placed written.parts ++ written.ids

abbrev pub all_flows : Written → List Flow
all_flows written = flows_in written.parts ++ written.flows

-- more flows of the part that is open
abbrev pub with_flows : Written → List Flow → Written
with_flows old more = record { parts = old.parts; ids = old.ids; flows = old.flows ++ more }

-- there is room for more flows, of which n · n / 4 may be written
abbrev pub Takes : ℕ → Written → List Flow → Type 0
Takes n written more = 4 * (length (all_flows written) + length more) ≤ n * n

-- a flow whose names are places
abbrev pub named : PlaceFlow → Flow
named flow = record { child = flow.child; parent = flow.parent; amount = flow.amount }

-- the sum so far at each number of a list, from i on
abbrev pub totals : ℕ → List ℕ → List ℕ
totals i [] = []
totals i (n ∷ ns) = (i + n) ∷ totals (i + n) ns

-- parts as they are shown: the fee and the size of each, and where its places and its flows end
pub record AreShown (shown : List LinearPart) (parts : List Part) : Type 0 where
  pub rates : map (λ part. sum_from part.rate) shown ≡ map (λ part. part.rate) parts
  pub ends : map (λ part. part.end) shown ≡ totals 0 (map (λ part. length part.ids) parts)
  pub flow_ends : map (λ part. part.flow_end) shown ≡ totals 0 (map (λ part. length part.flows) parts)

-- ---- how it is kept

-- the parts that ends cut off a list of places and a list of flows, which begin at positions i and j
abbrev pub parts_from : ℕ → ℕ → List LinearPart → List ℕ → List PlaceFlow → List Part
parts_from i j [] order flows = []
parts_from i j (part ∷ parts) order flows =
    record {
      rate = sum_from part.rate;
      ids = take (part.end - i) order;
      flows = map named (take (part.flow_end - j) flows);
    }
    ∷ parts_from part.end part.flow_end parts (drop (part.end - i) order) (drop (part.flow_end - j) flows)

-- what is left of a list behind the last end
abbrev pub left_from : {X : Type 0} → ℕ → List ℕ → List X → List X
left_from i [] xs = xs
left_from i (e ∷ ends) xs = left_from e ends (drop (e - i) xs)

-- the ends rise, and lie within a list of this length
abbrev pub AreEnds : ℕ → List ℕ → ℕ → Type 0
AreEnds i [] n = Unit {0}
AreEnds i (e ∷ ends) n = (i ≤ e) × (e - i ≤ n) × AreEnds e ends (n - (e - i))

abbrev pub written_of : List LinearPart → List ℕ → List PlaceFlow → Written
written_of parts order flows = record {
  parts = parts_from 0 0 parts order flows;
  ids = left_from 0 (map (λ part. part.end) parts) order;
  flows = map named (left_from 0 (map (λ part. part.flow_end) parts) flows);
}

pub record IsKept (parts : List LinearPart) (order : List ℕ) (flows : List PlaceFlow) : Type 0 where
  pub ends : AreEnds 0 (map (λ part. part.end) parts) (length order)
  pub flow_ends : AreEnds 0 (map (λ part. part.flow_end) parts) (length flows)
