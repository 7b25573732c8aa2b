-- How an order of places is read by names.
use Rattle.std.specs.Prelude.{◌≡◌, ◌⊎◌, ℕ, ◌+◌, ◌-◌, ◌<◌, ◌≤◌, pos, Option, None, Some, List, [], ◌++◌, length, map, take, drop, get_or, slice_index, slice_index_or, Contains, IfSome}
use Rattle.std.specs.List.{AllZip}
use Rattle.std.specs.List.Sorted.{IsPermutation}
use Rattle.lists.specs.Distinct.{AreDistinct}
use Rattle.graphs.specs.declared.names.Flow.{Flow}
use Rattle.graphs.specs.Certificates.{Part}
use Rattle.graphs.specs.Picks.{FollowOrder, links_of}
use Rattle.linearize.specs.declared.draft.PlaceFlow.{PlaceFlow}
use Rattle.linearize.specs.declared.old.OldPart.{OldPart}
use Rattle.linearize.specs.Drafts.{placed}
use Rattle.cluster.specs.declared.order.PartEnd.{PartEnd}
use Rattle.cluster.specs.Kept.{AreCut}

-- the places of parts are below n and stand once, and flows are within their part
pub record IsPlaced (n : ℕ) (parts : List Part) : Type 0 where
  pub once : AreDistinct (placed parts)
  pub below : (p : ℕ) → Contains (placed parts) p → p < n
  pub inside : (part : Part) → Contains parts part → (flow : Flow) → Contains part.flows flow → Contains part.ids flow.child × Contains part.ids flow.parent

-- for each place of an order its position in it
abbrev pub StandAt : List ℕ → List ℕ → Type 0
StandAt order positions = (i : ℕ) → i < length order → slice_index positions (slice_index order i) ≡ i

-- a flow by the positions of its places
abbrev pub at_positions : List ℕ → PlaceFlow → PlaceFlow
at_positions positions flow = record {
  child = slice_index positions flow.child;
  parent = slice_index positions flow.parent;
  amount = flow.amount;
}

-- a flow by the names at its positions
abbrev pub named_at : List ℕ → PlaceFlow → Flow
named_at order flow = record {
  child = slice_index order flow.child;
  parent = slice_index order flow.parent;
  amount = flow.amount;
}

-- a flow by the names of its places
abbrev pub renamed_flow : (ℕ → ℕ) → Flow → Flow
renamed_flow f flow = record { child = f flow.child; parent = f flow.parent; amount = flow.amount }

-- a list rises by child, then by parent
abbrev pub IsNoLater : PlaceFlow → PlaceFlow → Type 0
IsNoLater a b = (a.child < b.child) ⊎ ((a.child ≡ b.child) × (a.parent ≤ b.parent))

abbrev pub AreRising : List PlaceFlow → Type 0
AreRising flows = (i j : ℕ) (d : PlaceFlow) → i < j → j < length flows → IsNoLater (slice_index_or flows i d) (slice_index_or flows j d)

-- both places of each flow are below n
abbrev pub AreBelow : ℕ → List PlaceFlow → Type 0
AreBelow n flows = (flow : PlaceFlow) → Contains flows flow → (flow.child < n) × (flow.parent < n)

-- some flows by name, put behind others by child, then by parent
pub record AddsFlows (own : List PlaceFlow) (positions order : List ℕ) (old new : List Flow) : Type 0 where
  pub moved : List PlaceFlow
  pub same : IsPermutation (map (at_positions positions) own) moved
  pub rises : AreRising moved
  pub is : new ≡ old ++ map (named_at order) moved

-- A part's names stand in the order from some position on, and its flows rise in the order's positions.
pub record IsInOrder (order : List ℕ) (new : Part) : Type 0 where
  pub start : ℕ
  pub there : (k : ℕ) → k < length new.ids → (start + k < length order) × (slice_index order (start + k) ≡ slice_index new.ids k)
  pub moved : List PlaceFlow
  pub below : AreBelow (length order) moved
  pub rises : AreRising moved
  pub flows_are : new.flows ≡ map (named_at order) moved

-- A part of places by names, whose flows stand by child, then by parent: in the order's positions, or in the part's own order.
pub record IsReadPart (f : ℕ → ℕ) (order : List ℕ) (old new : Part) : Type 0 where
  pub rate_is : new.rate ≡ old.rate
  pub ids_are : new.ids ≡ map f old.ids
  pub same : IsPermutation (map (renamed_flow f) old.flows) new.flows
  pub in_order : IsInOrder order new ⊎ FollowOrder new.ids (links_of new.flows)

-- parts of places by names, one for one
abbrev pub AreRead : (ℕ → ℕ) → List ℕ → List Part → List Part → Type 0
AreRead f order old new = AllZip (IsReadPart f order) old new

-- an order of places was read
pub record IsRead (names : List ℕ) (old : List Part) (shown : List PartEnd) (order : List ℕ) (flows : List Flow) : Type 0 where
  pub parts : List Part
  pub read : AreRead (slice_index names) order old parts
  pub ends : AreCut shown order flows parts

-- ---- parts of which some are old ones, whose flows are copied

-- the flows of an old part, among those of all
abbrev pub own_flows : List Flow → OldPart → List Flow
own_flows flows old = take (old.flow_end - old.flow_start) (drop old.flow_start flows)

abbrev pub no_part : Part
no_part = record { rate = record { fee = pos 0; size = 0 }; ids = []; flows = [] }

-- a part of places by names, with the flows of an old one
pub record IsCopied (f : ℕ → ℕ) (known : List Flow) (from : OldPart) (old new : Part) : Type 0 where
  pub rate_is : new.rate ≡ old.rate
  pub ids_are : new.ids ≡ map f old.ids
  pub flows_are : new.flows ≡ own_flows known from

abbrev pub IsReadFrom : (ℕ → ℕ) → List ℕ → List Flow → Option OldPart → Part → Part → Type 0
IsReadFrom f order known None old new = IsReadPart f order old new
IsReadFrom f order known (Some from) old new = IsCopied f known from old new

-- the flows of old parts lie within a list
abbrev pub AreWithin : List (Option OldPart) → List Flow → Type 0
AreWithin froms known =
    (k : ℕ) → IfSome (get_or froms k None) (λ from. (from.flow_start ≤ from.flow_end) × (from.flow_end ≤ length known))

-- the flows of a part, put behind others: an old one's are copied
abbrev pub AddsPart : Option OldPart → List PlaceFlow → List ℕ → List ℕ → List Flow → List Flow → List Flow → Type 0
AddsPart None own positions order known old new = AddsFlows own positions order old new
AddsPart (Some from) own positions order known old new = new ≡ old ++ own_flows known from

-- an order of places was read, in which some parts are old ones
pub record IsReadOf (names : List ℕ) (froms : List (Option OldPart)) (known : List Flow) (old : List Part) (shown : List PartEnd)
    (order : List ℕ) (flows : List Flow) : Type 0 where
  pub parts : List Part
  pub long : length parts ≡ length old
  pub read : (k : ℕ) → k < length old
      → IsReadFrom (slice_index names) order known (get_or froms k None) (get_or old k no_part) (get_or parts k no_part)
  pub ends : AreCut shown order flows parts
