-- The order before a change, by the places that its names have now.
use Rattle.std.specs.Prelude.{◌≡◌, ◌⊎◌, ℕ, ◌-◌, ◌≤◌, ◌<◌, Bool, true, List, ◌++◌, length, map, take, drop, slice_index, Contains}
use Rattle.dep_graph.specs.Numbers.{number_in}
use Rattle.graphs.specs.Closures.{Closure, is_ancestor, rate_of}
use Rattle.graphs.specs.declared.names.Flow.{Flow}
use Rattle.graphs.specs.Certificates.{Part}
use Rattle.graphs.specs.Picks.{FollowOrder, links_of}
use Rattle.linearize.specs.declared.draft.PlaceFlow.{PlaceFlow}
use Rattle.linearize.specs.declared.old.OldPart.{OldPart}
use Rattle.linearize.specs.Graphs.{sum_from}
use Rattle.linearize.specs.Known.{IsKnown, old_part}
use Rattle.cluster.specs.Orders.{own_flows, renamed_flow}

-- the places of an old part
abbrev pub own_places : List ℕ → OldPart → List ℕ
own_places places old = take (old.end - old.start) (drop old.start places)

-- an old part lies within the lists of places and flows
pub record LiesWithin (places : List ℕ) (flows : List Flow) (old : OldPart) : Type 0 where
  pub order : old.start ≤ old.end
  pub end : old.end ≤ length places
  pub flow_order : old.flow_start ≤ old.flow_end
  pub flow_end : old.flow_end ≤ length flows

-- by the names of its places an old part is this one, whose flows are kept by names
pub record IsImage (names places : List ℕ) (flows : List Flow) (old : OldPart) (part : Part) : Type 0 where
  pub within : LiesWithin places flows old
  pub rate_is : sum_from old.rate ≡ part.rate
  pub ids_are : map (slice_index names) (own_places places old) ≡ part.ids
  pub flows_are : own_flows flows old ≡ part.flows
  pub below : (p : ℕ) → Contains (own_places places old) p → p < length names

-- each old part that is said to be known is one of some parts, by names
abbrev pub AreImages : List ℕ → (Part → Type 0) → List OldPart → List ℕ → List Flow → Type 0
AreImages names P parts places flows =
    (old : OldPart) → Contains parts old → old.known ≡ true → (part : Part) × P part × IsImage names places flows old part

-- places of names behind others, of all these names where it is said so
pub record PutsPlaces (names ids old new : List ℕ) (all : Bool) : Type 0 where
  pub more : List ℕ
  pub is : new ≡ old ++ more
  pub named : all ≡ true → map (slice_index names) more ≡ ids
  pub below : (p : ℕ) → Contains more p → p < length names

-- flows behind others, all of some where it is said so
pub record PutsFlows (flows old new : List Flow) (all : Bool) : Type 0 where
  pub more : List Flow
  pub is : new ≡ old ++ more
  pub all_are : all ≡ true → more ≡ flows

-- what is put behind the places, flows and parts of an old order: of new parts each that is said to be known is one of some parts, by names
pub record PutsPart (names : List ℕ) (P : Part → Type 0) (places : List ℕ) (flows : List Flow) (parts : List OldPart)
    (places' : List ℕ) (flows' : List Flow) (parts' : List OldPart) : Type 0 where
  pub more : List ℕ
  pub places_are : places' ≡ places ++ more
  pub more_flows : List Flow
  pub flows_are : flows' ≡ flows ++ more_flows
  pub each : (old : OldPart) → Contains parts' old → old.known ≡ true
      → Contains parts old ⊎ ((part : Part) × P part × IsImage names places' flows' old part)

-- the names keep their fees and sizes, and the relation among themselves
pub record Stay (old new : Closure) (ids : List ℕ) : Type 0 where
  pub rates : (id : ℕ) → Contains ids id → rate_of new id ≡ rate_of old id
  pub ancestors : (a d : ℕ) → Contains ids a → Contains ids d → is_ancestor new a d ≡ is_ancestor old a d

-- ---- what is known of old parts

-- a flow by the places of its names
abbrev pub at_places : List ℕ → Flow → PlaceFlow
at_places names flow = record {
  child = number_in names flow.child;
  parent = number_in names flow.parent;
  amount = flow.amount;
}

-- An old part is known by places. Its flows by names are the same flows, and stand by child, then by parent, in its order.
pub record IsSound (names : List ℕ) (dep : Closure) (places : List ℕ) (flows : List Flow) (old : OldPart) : Type 0 where
  pub within : LiesWithin places flows old
  pub known : IsKnown dep (old_part places (map (at_places names) flows) old)
  pub same : map (renamed_flow (slice_index names)) (old_part places (map (at_places names) flows) old).flows ≡ own_flows flows old
  pub follow : FollowOrder (map (slice_index names) (own_places places old)) (links_of (own_flows flows old))

abbrev pub AreSound : List ℕ → Closure → List OldPart → List ℕ → List Flow → Type 0
AreSound names dep parts places flows = (old : OldPart) → Contains parts old → old.known ≡ true → IsSound names dep places flows old
