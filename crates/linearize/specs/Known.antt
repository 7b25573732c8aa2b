-- Parts that are known before anything is solved: what certifies them, and that they can't be cut, are facts of their own members and of
-- the relation among these. So they stay facts in every graph with these members, their rates and the relation among them.
use Rattle.std.specs.Prelude.{◌≡◌, ◌≢◌, ◌⊎◌, ℕ, ◌-◌, true, Option, None, Some, List, [], ◌∷◌, ◌++◌, length, map, take, drop, Contains}
use Rattle.lists.specs.Distinct.{AreDistinct}
use Rattle.fee_rate.specs.Rates.{Same}
use Rattle.graphs.specs.Closing.{IsClosureOf}
use Rattle.graphs.specs.Closures.{Closure, is_ancestor, IsCover}
use Rattle.graphs.specs.Graphs as model
use Rattle.graphs.specs.Rates.{sums}
use Rattle.graphs.specs.Certificates.{Part, Certifies, IsCertificate}
use Rattle.graphs.specs.Minimal.{AreMinimal}
use Rattle.linearize.specs.declared.draft.PlaceFlow.{PlaceFlow}
use Rattle.linearize.specs.declared.old.OldPart.{OldPart}
use Rattle.linearize.specs.Drafts.{named}
use Rattle.linearize.specs.Graphs.{sum_at, sum_from}

-- an ancestor with no third of some members between
pub record IsCoverAmong (dep : Closure) (ids : List ℕ) (a d : ℕ) : Type 0 where
  pub ancestor : is_ancestor dep a d ≡ true
  pub other : a ≢ d
  pub direct : (m : ℕ) → Contains ids m → is_ancestor dep a m ≡ true → is_ancestor dep m d ≡ true → (m ≡ a) ⊎ (m ≡ d)

-- some of these members, each once, with every ancestor of each that is one of them
pub record IsClosedAmong (dep : Closure) (ids set : List ℕ) : Type 0 where
  pub once : AreDistinct set
  pub inside : (p : ℕ) → Contains set p → Contains ids p
  pub ancestors : (a d : ℕ) → is_ancestor dep a d ≡ true → Contains set d → Contains ids a → Contains set a

-- A part with its fee and size, and flows that certify it over pairs with none of it between. Of its closed sets only the whole has its rate.
pub record IsKnown (dep : Closure) (part : Part) : Type 0 where
  pub summed : part.rate ≡ sums (sum_at dep) part.ids
  pub flows : Certifies (sum_at dep) (IsCoverAmong dep part.ids) part.ids part.flows
  pub uncut : (set : List ℕ) → IsClosedAmong dep part.ids set → set ≢ [] → Same (sums (sum_at dep) set) part.rate
      → (p : ℕ) → Contains part.ids p → Contains set p

-- the part that an old one is, by lists of places and of flows
abbrev pub old_part : List ℕ → List PlaceFlow → OldPart → Part
old_part places flows old = record {
  rate = sum_from old.rate;
  ids = take (old.end - old.start) (drop old.start places);
  flows = map named (take (old.flow_end - old.flow_start) (drop old.flow_start flows));
}

-- each part that is said to be known is, with these flows
abbrev pub AreKnown : Closure → List OldPart → List ℕ → List PlaceFlow → Type 0
AreKnown dep parts places flows = (old : OldPart) → Contains parts old → old.known ≡ true → IsKnown dep (old_part places flows old)

-- there are such flows
abbrev pub HaveFlows : Closure → List OldPart → List ℕ → Type 0
HaveFlows dep parts places = (flows : List PlaceFlow) × AreKnown dep parts places flows

-- ---- known parts in a new order: these are written without their flows, which the caller keeps

-- a part as it is written, without flows where it is an old one that is known
abbrev pub IsTaken : List OldPart → List ℕ → Option OldPart → Part → Type 0
IsTaken olds places None part = Unit {0}
IsTaken olds places (Some old) part =
    Contains olds old × (old.known ≡ true)
    × (part ≡ record { rate = sum_from old.rate; ids = take (old.end - old.start) (drop old.start places); flows = [] })

-- The first parts of an order, each with the old part that it is, if any. Those behind are none of the old ones.
abbrev pub AreTaken : List OldPart → List ℕ → List (Option OldPart) → List Part → Type 0
AreTaken olds places [] parts = Unit {0}
AreTaken olds places (from ∷ froms) [] = ⊥
AreTaken olds places (from ∷ froms) (part ∷ parts) = IsTaken olds places from part × AreTaken olds places froms parts

-- a part with its flows, which for an old one are among those of the caller
abbrev pub filled : List ℕ → List PlaceFlow → Option OldPart → Part → Part
filled places flows None part = part
filled places flows (Some old) part = old_part places flows old

abbrev pub all_filled : List ℕ → List PlaceFlow → List (Option OldPart) → List Part → List Part
all_filled places flows [] parts = parts
all_filled places flows (from ∷ froms) [] = []
all_filled places flows (from ∷ froms) (part ∷ parts) = filled places flows from part ∷ all_filled places flows froms parts

-- with flows that certify the old parts, the parts certify each plain graph that the members stand for
abbrev pub AreCertified : Closure → List OldPart → List ℕ → List (Option OldPart) → List Part → Type 0
AreCertified dep olds places froms parts =
    (flows : List PlaceFlow) → AreKnown dep olds places flows → (graph : model.Graph) → IsClosureOf dep graph
    → IsCertificate (sum_at dep) graph (model.IsCover graph.pairs) (all_filled places flows froms parts)

-- and none of them can be cut further
abbrev pub AreAllMinimal : Closure → List OldPart → List ℕ → List (Option OldPart) → List Part → Type 0
AreAllMinimal dep olds places froms parts =
    (flows : List PlaceFlow) → AreKnown dep olds places flows → (graph : model.Graph) → IsClosureOf dep graph
    → AreMinimal (sum_at dep) graph.pairs (all_filled places flows froms parts)

-- ---- while an order is written

-- A part as it is written: with flows that certify it, or without, where it is an old one. Between two of an old part's members with none of it
-- between there is then none at all.
abbrev pub IsHeld : Closure → List OldPart → List ℕ → Option OldPart → Part → Type 0
IsHeld dep olds places None part = Certifies (sum_at dep) (IsCover dep) part.ids part.flows
IsHeld dep olds places (Some old) part =
    IsTaken olds places (Some old) part
    × ((a d : ℕ) → Contains part.ids a → Contains part.ids d → IsCoverAmong dep part.ids a d → IsCover dep a d)

-- so many entries, of which those that came to the old ones are none of the old parts
pub record FillsUp (count : ℕ) (old new : List (Option OldPart)) : Type 0 where
  pub more : List (Option OldPart)
  pub is : new ≡ old ++ more
  pub none : (from : Option OldPart) → Contains more from → from ≡ None
  pub long : length new ≡ count
