-- What becomes of a plain graph when its closure is changed.
use Rattle.std.specs.Prelude.{◌≡◌, ℕ, true, false, length}
use Rattle.std.specs.Ordering.{nat_cmp}
use Rattle.std.specs.FinSet as set
use Rattle.graphs.specs.Closures.{Closure, is_member, is_ancestor, members_of, IsClosed, HoldsMembers, AddsPlace, AddsPair, DropsPlace, IsMerged, IsPart}
use Rattle.graphs.specs.Graphs.{Graph}
use Rattle.graphs.specs.Removals.{IsWithout}
use Rattle.graphs.specs.Closing.{IsClosureOf, with_name, with_pair, joined, within, AreWithout, KeepsBetween}
use Rattle.bitset.specs.Places.{places}
use Rattle.fee_rate.specs.declared.rates.FeeRate.{FeeRate}
use Rattle.dep_graph.specs.Numbers.{renumbered}

-- a new member brings no pair
abbrev pub PlaceKeepsPairs : Type 0
PlaceKeepsPairs = (n place : ℕ) (rate : FeeRate) (g h : Closure) (graph : Graph) → IsClosed n g → IsClosureOf g graph → AddsPlace g h rate place
    → IsClosureOf h (with_name graph place)

-- a dependency is one more pair
abbrev pub PairIsAdded : Type 0
PairIsAdded = (parent child : ℕ) (g h : Closure) (graph : Graph) → IsClosureOf g graph → is_member g parent ≡ true → is_member g child ≡ true
    → is_ancestor g child parent ≡ false
    → AddsPair g h parent child → IsClosureOf h (with_pair graph parent child)

-- a member is dropped when the pairs across it are there
abbrev pub PairsAreBridged : Type 0
PairsAreBridged = (place : ℕ) (g h : Closure) (old new : Graph) → IsClosureOf g old → IsWithout old place new → DropsPlace g h place → IsClosureOf h new

-- both graphs, numbered as the places are
abbrev pub PairsAreMerged : Type 0
PairsAreMerged = (n : ℕ) (f g h : Closure) (first second : Graph) → IsClosed n f → IsClosed n g → IsClosureOf f first → IsClosureOf g second
    → IsMerged f g (places n (members_of f)) (places n (members_of g)) h
    → IsClosureOf h (joined (renumbered (places n (members_of f)) 0 first) (renumbered (places n (members_of g)) (length (places n (members_of f))) second))

-- a part that holds what lies between its places has the pairs with both ends in it
abbrev pub PairsAreParted : Type 0
PairsAreParted = (n : ℕ) (g h : Closure) (s : set.FinSet nat_cmp) (graph : Graph) → IsClosed n g → IsClosureOf g graph → HoldsMembers g s
    → KeepsBetween (set.contains s) (is_ancestor g) → IsPart g (places n s) h → IsClosureOf h (renumbered (places n s) 0 (within (set.contains s) graph))

-- any part has the pairs that are left when the other members are dropped, one after another
abbrev pub PartIsBridged : Type 0
PartIsBridged = (n : ℕ) (g h : Closure) (s : set.FinSet nat_cmp) (old left : Graph) → IsClosed n g → IsClosureOf g old → HoldsMembers g s
    → AreWithout old (places n (set.difference (members_of g) s)) left → IsPart g (places n s) h → IsClosureOf h (renumbered (places n s) 0 left)
