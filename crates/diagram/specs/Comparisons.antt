-- Two walks over corners, side by side, and what they know of the two diagrams at a size.
use Rattle.std.specs.Prelude.{◌≡◌, ◌⊎◌, ℕ, ◌+◌, ◌≤◌, ℤ, List, [], ◌∷◌, Contains, Option, Some, None}
use Rattle.std.specs.Iterator.{AlwaysYields, Count, IsFinite, size}
use Rattle.std.specs.declared.cmp.Ordering.{Ordering}
use Rattle.fee_rate.specs.declared.rates.Sum.{Sum}
use Rattle.fee_rate.specs.Limits.{InRange}
use Rattle.fee_rate.specs.Rates.{ComparesRates}
use Rattle.graphs.specs.Diagrams.{height_between, height_at}
use Rattle.std.specs.declared.cmp.Ordering.TheVariants.{Less, Equal, Greater}
use Rattle.graphs.specs.declared.names.Verdict.{Verdict}
use Rattle.graphs.specs.declared.names.Verdict.TheVariants.{Better, Worse, Incomparable}
use Rattle.graphs.specs.declared.names.Verdict.TheVariants.{Equal as Even}
use Rattle.diagram.specs.declared.sides.Line.{Line}
use Rattle.diagram.specs.declared.sides.Nearest.{Nearest}
use Rattle.diagram.specs.declared.sides.Nearest.TheVariants.{First, Second, Neither}
use Rattle.diagram.specs.declared.sides.Side.{Side}
use Rattle.diagram.specs.Points.{Rises}

-- the height at a size on the line from a corner to the next, or past the last corner
abbrev pub height_from : ℕ × ℤ → Option (ℕ × ℤ) → ℕ → Sum
height_from p None x = record { fee = p.1; size = 1 }
height_from p (Some q) x = height_between p q x

-- a size is on a line: at or behind its first corner, and not behind its second
pub record IsOn (line : Line) (x : ℕ) : Type 0 where
  pub from : line.from.0 ≤ x
  pub to : (next : ℕ × ℤ) → line.to ≡ Some next → x ≤ next.0
  pub rising : (next : ℕ × ℤ) → line.to ≡ Some next → line.from.0 + 1 ≤ next.0

-- both ends of a line are in range
pub record IsInRange (line : Line) : Type 0 where
  pub from : InRange line.from.1 line.from.0
  pub to : (next : ℕ × ℤ) → line.to ≡ Some next → InRange next.1 next.0

-- the corners from the first one of a walk's line on, where `Behind` says which the iterator still gives
abbrev pub ArePoints : ℕ × ℤ → Option (ℕ × ℤ) → (List (ℕ × ℤ) → Type 0) → List (ℕ × ℤ) → Type 0
ArePoints from None Behind points = points ≡ from ∷ []
ArePoints from (Some next) Behind points = (more : List (ℕ × ℤ)) × (points ≡ from ∷ next ∷ more) × Behind more

-- the same of a walk
abbrev pub HasPoints : {S : Type 0} → (S → Option (ℕ × ℤ) → S → Type 0) → Side S → List (ℕ × ℤ) → Type 0
HasPoints steps side points = ArePoints side.line.from side.line.to (AlwaysYields steps (λ corner. corner) side.rest) points

-- a walk whose next corner is known may take the one behind it
abbrev pub IsReady : {S : Type 0} → (S → Type 0) → (S → Count) → Side S → Type 0
IsReady can left side = (next : ℕ × ℤ) → side.line.to ≡ Some next → can side.rest × IsFinite (left side.rest)

-- n + 1 while there is a next corner
abbrev pub pending_of : Option (ℕ × ℤ) → ℕ → ℕ
pending_of None n = 0
pending_of (Some next) n = n + 1

-- no more corners than these are still to be passed
abbrev pub pending : {S : Type 0} → (S → Count) → Side S → ℕ
pending left side = pending_of side.line.to (size (left side.rest))

-- Corners from the one at or before a size on: the size is not behind the second of them.
pub record StandAt (points : List (ℕ × ℤ)) (x : ℕ) : Type 0 where
  pub rising : Rises points
  pub ranged : (point : ℕ × ℤ) → Contains points point → InRange point.1 point.0
  pub from : (p : ℕ × ℤ) (rest : List (ℕ × ℤ)) → points ≡ p ∷ rest → p.0 ≤ x
  pub to : (p q : ℕ × ℤ) (rest : List (ℕ × ℤ)) → points ≡ p ∷ q ∷ rest → x ≤ q.0

-- a walk stays where it is, or goes on to its next corner, which is at that size
abbrev pub Follows : List (ℕ × ℤ) → List (ℕ × ℤ) → ℕ → Type 0
Follows old new x = (new ≡ old) ⊎ ((p q : ℕ × ℤ) × (rest : List (ℕ × ℤ)) × (old ≡ p ∷ q ∷ rest) × (new ≡ q ∷ rest) × (q.0 ≡ x))

-- Both walks went on to a size, at which the first diagram's height stands so to the second's.
pub record Moves (firsts seconds : List (ℕ × ℤ)) (x : ℕ) (new_firsts new_seconds : List (ℕ × ℤ)) (y : ℕ) (here : Ordering) : Type 0 where
  pub later : x ≤ y
  pub first : Follows firsts new_firsts y
  pub second : Follows seconds new_seconds y
  pub first_stands : StandAt new_firsts y
  pub second_stands : StandAt new_seconds y
  pub compared : ComparesRates (height_at new_firsts y) (height_at new_seconds y) here

-- the nearer of two next corners, the first where they are at one size
abbrev pub NearestIs : Option (ℕ × ℤ) → Option (ℕ × ℤ) → Nearest → Type 0
NearestIs a b (First corner) = (a ≡ Some corner) × ((other : ℕ × ℤ) → b ≡ Some other → corner.0 ≤ other.0)
NearestIs a b (Second corner) = (b ≡ Some corner) × ((other : ℕ × ℤ) → a ≡ Some other → corner.0 ≤ other.0)
NearestIs a b Neither = (a ≡ None) × (b ≡ None)

-- what is found of two diagrams where the first one is below the second at a further size
abbrev pub and_below : Verdict → Verdict
and_below Better = Incomparable
and_below Worse = Worse
and_below Even = Worse
and_below Incomparable = Incomparable

-- and where it is above
abbrev pub and_above : Verdict → Verdict
and_above Better = Better
and_above Worse = Incomparable
and_above Even = Better
and_above Incomparable = Incomparable

-- what is found with how the first stands to the second at a further size
abbrev pub and_here : Verdict → Ordering → Verdict
and_here found Less = and_below found
and_here found Equal = found
and_here found Greater = and_above found
