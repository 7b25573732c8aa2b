-- Feerate diagrams: the corners of a graph's best diagram, and how two diagrams compare, as in the cluster mempool posts of Wuille and
-- Daftuar and Bitcoin Core's `CompareChunks`. A point is a size in virtual bytes, and the fee in satoshis there.
use Rattle.std.specs.Prelude.{◌≡◌, ◌≢◌, ℕ, ◌+◌, ◌-◌, ◌≤◌, leb, if◌then◌else◌, ℤ, pos, ◌+ℤ◌, ◌-ℤ◌, ◌*ℤ◌, List, [], ◌∷◌, ◌++◌, map, flat_map, Contains}
use Rattle.fee_rate.specs.declared.rates.Sum.{Sum}
use Rattle.fee_rate.specs.Rates.{AtMost, Below, Same}
use Rattle.graphs.specs.declared.names.Verdict.{Verdict}
use Rattle.graphs.specs.declared.names.Verdict.TheVariants.{Better, Worse, Equal, Incomparable}
use Rattle.graphs.specs.Graphs.{Graph}
use Rattle.graphs.specs.Rates.{sum_of, sums}
use Rattle.graphs.specs.Linearizations.{IsClosedWithin, IsUnderDiagram}

-- The points where parts end, one after another, from an origin on.
abbrev pub ends_from : Sum → List Sum → List (ℕ × ℤ)
ends_from origin [] = []
ends_from origin (part ∷ parts) =
    let end : Sum = record { fee = origin.fee +ℤ part.fee; size = origin.size + part.size } in
    (end.size, end.fee) ∷ ends_from end parts

-- The corners of segments: (0, 0), and the end of each segment.
abbrev pub corners_of : List Sum → List (ℕ × ℤ)
corners_of segments = (0, pos 0) ∷ ends_from (record { fee = pos 0; size = 0 }) segments

-- Each rate is strictly below the one before it.
abbrev pub FallsStrictly : List Sum → Type 0
FallsStrictly [] = Unit {0}
FallsStrictly (a ∷ []) = Unit {0}
FallsStrictly (a ∷ b ∷ rest) = Below b a × FallsStrictly (b ∷ rest)

-- Segments join parts of equal rate that follow each other, and no others.
pub record JoinsEqualRates (parts segments : List Sum) : Type 0 where
  pub groups : List (List Sum)
  pub all : parts ≡ flat_map (λ group. group) groups
  pub sums : segments ≡ map sum_of groups
  pub filled : (group : List Sum) → Contains groups group → group ≢ []
  pub equal : (group : List Sum) (a b : Sum) → Contains groups group → Contains group a → Contains group b → Same a b
  pub falling : FallsStrictly segments

-- The corners of a graph's best diagram: the segments between them have sizes of at least 1 and strictly falling rates, and end at the
-- graph's total; a closed set reaches each corner, and no closed set lies above a segment.
pub record AreCorners (rate : ℕ → Sum) (graph : Graph) (corners : List (ℕ × ℤ)) : Type 0 where
  pub segments : List Sum
  pub between : corners ≡ corners_of segments
  pub some : (segment : Sum) → Contains segments segment → 1 ≤ segment.size
  pub falling : FallsStrictly segments
  pub whole : sum_of segments ≡ sums rate graph.names
  pub reached : (before after : List Sum) → segments ≡ before ++ after
      → (set : List ℕ) × IsClosedWithin graph.pairs graph.names set × (sums rate set ≡ sum_of before)
  pub highest : (set : List ℕ) → IsClosedWithin graph.pairs graph.names set → IsUnderDiagram segments (sums rate set)

-- The height at a size on the line from one point to another, as a fee over a size.
abbrev pub height_between : ℕ × ℤ → ℕ × ℤ → ℕ → Sum
height_between p q x = record {
  fee = (p.1 *ℤ pos (q.0 - p.0)) +ℤ ((q.1 -ℤ p.1) *ℤ (pos x -ℤ pos p.0));
  size = q.0 - p.0;
}

-- The height of a diagram at a size: on the first line that reaches the size, and past the end the last corner's fee.
abbrev pub height_at : List (ℕ × ℤ) → ℕ → Sum
height_at [] x = record { fee = pos 0; size = 1 }
height_at (p ∷ []) x = record { fee = p.1; size = 1 }
height_at (p ∷ q ∷ rest) x = if leb x q.0 then height_between p q x else height_at (q ∷ rest) x

-- a's diagram is at or above b's at every size.
abbrev pub IsAtOrAbove : List (ℕ × ℤ) → List (ℕ × ℤ) → Type 0
IsAtOrAbove a b = (x : ℕ) → AtMost (height_at b x) (height_at a x)

-- The verdict of a's diagram over b's.
abbrev pub Compares : List (ℕ × ℤ) → List (ℕ × ℤ) → Verdict → Type 0
Compares a b Equal = IsAtOrAbove a b × IsAtOrAbove b a
Compares a b Better = IsAtOrAbove a b × (IsAtOrAbove b a → ⊥)
Compares a b Worse = (IsAtOrAbove a b → ⊥) × IsAtOrAbove b a
Compares a b Incomparable = (IsAtOrAbove a b → ⊥) × (IsAtOrAbove b a → ⊥)
