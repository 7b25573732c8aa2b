-- How far a walk over parts has come, and which corners it still gives.
use Rattle.std.specs.Prelude.{◌≡◌, ℕ, ◌+◌, ◌≤◌, ℤ, List, [], ◌∷◌, ◌++◌, Contains, Option, MatchOption}
use Rattle.std.specs.Iterator.{AlwaysYields, Count, IsFinite, at_most, count_map}
use Rattle.fee_rate.specs.declared.rates.FeeRate.{FeeRate}
use Rattle.fee_rate.specs.declared.rates.Sum.{Sum}
use Rattle.fee_rate.specs.Laws.{joined}
use Rattle.fee_rate.specs.Limits.{IsSum}
use Rattle.fee_rate.specs.Rates.{AtMost, Below}
use Rattle.graphs.specs.Rates.{sum_of, Falls}
use Rattle.graphs.specs.Diagrams.{ends_from, JoinsEqualRates}
use Rattle.diagram.specs.declared.segments.Ahead.{Ahead}
use Rattle.diagram.specs.declared.segments.Ahead.TheVariants.{Unknown, Part, End}
use Rattle.diagram.specs.declared.segments.Corners.{Corners}
use Rattle.diagram.specs.Parts.{rate_of}

-- The parts of a level that follow others: falling, with sizes, and in range together with the sum of those before them.
pub record FitBehind (before : Sum) (parts : List Sum) : Type 0 where
  pub falling : Falls parts
  pub some : (part : Sum) → Contains parts part → 1 ≤ part.size
  pub ranged : (part : Sum) → Contains parts part → IsSum part
  pub fits : (front rest : List Sum) → parts ≡ front ++ rest → IsSum (joined before (sum_of front))

-- the parts that are left, where `Behind` says which the iterator still gives
abbrev pub AreAhead : Ahead → (List Sum → Type 0) → List Sum → Type 0
AreAhead Unknown Behind rest = Behind rest
AreAhead (Part first) Behind rest = (more : List Sum) × (rest ≡ first ∷ more) × Behind more
AreAhead End Behind rest = rest ≡ []

-- the same of a walk
abbrev pub AreLeft : {S : Type 0} → (S → Option FeeRate → S → Type 0) → Corners S → List Sum → Type 0
AreLeft steps s rest = AreAhead s.ahead (AlwaysYields steps rate_of s.parts) rest

-- a fact about the iterator while it may still give parts
abbrev pub UnlessEnded : Ahead → Type 0 → Type 0
UnlessEnded Unknown Fact = Fact
UnlessEnded (Part first) Fact = Fact
UnlessEnded End Fact = Unit {0}

-- the corners from an end on, the first of them where no part was taken yet
abbrev pub corners_from : Ahead → Sum → List Sum → List (ℕ × ℤ)
corners_from Unknown end segments = (end.size, end.fee) ∷ ends_from end segments
corners_from (Part first) end segments = ends_from end segments
corners_from End end segments = ends_from end segments

-- A walk's remaining corners: the ends of the segments that its remaining parts join to.
pub record HasCorners {S : Type 0} (steps : S → Option FeeRate → S → Type 0) (s : Corners S) (corners : List (ℕ × ℤ)) : Type 0 where
  pub rest : List Sum
  pub segments : List Sum
  pub left : AreLeft steps s rest
  pub level : FitBehind s.end rest
  pub joins : JoinsEqualRates rest segments
  pub are : corners ≡ corners_from s.ahead s.end segments

-- one call gives the first of the remaining corners and leaves the others, whichever they are
abbrev pub corner_steps : {S : Type 0} → (S → Option FeeRate → S → Type 0) → Corners S → Option (ℕ × ℤ) → Corners S → Type 0
corner_steps steps s r t = (corners : List (ℕ × ℤ)) → HasCorners steps s corners
    → MatchOption r (corners ≡ []) (λ corner. (others : List (ℕ × ℤ)) × (corners ≡ corner ∷ others) × HasCorners steps t others)

-- a walk may go on: its remaining parts are those of a level
pub record CanGoOn {S : Type 0} (can : S → Type 0) (steps : S → Option FeeRate → S → Type 0) (left : S → Count) (s : Corners S) : Type 0 where
  pub callable : UnlessEnded s.ahead (can s.parts × IsFinite (left s.parts))
  pub rest : List Sum
  pub are : AreLeft steps s rest
  pub level : FitBehind s.end rest

-- a count of parts with one more, unless the walk has ended
abbrev pub corners_count : Ahead → Count → Count
corners_count Unknown n = count_map (λ k. k + 1) n
corners_count (Part first) n = count_map (λ k. k + 1) n
corners_count End n = at_most 0

-- no more corners than parts and one
abbrev pub corners_left : {S : Type 0} → (S → Count) → Corners S → Count
corners_left left s = corners_count s.ahead (left s.parts)

-- a fact about the iterator where a part was taken out of it last; where none came, it isn't called again
abbrev pub WhereTaken : Ahead → Type 0 → Type 0
WhereTaken Unknown Fact = ⊥
WhereTaken (Part first) Fact = Fact
WhereTaken End Fact = Unit {0}

-- The parts of the first one's rate were taken, and the one behind them, which has a lower rate.
pub record TakesSegment {S : Type 0} (steps : S → Option FeeRate → S → Type 0) (before first : Sum) (more : List Sum) (t : Corners S) : Type 0 where
  pub group : List Sum
  pub after : List Sum
  pub all : more ≡ group ++ after
  pub same : (part : Sum) → Contains group part → AtMost first part
  pub lower : (part : Sum) (rest : List Sum) → after ≡ part ∷ rest → Below part first
  pub end : t.end ≡ joined before (sum_of (first ∷ group))
  pub left : AreLeft steps t after
