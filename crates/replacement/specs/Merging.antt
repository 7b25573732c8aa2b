-- Two walks over parts in falling rate, merged to one.
use Rattle.std.specs.Prelude.{◌≡◌, ◌⊎◌, ◌+◌, ◌*◌, ◌≤◌, unsigned_abs, List, [], ◌∷◌, ◌++◌, Contains, sum_by, Option, Some, None, IfSome, MatchOption}
use Rattle.std.specs.Iterator.{AlwaysYields, Count, IsFinite, at_most, count_add, count_map}
use Rattle.fee_rate.specs.declared.limits.TheConstants.{MAX_FEE, MAX_SIZE, MAX_TOTAL}
use Rattle.fee_rate.specs.declared.rates.FeeRate.{FeeRate}
use Rattle.fee_rate.specs.declared.rates.Sum.{Sum}
use Rattle.fee_rate.specs.Rates.{AtMost, Below}
use Rattle.graphs.specs.Rates.{sum_of, Falls}
use Rattle.diagram.specs.Parts.{rate_of}
use Rattle.replacement.specs.Changes.{HaveSizes, IsMerged}
use Rattle.replacement.specs.declared.merged.Front.{Front}
use Rattle.replacement.specs.declared.merged.Front.TheVariants.{One, Other, Neither}
use Rattle.replacement.specs.declared.merged.Merged.{Merged}
use Rattle.replacement.specs.declared.merged.Peeked.{Peeked}

-- Each part has a size of at least 1, and all together are in the range of a level's sums, also where each fee is taken without its sign.
pub record FitTogether (parts : List Sum) : Type 0 where
  pub some : HaveSizes parts
  pub fees : sum_by (λ part. unsigned_abs part.fee) parts ≤ MAX_FEE * MAX_TOTAL
  pub sizes : (sum_of parts).size ≤ MAX_SIZE * MAX_TOTAL

-- Two iterators give parts in falling rate and then none, each its own, and the parts of both fit together.
pub record YieldBoth {S T : Type 0} (steps : S → Option FeeRate → S → Type 0) (others : T → Option FeeRate → T → Type 0) (s : S) (t : T)
    (ones more : List Sum) : Type 0 where
  pub one : AlwaysYields steps rate_of s ones
  pub other : AlwaysYields others rate_of t more
  pub falling : Falls ones
  pub more_falling : Falls more
  pub fit : FitTogether (ones ++ more)

-- Parts of a level that fit together still do where some of them are left out.
abbrev pub FewerFitTogether : Type 0
FewerFitTogether = (alone upper tail level : List Sum) → IsMerged alone (upper ++ tail) level → FitTogether level → FitTogether (alone ++ tail)

-- ---- a walk of which the next part was taken ahead

-- the parts that it still gives, where `Behind` says those behind the next
abbrev pub AreAhead : Option FeeRate → (List Sum → Type 0) → List Sum → Type 0
AreAhead None Behind parts = parts ≡ []
AreAhead (Some part) Behind parts = (more : List Sum) × (parts ≡ rate_of part ∷ more) × Behind more

-- the same of the walk itself
abbrev pub AreLeft : {S : Type 0} → (S → Option FeeRate → S → Type 0) → Peeked S → List Sum → Type 0
AreLeft steps walk parts = AreAhead walk.next (AlwaysYields steps rate_of walk.rest) parts

-- where it gives a part, the one behind may be taken
abbrev pub IsReady : {S : Type 0} → (S → Type 0) → (S → Count) → Peeked S → Type 0
IsReady can left walk = (part : FeeRate) → walk.next ≡ Some part → can walk.rest × IsFinite (left walk.rest)

-- a count of what is behind, and the next part
abbrev pub count_ahead : Option FeeRate → Count → Count
count_ahead None behind = at_most 0
count_ahead (Some part) behind = count_map (λ n. n + 1) behind

-- no more parts than these are left
abbrev pub peeked_left : {S : Type 0} → (S → Count) → Peeked S → Count
peeked_left left walk = count_ahead walk.next (left walk.rest)

-- ---- two walks

-- the next part of the higher rate, the first walk's where rates are equal
abbrev pub IsHigher : Option FeeRate → Option FeeRate → Front → Type 0
IsHigher one other (One part) = (one ≡ Some part) × IfSome other (λ b. AtMost (rate_of b) (rate_of part))
IsHigher one other (Other part) = (other ≡ Some part) × IfSome one (λ a. Below (rate_of a) (rate_of part))
IsHigher one other Neither = (one ≡ None) × (other ≡ None)

-- a list's first part, where it has one, has at most a rate
abbrev pub BeginsAtMost : Sum → List Sum → Type 0
BeginsAtMost rate [] = Unit {0}
BeginsAtMost rate (part ∷ parts) = AtMost part rate

-- and a lower one
abbrev pub BeginsBelow : Sum → List Sum → Type 0
BeginsBelow rate [] = Unit {0}
BeginsBelow rate (part ∷ parts) = Below part rate

-- A part was taken off the front of one of two lists, the one that begins with the higher rate, and the first where rates are equal.
abbrev pub Takes : Sum → List Sum → List Sum → List Sum → List Sum → Type 0
Takes part ones others ones_left others_left =
    ((ones ≡ part ∷ ones_left) × (others ≡ others_left) × BeginsAtMost part others)
    ⊎ ((others ≡ part ∷ others_left) × (ones ≡ ones_left) × BeginsBelow part ones)

-- one call takes the next part off what is left to the two walks, whatever that is
abbrev pub merged_steps : {S T : Type 0} → (S → Option FeeRate → S → Type 0) → (T → Option FeeRate → T → Type 0)
    → Merged S T → Option FeeRate → Merged S T → Type 0
merged_steps steps more s r t = (ones others : List Sum) → AreLeft steps s.one ones → AreLeft more s.other others
    → MatchOption r ((ones ≡ []) × (others ≡ []))
    (λ part. (ones_left others_left : List Sum) × Takes (rate_of part) ones others ones_left others_left
    × AreLeft steps t.one ones_left × AreLeft more t.other others_left)

-- both walks may go on, and what is left to them is parts
pub record CanMerge {S T : Type 0} (can : S → Type 0) (steps : S → Option FeeRate → S → Type 0) (left : S → Count)
    (able : T → Type 0) (more : T → Option FeeRate → T → Type 0) (behind : T → Count) (s : Merged S T) : Type 0 where
  pub one : IsReady can left s.one
  pub other : IsReady able behind s.other
  pub ones : List Sum
  pub others : List Sum
  pub ones_left : AreLeft steps s.one ones
  pub others_left : AreLeft more s.other others

-- no more parts than are left to both
abbrev pub merged_left : {S T : Type 0} → (S → Count) → (T → Count) → Merged S T → Count
merged_left left behind s = count_add (peeked_left left s.one) (peeked_left behind s.other)
