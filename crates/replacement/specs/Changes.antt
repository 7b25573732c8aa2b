-- Levels told by their changes: the parts that stand in one level alone, beside those that stand in both.
use Rattle.std.specs.Prelude.{◌≡◌, ◌↔◌, ◌⊎◌, ◌+◌, ◌≤◌, pos, ◌≤ℤ◌, Bool, true, false, List, [], ◌∷◌, ◌++◌, map, filter, Contains, Option}
use Rattle.std.specs.List.Sorted.{IsPermutation}
use Rattle.fee_rate.specs.declared.rates.FeeRate.{FeeRate}
use Rattle.fee_rate.specs.declared.rates.Sum.{Sum}
use Rattle.graphs.specs.declared.names.Verdict.{Verdict}
use Rattle.graphs.specs.Rates.{sum_of, Falls}
use Rattle.graphs.specs.Diagrams.{corners_of, Compares, JoinsEqualRates}
use Rattle.diagram.specs.Parts.{AreLevelParts, YieldsParts}

-- the last part, where there is one, has a fee of at least 0
abbrev pub EndsNonNegative : List Sum → Type 0
EndsNonNegative parts = (before : List Sum) (last : Sum) → parts ≡ before ++ last ∷ [] → pos 0 ≤ℤ last.fee

-- each part has a size of at least 1
abbrev pub HaveSizes : List Sum → Type 0
HaveSizes parts = (part : Sum) → Contains parts part → 1 ≤ part.size

-- each part has a fee of at least 0 and a size of at least 1
pub record AreNonNegative (parts : List Sum) : Type 0 where
  pub fees : (part : Sum) → Contains parts part → pos 0 ≤ℤ part.fee
  pub some : HaveSizes parts

-- A level's parts are those of two lists, in falling rate. Equal rates stand in any order.
pub record IsMerged (alone common level : List Sum) : Type 0 where
  pub falling : Falls level
  pub same : IsPermutation (alone ++ common) level

-- the third test passes what either of two passes, which never pass the same
abbrev pub IsEither : Bool → Bool → Bool → Type 0
IsEither true true all = ⊥
IsEither true false all = all ≡ true
IsEither false true all = all ≡ true
IsEither false false all = all ≡ false

-- Every run of calls from s gives these parts and then none: parts of a level, the last of which has a fee of at least 0.
pub record YieldsChanges {S : Type 0} (steps : S → Option FeeRate → S → Type 0) (s : S) (parts : List Sum) : Type 0 where
  pub yields : YieldsParts steps s parts
  pub last : EndsNonNegative parts

-- Parts of fee at least 0 that are merged into both of two lists, whose own parts have such fees too, change no verdict.
abbrev pub CommonPartsKeepVerdicts : Type 0
CommonPartsKeepVerdicts =
    (mains tops common main top old new before after : List Sum) (verdict : Verdict)
    → AreNonNegative mains → AreNonNegative tops → AreNonNegative common → IsMerged mains common main → IsMerged tops common top
    → JoinsEqualRates mains old → JoinsEqualRates tops new → JoinsEqualRates main before → JoinsEqualRates top after
    → Compares (corners_of new) (corners_of old) verdict ↔ Compares (corners_of after) (corners_of before) verdict

-- parts together are at least as large as two other lists differ in size
pub record CoverDifference (mains tops parts : List Sum) : Type 0 where
  pub main : (sum_of mains).size ≤ (sum_of tops).size + (sum_of parts).size
  pub top : (sum_of tops).size ≤ (sum_of mains).size + (sum_of parts).size

-- Parts that stand in both of two levels, in falling rate: upper ones, and behind them a tail that is enough to compare the
-- levels by, as it covers the difference of what stands in one alone, or as no upper part has a fee below 0.
pub record IsEnough (mains tops upper tail : List Sum) : Type 0 where
  pub falling : Falls (upper ++ tail)
  pub some : HaveSizes (upper ++ tail)
  pub enough : ((part : Sum) → Contains upper part → pos 0 ≤ℤ part.fee) ⊎ CoverDifference mains tops tail

-- Of the parts that stand in both levels the best ones change no verdict, where the others are enough: the levels compare as they do without them.
abbrev pub BestCommonPartsKeepVerdicts : Type 0
BestCommonPartsKeepVerdicts =
    (mains tops upper tail low_main low_top main top old new before after : List Sum) (verdict : Verdict)
    → HaveSizes mains → HaveSizes tops → IsEnough mains tops upper tail
    → IsMerged mains tail low_main → IsMerged tops tail low_top → IsMerged mains (upper ++ tail) main → IsMerged tops (upper ++ tail) top
    → JoinsEqualRates low_main old → JoinsEqualRates low_top new → JoinsEqualRates main before → JoinsEqualRates top after
    → Compares (corners_of new) (corners_of old) verdict ↔ Compares (corners_of after) (corners_of before) verdict

-- Where the last part of a level has a fee of at least 0, all parts have one, and what stands in it alone, in falling rate, is parts of a level again.
pub record ChangesAreLevelParts : Type 0 where
  pub last : (before : List Sum) (last : Sum) → EndsNonNegative (before ++ last ∷ []) ↔ (pos 0 ≤ℤ last.fee)
  pub none : EndsNonNegative []
  pub alone : (alone common level : List Sum) → AreLevelParts level → EndsNonNegative level → IsMerged alone common level → Falls alone
      → AreLevelParts alone × EndsNonNegative alone
  pub common : (alone common level : List Sum) → AreLevelParts level → EndsNonNegative level → IsMerged alone common level → AreNonNegative common

-- Entries in falling rate: those that pass a test fall too, and where two tests split the entries of a level, what passes each merges to the level.
pub record TestedPartsMerge (T : Type 0) : Type 0 where
  pub falling : (rate : T → Sum) (test : T → Bool) (entries : List T) → HaveSizes (map rate entries) → Falls (map rate entries)
      → Falls (map rate (filter test entries))
  pub merged : (rate : T → Sum) (alone common level : T → Bool) (entries : List T) → HaveSizes (map rate entries) → Falls (map rate entries)
      → ((entry : T) → IsEither (alone entry) (common entry) (level entry))
      → IsMerged (map rate (filter alone entries)) (map rate (filter common entries)) (map rate (filter level entries))
