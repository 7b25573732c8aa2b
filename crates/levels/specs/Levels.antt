-- The levels of a graph: main, and staging where there is one.
use Rattle.std.specs.Prelude.{◌≡◌, ◌≢◌, ◌⊎◌, ◌↔◌, ℕ, ℤ, ◌+◌, ◌-◌, ◌^◌, ◌<◌, ◌≤◌, Bool, true, false, ◌&&◌, ◌||◌, cond, nat_eq, [], List, length, map, Contains, Option, None, Some, IfSome, is_some, refl}
use Rattle.std.specs.Coded.{Coded, code_by, coded×, coded_list, coded_option, coded_ℕ}
use Rattle.std.specs.FinMap as finmap
use Rattle.graphs.specs.declared.names.Level.{Level}
use Rattle.graphs.specs.declared.names.Level.TheVariants.{Main, Top}
use Rattle.graphs.specs.Closures.{Closure, closure_code, is_member, is_ancestor, rate_of, AreLinked, SetsFee}
use Rattle.fee_rate.specs.declared.rates.FeeRate.{FeeRate}
use Rattle.graph_model.specs.declared.names.Limits.{Limits}
use Rattle.graph_model.specs.Limits.{limits_code}
use Rattle.fee_rate.specs.declared.limits.TheConstants.{MAX_TOTAL}
use Rattle.fee_rate.specs.Limits.{IsRate}
use Rattle.graphs.specs.Closing.{IsClosureOf}
use Rattle.graphs.specs.Certificates.{Part}
use Rattle.graphs.specs.Graphs.{Graph, Lists}
use Rattle.graphs.specs.Linearizations.{IsOptimal}
use Rattle.graph_model.specs.States.{top_of}
use Rattle.cluster.specs.Clusters.{part_code, sum_at, ArePicked, AreUncut}
use Rattle.cluster.specs.Steps.{GrowsWithin}
use Rattle.record.specs.Steps.{most_steps_fit}
use Rattle.levels.specs.Oversize.{IsOversized}

-- of a level: each name with its fee, its size and its ancestors, and the parts of its order
pub record OneLevel : Type 0 where
  pub graph : Closure
  pub parts : List Part

-- the limits of clusters, main, staging where there is one, and how many names were added so far
pub record Levels : Type 0 where
  pub limits : Limits
  pub main : OneLevel
  pub staging : Option OneLevel
  pub issued : ℕ

abbrev pub level_code : Coded OneLevel
level_code =
    code_by (Closure × List Part) (coded× closure_code (coded_list part_code)) (λ l. (l.graph, l.parts)) (λ p. record { graph = p.0; parts = p.1 }) (λ _. refl)

abbrev pub levels_code : Coded Levels
levels_code =
    code_by (Limits × (OneLevel × (Option OneLevel × ℕ))) (coded× limits_code (coded× level_code (coded× (coded_option level_code) coded_ℕ)))
    (λ l. (l.limits, (l.main, (l.staging, l.issued))))
    (λ p. record { limits = p.0; main = p.1.0; staging = p.1.1.0; issued = p.1.1.1 }) (λ _. refl)

-- no name
abbrev pub empty_level : OneLevel
empty_level = record { graph = finmap.empty; parts = [] }

abbrev pub no_names : Limits → Levels
no_names limits = record { limits = limits; main = empty_level; staging = None; issued = 0 }

-- a level by its word: the top level is staging where there is one, else main
abbrev pub level_at : Levels → Level → OneLevel
level_at levels Main = levels.main
level_at levels Top = top_of levels.main levels.staging

-- another top level
abbrev pub with_top : Levels → OneLevel → Levels
with_top levels top = elim levels.staging as (λ _. Levels) [ None ↦ record levels { main = top } | Some _ ↦ record levels { staging = Some top } ]

-- The top level changes so, and main stays where there is a staging.
abbrev pub ChangesTop : (Closure → Closure → Type 0) → Levels → Levels → Type 0
ChangesTop Changes old new = (top : OneLevel) × Changes (level_at old Top).graph top.graph × (new ≡ with_top old top)

-- the name is in main or in staging
abbrev pub IsLive : Levels → ℕ → Type 0
IsLive levels id = (is_member levels.main.graph id ≡ true) ⊎ (is_member (level_at levels Top).graph id ≡ true)

-- A name may come, with this fee and size: it is in neither level, the fee and the size are in range, the size is within the limit of a
-- cluster, fewer names are live than may be, and fewer were added so far than can be counted.
pub record MayCome (levels : Levels) (id : ℕ) (rate : FeeRate) : Type 0 where
  pub absent : IsLive levels id → ⊥
  pub in_range : IsRate rate
  pub fits : rate.size ≤ levels.limits.size
  pub few : (ids : List ℕ) × Lists (IsLive levels) ids × (length ids < MAX_TOTAL)
  pub issued : levels.issued < 2 ^ 64 - 1

-- The parts of a level are a pick of it, and none of them can be cut further.
pub record HasPick (level : OneLevel) : Type 0 where
  pub picked : ArePicked level.graph level.parts
  pub uncut : AreUncut level.graph level.parts

-- A level has a pick, unless it is over the limits.
abbrev pub MayHavePick : Limits → OneLevel → Type 0
MayHavePick limits level = IsOversized limits level.graph ⊎ ((IsOversized limits level.graph → ⊥) × HasPick level)

abbrev pub HavePicks : Levels → Type 0
HavePicks levels = MayHavePick levels.limits levels.main × IfSome levels.staging (MayHavePick levels.limits)

-- The level isn't over the limits.
abbrev pub IsWithin : Levels → Level → Type 0
IsWithin levels level = IsOversized levels.limits (level_at levels level).graph → ⊥

-- Its parts are a pick, and so an optimal order of every graph that the level is the closure of.
pub record IsBest (level : OneLevel) : Type 0 where
  pub pick : HasPick level
  pub optimal : (graph : Graph) → IsClosureOf level.graph graph → IsOptimal (sum_at level.graph) graph (map (λ part. part.ids) level.parts)

-- one more name, in no relation to the others
pub record AddsName (old new : Closure) (id : ℕ) (rate : FeeRate) : Type 0 where
  pub members : (q : ℕ) → is_member new q ≡ (nat_eq q id || is_member old q)
  pub rate_is : rate_of new id ≡ rate
  pub rates : (q : ℕ) → q ≢ id → rate_of new q ≡ rate_of old q
  pub ancestors : (a d : ℕ) → is_ancestor new a d ≡ ((nat_eq a id && nat_eq d id) || is_ancestor old a d)

-- some names fewer: the others keep their rates and the relation among themselves
pub record LosesNames (old new : Closure) (gone : List ℕ) : Type 0 where
  pub members : (q : ℕ) → (is_member new q ≡ true) ↔ ((Contains gone q → ⊥) × (is_member old q ≡ true))
  pub rates : (q : ℕ) → (Contains gone q → ⊥) → rate_of new q ≡ rate_of old q
  pub ancestors : (a d : ℕ) → (is_ancestor new a d ≡ true) ↔ ((Contains gone a → ⊥) × (Contains gone d → ⊥) × (is_ancestor old a d ≡ true))

-- the name has another fee where the level has it, and else the level stays
abbrev pub SetsFeeOf : ℕ → ℤ → OneLevel → OneLevel → Type 0
SetsFeeOf id fee old new =
    (is_member old.graph id ≡ true → SetsFee old.graph new.graph id fee) × (is_member old.graph id ≡ false → new ≡ old)

-- the same in both levels
pub record SetsFeeIn (id : ℕ) (fee : ℤ) (old new : Levels) : Type 0 where
  pub main : SetsFeeOf id fee old.main new.main
  pub limits : new.limits ≡ old.limits
  pub staged : is_some new.staging ≡ is_some old.staging
  pub top : SetsFeeOf id fee (level_at old Top) (level_at new Top)
  pub issued : new.issued ≡ old.issued

-- ---- the steps of a new fee

-- the most steps of the order of some names, and none where no order is made
abbrev pub steps_where : Bool → Limits → Closure → List ℕ → ℕ
steps_where made limits g ids = cond made (most_steps_fit limits g ids) 0

-- A count grew by at most what the orders of a name's components take that are within the limits: of main's where main has the name, and of
-- staging's where there is a staging that has it.
abbrev pub GrowsForFee : ℕ → ℕ → ℕ → Levels → Type 0
GrowsForFee id before after levels =
    (mains tops : List ℕ) → Lists (AreLinked levels.main.graph id) mains → Lists (AreLinked (level_at levels Top).graph id) tops
    → GrowsWithin (steps_where (is_member levels.main.graph id) levels.limits levels.main.graph mains
    + steps_where (is_some levels.staging && is_member (level_at levels Top).graph id) levels.limits (level_at levels Top).graph tops) before after
