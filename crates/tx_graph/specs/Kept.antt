-- What a transaction graph keeps, and which states it stands for.
use Rattle.std.specs.Prelude.{◌≡◌, ℕ, Bool, true, List, [], Option, None, Some, refl}
use Rattle.std.specs.Coded.{Coded, code_by, coded×, coded_ℕ, coded_bool}
use Rattle.std.specs.FinMap as finmap
use Rattle.fee_rate.specs.declared.rates.FeeRate.{FeeRate}
use Rattle.graphs.specs.declared.names.Level.{Level}
use Rattle.graphs.specs.Closures.{is_member, is_ancestor, rate_of}
use Rattle.graphs.specs.Closing.{IsClosureOf}
use Rattle.graphs.specs.Graphs.{Graph, IsGraph}
use Rattle.graphs.specs.Certificates.{Part}
use Rattle.graph_model.specs.declared.names.Limits.{Limits}
use Rattle.graph_model.specs.Limits.{bounds_of}
use Rattle.graph_model.specs.Commands.{Command}
use Rattle.graph_model.specs.Replies.{Reply}
use Rattle.graph_model.specs.States.{Entry, Table, Picks, PlainState, State, plain_start}
use Rattle.graph_model.specs.Steps.{Step}
use Rattle.graph_model.specs.Validity.{IsValid}
use Rattle.levels.specs.Levels.{OneLevel, Levels, levels_code, level_at, IsLive}
use Rattle.levels.specs.Oversize.{IsOversized}

-- The most names that the limit of a cluster may allow, whether a change was accepted, and the levels: the limits in force, and of each level its
-- names with their fees, sizes and ancestors, and the parts of its order. Neither pairs nor mined blocks are kept.
pub record Kept : Type 0 where
  pub most : ℕ
  pub begun : Bool
  pub levels : Levels

abbrev pub kept_code : Coded Kept
kept_code =
    code_by (ℕ × (Bool × Levels)) (coded× coded_ℕ (coded× coded_bool levels_code)) (λ k. (k.most, (k.begun, k.levels)))
    (λ p. record { most = p.0; begun = p.1.0; levels = p.1.1 }) (λ _. refl)

-- what a table has of a name of this fee and size
abbrev pub entry_of : FeeRate → Entry
entry_of rate = record { fee = rate.fee; size = rate.size }

-- A table has of each name of a level the fee and the size that the level keeps, so that a name of both levels has one fee and one size, and
-- nothing of other names.
pub record HasRates (levels : Levels) (table : Table) : Type 0 where
  pub names : (level : Level) (id : ℕ) → is_member (level_at levels level).graph id ≡ true
      → finmap.get table id ≡ Some (entry_of (rate_of (level_at levels level).graph id))
  pub none : (id : ℕ) → (IsLive levels id → ⊥) → finmap.get table id ≡ None

-- A plain graph has the closure that a level keeps, which relates names of the level alone.
pub record IsGraphOf (level : OneLevel) (graph : Graph) : Type 0 where
  pub closure : IsClosureOf level.graph graph
  pub among : (a d : ℕ) → is_ancestor level.graph a d ≡ true → (is_member level.graph a ≡ true) × (is_member level.graph d ≡ true)
  pub valid : IsGraph graph

-- there is a staging in both or in neither, with its closure
abbrev pub IsStagingOf : Option OneLevel → Option Graph → Type 0
IsStagingOf None None = Unit {0}
IsStagingOf (Some level) (Some graph) = IsGraphOf level graph
IsStagingOf None (Some graph) = ⊥
IsStagingOf (Some level) None = ⊥

-- A graph stands for each valid plain state with its limits, a table of its names, and for each level that it keeps a graph of that closure. Of
-- mined blocks nothing is said.
pub record StandsPlainly (kept : Kept) (state : PlainState) : Type 0 where
  pub limits : state.limits ≡ bounds_of kept.levels.limits
  pub most : state.most ≡ kept.most
  pub begun : state.begun ≡ kept.begun
  pub table : HasRates kept.levels state.table
  pub main : IsGraphOf kept.levels.main state.main
  pub staging : IsStagingOf kept.levels.staging state.staging
  pub valid : IsValid state

-- The pick of a level: its parts. A level that is over the limits has none.
abbrev pub IsPickOf : Limits → OneLevel → Option (List Part) → Type 0
IsPickOf limits level None = IsOversized limits level.graph
IsPickOf limits level (Some pick) = (IsOversized limits level.graph → ⊥) × (pick ≡ level.parts)

-- the same of a staging, where there is one
abbrev pub IsStagingPickOf : Limits → Option OneLevel → Option (Option (List Part)) → Type 0
IsStagingPickOf limits None None = Unit {0}
IsStagingPickOf limits (Some level) (Some pick) = IsPickOf limits level pick
IsStagingPickOf limits None (Some pick) = ⊥
IsStagingPickOf limits (Some level) None = ⊥

-- the picks of both levels
pub record ArePicksOf (levels : Levels) (picks : Picks) : Type 0 where
  pub main : IsPickOf levels.limits levels.main picks.main
  pub staging : IsStagingPickOf levels.limits levels.staging picks.staging

-- It stands for the states with such a plain state and with these picks. They differ in pairs that other pairs imply, and in the order in
-- which they list names and pairs.
pub record StandsFor (kept : Kept) (state : State) : Type 0 where
  pub plain : StandsPlainly kept state.plain
  pub picks : ArePicksOf kept.levels state.picks

-- the state at the start, where a cluster may be allowed so many names, under these limits
abbrev pub start_within : ℕ → Limits → State
start_within most limits =
    record { plain = record (plain_start most) { limits = bounds_of limits }; picks = record { main = Some []; staging = None } }

-- From every state that the graph stood for, this relation leads to one that it stands for now.
abbrev pub Leads : Kept → Kept → (State → State → Type 0) → Type 0
Leads old new Relates = (state : State) → StandsFor old state → (next : State) × StandsFor new next × Relates state next

-- The call is a step of the machine.
abbrev pub MakesStep : Kept → Kept → Command → Reply → Type 0
MakesStep old new command reply = Leads old new (λ state next. Step state command reply next)
