-- A step of the machine: which reply a command may get in a state, and which state may follow. The machine is a relation: of several
-- optimal orders it doesn't say which one follows, and memory may run short or not.
use Rattle.std.specs.Prelude.{◌≡◌, ℕ, Option, None, Some, ◌⊎◌, Contains}
use Rattle.graphs.specs.declared.names.Verdict.TheVariants.{Better}
use Rattle.graph_model.specs.declared.names.Refusal.{Refusal}
use Rattle.graph_model.specs.declared.names.Refusal.TheVariants.{Memory, Count, ClusterSize}
use Rattle.graphs.specs.Graphs.{Graph}
use Rattle.graph_model.specs.States.{PlainState, Picks, State, Table, rate_of}
use Rattle.graph_model.specs.Commands.{Command, Add, Dep, SetFee, Remove, Mine, Evict, Block, Trim, Unmine, Dump, Stage, Commit, Settle}
use Rattle.graph_model.specs.Refusals.{RefusalIs}
use Rattle.graph_model.specs.Changes.{Changes}
use Rattle.graph_model.specs.Answers.{Answers}
use Rattle.graph_model.specs.Verdicts.{VerdictIs}
use Rattle.graph_model.specs.Replies.{Reply, Refused}
use Rattle.graph_model.specs.Validity.{ArePicks}

-- The commands that may be refused for want of memory.
abbrev pub MayLackMemory : Command → Type 0
MayLackMemory (Add id fee size) = Unit {0}
MayLackMemory (Dep parent child) = Unit {0}
MayLackMemory (SetFee id fee) = Unit {0}
MayLackMemory (Remove id) = Unit {0}
MayLackMemory (Mine ids) = Unit {0}
MayLackMemory Evict = Unit {0}
MayLackMemory (Block size) = Unit {0}
MayLackMemory Trim = Unit {0}
MayLackMemory Unmine = Unit {0}
MayLackMemory Dump = Unit {0}
MayLackMemory command = ⊥

-- The refusals in whose place want of memory may be answered: that `unmine` would bring a component over a limit.
abbrev pub MayGiveWay : Command → Refusal → Type 0
MayGiveWay Unmine (Count n) = Unit {0}
MayGiveWay Unmine (ClusterSize n) = Unit {0}
MayGiveWay command why = ⊥

-- The command is refused for the first cause of its row that holds. The state stays as it was.
pub record IsRefused {S : Type 0} (refuses : S → Command → Option Refusal → Type 0) (old : S) (command : Command) (reply : Reply) (new : S) : Type 0 where
  pub why : Refusal
  pub first : refuses old command (Some why)
  pub told : reply ≡ Refused why
  pub same : new ≡ old

-- No cause of the row holds, and the command finds no memory. The state stays as it was.
pub record LacksMemory {S : Type 0} (refuses : S → Command → Option Refusal → Type 0) (old : S) (command : Command) (reply : Reply) (new : S) : Type 0 where
  pub none : refuses old command None
  pub may : MayLackMemory command
  pub told : reply ≡ Refused Memory
  pub same : new ≡ old

-- The command finds no memory, and answers so in place of a refusal that may give way. The state stays as it was.
pub record GivesWay {S : Type 0} (refuses : S → Command → Option Refusal → Type 0) (old : S) (command : Command) (reply : Reply) (new : S) : Type 0 where
  pub why : Refusal
  pub first : refuses old command (Some why)
  pub may : MayGiveWay command why
  pub told : reply ≡ Refused Memory
  pub same : new ≡ old

pub record IsAccepted {S : Type 0} (refuses : S → Command → Option Refusal → Type 0) (Accepts : S → Command → Reply → S → Type 0)
    (old : S) (command : Command) (reply : Reply) (new : S) : Type 0 where
  pub none : refuses old command None
  pub accepts : Accepts old command reply new

-- A step of a machine, by the refusals of its commands and by what may follow an accepted one: the command is refused, lacks memory, or is
-- accepted.
abbrev pub StepBy : {S : Type 0} → (S → Command → Option Refusal → Type 0) → (S → Command → Reply → S → Type 0) → S → Command → Reply → S → Type 0
StepBy refuses Accepts old command reply new =
    IsRefused refuses old command reply new
    ⊎ ((LacksMemory refuses old command reply new ⊎ GivesWay refuses old command reply new) ⊎ IsAccepted refuses Accepts old command reply new)

-- The plain part of an accepted command, where the levels have these picks: its answer, and its change.
pub record AcceptsPlainly (picks : Picks) (old : PlainState) (command : Command) (reply : Reply) (new : PlainState) : Type 0 where
  pub answer : Answers picks old command reply
  pub change : Changes picks old command new

-- The plain part of a step.
abbrev pub PlainStep : Picks → PlainState → Command → Reply → PlainState → Type 0
PlainStep picks = StepBy RefusalIs (AcceptsPlainly picks)

-- The names of the graph have the same fees and sizes in both tables.
abbrev pub HaveSameRates : Table → Table → Graph → Type 0
HaveSameRates old new graph = (id : ℕ) → Contains graph.names id → rate_of new id ≡ rate_of old id

-- A level with the same graph, and the same fees and sizes of its names, keeps its pick, or its lack of one. Any other level gets any pick
-- of its graph, or none where the level is oversized.
pub record KeepsPicks (old new : State) : Type 0 where
  pub picks : ArePicks new.plain new.picks
  pub main : new.plain.main ≡ old.plain.main → HaveSameRates old.plain.table new.plain.table new.plain.main → new.picks.main ≡ old.picks.main
  pub staging : (graph : Graph) → old.plain.staging ≡ Some graph → new.plain.staging ≡ Some graph → HaveSameRates old.plain.table new.plain.table graph
      → new.picks.staging ≡ old.picks.staging

-- Main has the pick that staging had.
abbrev pub CommitsPick : Picks → Picks → Type 0
CommitsPick old new = (old.staging ≡ Some new.main) × (new.staging ≡ None)

-- The picks that may follow an accepted command.
abbrev pub PicksFollow : State → Command → State → Type 0
PicksFollow old Stage new = new.picks ≡ record { main = old.picks.main; staging = Some old.picks.main }
PicksFollow old Commit new = CommitsPick old.picks new.picks
PicksFollow old Settle new =
    (VerdictIs old.plain Better × CommitsPick old.picks new.picks) ⊎ ((VerdictIs old.plain Better → ⊥) × KeepsPicks old new)
PicksFollow old command new = KeepsPicks old new

-- An accepted command: its plain part, and the picks that follow.
pub record Accepts (old : State) (command : Command) (reply : Reply) (new : State) : Type 0 where
  pub plain : AcceptsPlainly old.picks old.plain command reply new.plain
  pub picks : PicksFollow old command new

-- A step: in state `old` the command may get this reply, and lead to state `new`.
abbrev pub Step : State → Command → Reply → State → Type 0
Step = StepBy (λ state. RefusalIs state.plain) Accepts
