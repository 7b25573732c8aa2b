-- A staging that is aborted leaves main as it was.
use Rattle.std.specs.Prelude.{◌≡◌, ◌≢◌, List, ◌∷◌}
use Rattle.graph_model.specs.States.{State}
use Rattle.graph_model.specs.Commands.{Command, SetFee, Stage, Commit, Abort, Settle}
use Rattle.graph_model.specs.Replies.{Reply, Done}
use Rattle.graph_model.specs.Steps.{Step, HaveSameRates}
use Rattle.graph_model.specs.Validity.{IsValidState}
use Rattle.graph_model.specs.Runs.{CommandsRun}

-- neither `commit` nor `settle`, nor an accepted `fee` or `abort`
abbrev pub LeavesMain : Command → Reply → Type 0
LeavesMain Commit reply = ⊥
LeavesMain Settle reply = ⊥
LeavesMain (SetFee id fee) reply = reply ≢ Done
LeavesMain Abort reply = reply ≢ Done
LeavesMain command reply = Unit {0}

abbrev pub AllLeaveMain : List Command → List Reply → Type 0
AllLeaveMain (command ∷ commands) (reply ∷ replies) = LeavesMain command reply × AllLeaveMain commands replies
AllLeaveMain commands replies = Unit {0}

-- main has the names, the pairs, the fees and sizes, and the pick that it had
pub record HasSameMain (old new : State) : Type 0 where
  pub graph : new.plain.main ≡ old.plain.main
  pub rates : HaveSameRates old.plain.table new.plain.table old.plain.main
  pub pick : new.picks.main ≡ old.picks.main

-- After an accepted `stage`, any commands but `commit`, `settle` and an accepted `fee`, then an accepted `abort`, the first since: main is
-- as it was before.
abbrev pub AbortLeavesMain : Type 0
AbortLeavesMain =
    (before opened last after : State) (commands : List Command) (replies : List Reply) → IsValidState before → Step before Stage Done opened
    → CommandsRun opened commands replies last → AllLeaveMain commands replies → Step last Abort Done after → HasSameMain before after
