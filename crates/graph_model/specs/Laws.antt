-- What a reader would expect of the machine.
use Rattle.std.specs.Prelude.{◌≡◌, ℕ, ◌≤◌, List, ◌++◌, Option}
use Rattle.graph_model.specs.declared.names.Refusal.{Refusal}
use Rattle.graph_model.specs.declared.names.Refusal.TheVariants.{Memory}
use Rattle.graph_model.specs.Limits.{default_limits}
use Rattle.graph_model.specs.States.{PlainState, State, start}
use Rattle.graph_model.specs.Commands.{Command, HasTypes}
use Rattle.graph_model.specs.Replies.{Reply, Refused}
use Rattle.graph_model.specs.Refusals.{RefusalIs}
use Rattle.graph_model.specs.Steps.{Step, MayLackMemory}
use Rattle.graph_model.specs.Validity.{IsValidState}
use Rattle.graph_model.specs.Runs.{Answer, Run, CommandsRun}

-- a run goes on from where an earlier one ended, with one answer a line, or one reply a command, in their order
pub record AnswersAreInOrder : Type 0 where
  pub lines : (old mid new : State) (lines more : List (List ℕ)) (answers others : List Answer) → Run old lines answers mid → Run mid more others new
      → Run old (lines ++ more) (answers ++ others) new
  pub commands : (old mid new : State) (commands more : List Command) (replies others : List Reply) → CommandsRun old commands replies mid
      → CommandsRun mid more others new → CommandsRun old (commands ++ more) (replies ++ others) new

-- whatever the refusal, the state after a refused command is the one before, picks included
abbrev pub RefusedChangesNothing : Type 0
RefusedChangesNothing = (old new : State) (command : Command) (why : Refusal) → Step old command (Refused why) new → new ≡ old

-- a command that may not lack memory is never refused for it
abbrev pub ReadingsLackNoMemory : Type 0
ReadingsLackNoMemory = (old new : State) (command : Command) → (MayLackMemory command → ⊥) → Step old command (Refused Memory) new → ⊥

-- a command meets at most one refusal in a state, or none, and not both
abbrev pub RowsAreFunctions : Type 0
RowsAreFunctions = (state : PlainState) (command : Command) (one other : Option Refusal)
    → RefusalIs state command one → RefusalIs state command other → one ≡ other

-- A start is valid, and a step from a valid state leads to a valid one, where the command's numbers are of their types. How many names a
-- cluster may be allowed stays as it was at the start.
pub record StepsKeepValid : Type 0 where
  pub begins : (most : ℕ) → default_limits.count ≤ most → IsValidState (start most)
  pub goes_on : (old new : State) (command : Command) (reply : Reply) → HasTypes command → IsValidState old → Step old command reply new → IsValidState new
  pub most : (old new : State) (command : Command) (reply : Reply) → Step old command reply new → new.plain.most ≡ old.plain.most
