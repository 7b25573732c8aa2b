-- One line of a session.
use Rattle.std.specs.Prelude.{◌≡◌, ℕ, ◌+◌, ◌*◌, ◌<◌, ◌≤◌, List, length}
use Rattle.graphs.specs.Rooms.{Room}
use Rattle.graph_model.specs.States.{State}
use Rattle.graph_model.specs.Commands.{Command}
use Rattle.graph_model.specs.Lines.{Means, Quiet, Says, NoForm, max_line}
use Rattle.graph_model.specs.Runs.{Answer, Silence, Unread, Replies, LineStep}
use Rattle.graph_model.specs.Runs as runs
use Rattle.reorg.specs.Kept.{Kept, StandsFor}
use Rattle.replay.specs.declared.session.Piece.{Piece}
use Rattle.replay.specs.declared.session.Piece.TheVariants.{Whole, TooLong}

-- the line that is handed over: its bytes, or that they are too many
abbrev pub IsLine : Piece → List ℕ → Type 0
IsLine (Whole bytes) line = line ≡ bytes.now
IsLine TooLong line = max_line < length line

-- From every state that the session stood for, the line may get this answer, and leads to a state that it stands for now.
abbrev pub Answers : Kept → Kept → List ℕ → Answer → Type 0
Answers old new line answer = (state : State) → StandsFor old state → (next : State) × StandsFor new next × LineStep state line answer next

-- The line alone allows this answer: silence exactly where it is quiet, too long and unread by its bytes, a reply where it says a command.
abbrev pub Suits : List ℕ → Answer → Type 0
Suits line Silence = (length line ≤ max_line) × Means line Quiet
Suits line runs.TooLong = max_line < length line
Suits line Unread = (length line ≤ max_line) × Means line NoForm
Suits line (Replies reply) = (length line ≤ max_line) × (command : Command) × Means line (Says command)

-- there is just room for the names that a line may list, and for those of a cluster of 64 w names
abbrev pub HasRoom : ℕ → Room → Type 0
HasRoom w names = (length names.ids + names.room ≡ 32766) × (64 * w ≤ length names.ids + names.room)
