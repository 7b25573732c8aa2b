-- What lines ask for, as commands.
use Rattle.std.specs.Prelude.{◌≢◌, ℕ, List, []}
use Rattle.graph_model.specs.Commands.{Command}
use Rattle.graph_model.specs.Commands as commands
use Rattle.graph_model.specs.Lines.{Meaning, Quiet, NoForm, Says}
use Rattle.mempool.specs.Requests.{change_command, search_command}
use Rattle.replay.specs.declared.reading.Reading.{Reading}
use Rattle.replay.specs.declared.reading.Reading.TheVariants as readings
use Rattle.replay.specs.declared.request.Request.{Request}
use Rattle.replay.specs.declared.request.Request.TheVariants as requests

abbrev pub reading_command : Reading → Command
reading_command (readings.Order level) = commands.Order level
reading_command (readings.Diagram level) = commands.Diagram level
reading_command (readings.Proof level) = commands.Proof level
reading_command (readings.Chunk id) = commands.Chunk id
reading_command readings.Dump = commands.Dump

-- what a line means that asks for this, where it lists these names
abbrev pub asked : Request → List ℕ → Meaning
asked requests.Silence ids = Quiet
asked requests.Unread ids = NoForm
asked (requests.Change change) ids = Says (change_command change)
asked requests.Mine ids = Says (commands.Mine ids)
asked requests.Evict ids = Says commands.Evict
asked requests.Trim ids = Says commands.Trim
asked requests.Unmine ids = Says commands.Unmine
asked (requests.Block size) ids = Says (commands.Block size)
asked (requests.Search search) ids = Says (search_command search)
asked (requests.Count level) ids = Says (commands.Count level)
asked (requests.Before a b) ids = Says (commands.Before a b)
asked requests.Compare ids = Says commands.Compare
asked requests.Settle ids = Says commands.Settle
asked (requests.Read reading) ids = Says (reading_command reading)

-- it isn't to mine no transaction
abbrev pub MinesSome : Meaning → Type 0
MinesSome meaning = meaning ≢ Says (commands.Mine [])
