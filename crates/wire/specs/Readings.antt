-- What a line as the program keeps it says, with the names that it lists apart.
use Rattle.std.specs.Prelude.{ℕ, List, Option, None, Some}
use Rattle.wire.specs.declared.line.Line.{Line}
use Rattle.wire.specs.declared.line.Line.TheVariants as lines
use Rattle.graph_model.specs.Limits.{bounds_of}
use Rattle.graph_model.specs.Commands.{Command}
use Rattle.graph_model.specs.Commands as commands
use Rattle.graph_model.specs.Lines.{Meaning, Quiet, Says, NoForm, Spells}

abbrev pub meaning_of : Line → List ℕ → Meaning
meaning_of lines.Quiet ids = Quiet
meaning_of lines.Syntax ids = NoForm
meaning_of (lines.Limits set) ids = Says (commands.SetLimits (bounds_of set))
meaning_of (lines.Add id fee size) ids = Says (commands.Add id fee size)
meaning_of (lines.Dep parent child) ids = Says (commands.Dep parent child)
meaning_of (lines.Fee id fee) ids = Says (commands.SetFee id fee)
meaning_of (lines.Remove id) ids = Says (commands.Remove id)
meaning_of lines.Mine ids = Says (commands.Mine ids)
meaning_of lines.Evict ids = Says commands.Evict
meaning_of lines.Stage ids = Says commands.Stage
meaning_of lines.Commit ids = Says commands.Commit
meaning_of lines.Abort ids = Says commands.Abort
meaning_of lines.Settle ids = Says commands.Settle
meaning_of lines.Trim ids = Says commands.Trim
meaning_of lines.Unmine ids = Says commands.Unmine
meaning_of lines.Compare ids = Says commands.Compare
meaning_of (lines.Order level) ids = Says (commands.Order level)
meaning_of (lines.Diagram level) ids = Says (commands.Diagram level)
meaning_of (lines.Proof level) ids = Says (commands.Proof level)
meaning_of (lines.Cluster id level) ids = Says (commands.Cluster id level)
meaning_of (lines.Ancestors id level) ids = Says (commands.Ancestors id level)
meaning_of (lines.Descendants id level) ids = Says (commands.Descendants id level)
meaning_of (lines.Chunk id) ids = Says (commands.Chunk id)
meaning_of (lines.Before a b) ids = Says (commands.Before a b)
meaning_of (lines.Block size) ids = Says (commands.Block size)
meaning_of (lines.Count level) ids = Says (commands.Count level)
meaning_of lines.Dump ids = Says commands.Dump

-- a text that isn't quiet says this
abbrev pub TextSays : List ℕ → Meaning → Type 0
TextSays text Quiet = ⊥
TextSays text (Says command) = Spells text command
TextSays text NoForm = (command : Command) → Spells text command → ⊥

-- what a line of this first word and this rest says, as a line that was found or none
abbrev pub FormSays : List ℕ → Option Line → List ℕ → Type 0
FormSays text None ids = TextSays text NoForm
FormSays text (Some line) ids = TextSays text (meaning_of line ids)
