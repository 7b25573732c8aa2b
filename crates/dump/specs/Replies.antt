-- What the text of a graph is in the machine.
use Rattle.std.specs.Prelude.{◌≡◌, ℕ, List, Result, Ok, Err}
use Rattle.graph_model.specs.declared.names.Refusal.{Refusal}
use Rattle.graph_model.specs.Commands.{Dump}
use Rattle.graph_model.specs.Dumps.{DumpText}
use Rattle.graph_model.specs.Replies.{Dumped, Refused, text_of}
use Rattle.tx_graph.specs.Kept.{Kept, MakesStep}

-- The bytes are the reply of the machine to `dump`: the spelling of a text with which the machine answers, and which leaves the graph as it is.
abbrev pub DumpsTo : Kept → List ℕ → Type 0
DumpsTo graph bytes = (text : DumpText) × MakesStep graph graph Dump (Dumped text) × (bytes ≡ text_of (Dumped text))

-- What a call says of the reply to `dump`: its bytes, or that the machine refuses for this cause.
abbrev pub MakesDump : Kept → Result (List ℕ) Refusal → Type 0
MakesDump graph (Ok bytes) = DumpsTo graph bytes
MakesDump graph (Err why) = MakesStep graph graph Dump (Refused why)
