-- What is made of a graph's text is what loading answers.
use Rattle.std.proofs.Common.{List, ℕ}
use Rattle.std.specs.Prelude.{Result, Ok, Err, MatchResult}
use Rattle.graph_model.specs.Dumps.{DumpText, Dumps, IsGraphText}
use Rattle.graph_model.specs.Limits.{Bounds}
use Rattle.tx_graph.specs.Kept.{Kept}
use Rattle.dump_text.specs.declared.fault.LoadFault.{LoadFault}
use Rattle.dump_text.specs.declared.fault.LoadFault.TheVariants.{Syntax, Graph, Limits, Memory}
use Rattle.dump.specs.Loading.{FitsAndIsMade, LoadGives, MakesNone}

pub made : (most : ℕ) (bounds : Bounds) (bytes : List ℕ) (text : DumpText) (answer : Result Kept LoadFault) → Dumps bytes text → IsGraphText text
    → MatchResult answer (FitsAndIsMade most bounds text) (MakesNone bounds text) → LoadGives most bounds bytes answer
made most bounds bytes text (Ok kept) spelled is (fits, (state, to, stands, counted)) = (text, state, (spelled, is, fits), to, stands, counted)
made most bounds bytes text (Err Syntax) spelled is never = absurd never
made most bounds bytes text (Err Graph) spelled is never = absurd never
made most bounds bytes text (Err Limits) spelled is none = (text, spelled, is, none)
made most bounds bytes text (Err Memory) spelled is lacks = tt
