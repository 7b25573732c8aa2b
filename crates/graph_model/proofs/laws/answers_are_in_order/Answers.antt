use Rattle.graph_model.specs.Steps.{Step}
use Rattle.graph_model.specs.Runs.{LineStep}
use Rattle.graph_model.proofs.RunLemmas.{run-append}
use Rattle.graph_model.proofs.laws.answers_are_in_order.Goals as goal

pub returns : goal.returns
returns c = record { lines = run-append LineStep; commands = run-append Step }
