use Rattle.graph_model.proofs.SummaryLemmas.{summaries_are_functions}
use Rattle.graph_model.proofs.laws.summaries_are_functions.Goals as goal

pub returns : goal.returns
returns c = summaries_are_functions
