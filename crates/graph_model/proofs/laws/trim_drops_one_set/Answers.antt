use Rattle.graph_model.proofs.TrimLemmas.{trimmed_once, trimmed_descendants, trimmed_nothing}
use Rattle.graph_model.proofs.TrimmedLemmas.{trimmed_within, trimmed_some}
use Rattle.graph_model.proofs.laws.trim_drops_one_set.Goals as goal

pub returns : goal.returns
returns c = record {
  some = λ bounds rate graph whole. trimmed_some bounds rate graph;
  one = trimmed_once;
  descendants = trimmed_descendants;
  within = trimmed_within;
  nothing = trimmed_nothing;
}
