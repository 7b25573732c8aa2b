use Rattle.graphs.proofs.UnionLemmas.{keeps_components}
use Rattle.graphs.proofs.laws.unions_keep_components.Goals as goal

pub returns : goal.returns
returns c = record { by_parts = keeps_components; by_keys = keeps_components }
