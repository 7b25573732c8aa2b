use Rattle.graphs.proofs.UnionLemmas.{merged_certificate, merged_parts}
use Rattle.graphs.proofs.laws.merged_parts_are_certified.Goals as goal

pub returns : goal.returns
returns c = record { by_parts = merged_parts; by_keys = merged_certificate }
