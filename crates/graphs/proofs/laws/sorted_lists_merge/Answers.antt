use Rattle.graphs.proofs.MergeLemmas.{sorted_merge, sorted_falls}
use Rattle.graphs.proofs.laws.sorted_lists_merge.Goals as goal

pub returns : goal.returns
returns c = record { merges = sorted_merge; falls = sorted_falls }
