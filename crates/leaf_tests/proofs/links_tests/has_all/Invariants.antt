use Rattle.std.proofs.Common.{ℕ, ◌<◌, get_or}
use Rattle.links.specs.Links.{Has}
use Rattle.leaf_tests.proofs.links_tests.has_all.Given as goal

abbrev pub invariant-loop-id : goal.invariant-loop-id
invariant-loop-id l = (k : ℕ) → k < l.id-index → Has l.links (get_or l.ids k 0)
