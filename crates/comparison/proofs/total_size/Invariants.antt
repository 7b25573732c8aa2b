-- what was counted and what is left are all
use Rattle.std.proofs.Common.{◌≡◌, ◌+◌, length}
use Rattle.graphs.specs.Rates.{sum_of}
use Rattle.comparison.proofs.total_size.Given as goal

abbrev pub invariant-loop-rate : goal.invariant-loop-rate
invariant-loop-rate l = (sum_of l.fn.rates).size ≡ l.size + (sum_of l.rates).size

abbrev pub decreases-loop-rate : goal.decreases-loop-rate
decreases-loop-rate l = length l.rates
