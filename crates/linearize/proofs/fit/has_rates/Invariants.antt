use Rattle.std.proofs.Common.{◌*◌}
use Rattle.graphs.specs.Closures.{members_of, rate_of}
use Rattle.fee_rate.specs.Limits.{IsRate}
use Rattle.linearize.proofs.Places.{Tested}
use Rattle.linearize.proofs.fit.has_rates.Given as goal

abbrev pub invariant-loop-place : goal.invariant-loop-place
invariant-loop-place g l = Tested (64 * g.row.W) (members_of l.dep) (λ p. IsRate (rate_of l.dep p)) l.yielded l.place-iterator
