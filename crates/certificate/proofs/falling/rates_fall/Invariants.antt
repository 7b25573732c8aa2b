use Rattle.std.proofs.Common.{ℕ, ◌+◌, ◌<◌}
use Rattle.fee_rate.specs.Rates.{AtMost}
use Rattle.certificate.specs.Fallings.{rate_at}
use Rattle.certificate.proofs.falling.rates_fall.Given as goal

abbrev pub invariant-loop-at : goal.invariant-loop-at
invariant-loop-at l = (k : ℕ) → k + 1 < l.at → AtMost (rate_at l.parts (k + 1)) (rate_at l.parts k)
