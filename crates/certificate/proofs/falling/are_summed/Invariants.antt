use Rattle.std.proofs.Common.{◌≡◌, ℕ, ◌<◌}
use Rattle.graphs.specs.Rates.{sums}
use Rattle.graphs.specs.Certificates.{rate_in}
use Rattle.certificate.specs.Fallings.{rate_at}
use Rattle.certificate.specs.Parts.{ids_at}
use Rattle.certificate.proofs.falling.are_summed.Given as goal

abbrev pub invariant-loop-part : goal.invariant-loop-part
invariant-loop-part l = (k : ℕ) → k < l.part-index → rate_at l.parts k ≡ sums (rate_in l.txs) (ids_at l.parts k)
