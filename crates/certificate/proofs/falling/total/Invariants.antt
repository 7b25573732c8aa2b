use Rattle.std.proofs.Common.{◌≡◌, take}
use Rattle.graphs.specs.Rates.{sums}
use Rattle.graphs.specs.Certificates.{rate_in}
use Rattle.certificate.proofs.falling.total.Given as goal

abbrev pub invariant-loop-id : goal.invariant-loop-id
invariant-loop-id l = l.sum ≡ sums (rate_in l.txs) (take l.id-index l.ids)
