use Rattle.graphs.specs.Rates.{Falls}
use Rattle.graphs.specs.Certificates.{HasFalling, rate_in}
use Rattle.certificate.specs.Fallings.{rates_of}
use Rattle.certificate.specs.Parts.{parts_of}
use Rattle.certificate.proofs.GraphLemmas.{same_answer, no_answer}
use Rattle.certificate.proofs.FallingLemmas.{sums_part, falls_part, has_falling, are_rates}
use Rattle.certificate.proofs.falling.is_falling.Goals as goal

pub rates_fall-requires : goal.rates_fall-requires
rates_fall-requires c = are_rates c.args.txs.now _ c.args.parts.now c.requires.places
    c.requires.limits c.requires.members c.requires.few c.requires.filled c.if-are_summed.ensures

pub returns-then-are_summed : goal.returns-then-are_summed
returns-then-are_summed c =
    same_answer c.rates_fall.result (Falls (rates_of c.args.parts.now)) (Falls (rates_of c.args.parts.now))
    (HasFalling (rate_in c.args.txs.now) (parts_of c.args.parts.now))
    (has_falling c.args.txs.now c.args.parts.now c.if-are_summed.ensures) (falls_part c.args.txs.now c.args.parts.now) c.rates_fall.ensures

pub returns-else-are_summed : goal.returns-else-are_summed
returns-else-are_summed c = no_answer c.are_summed.result _ _ c.if-are_summed.false (λ h. c.if-are_summed.ensures (sums_part c.args.txs.now c.args.parts.now h))
