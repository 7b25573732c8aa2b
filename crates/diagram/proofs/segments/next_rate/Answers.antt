use Rattle.std.proofs.Common.{◌≡◌, ◌∷◌, sym, ap, ◌∙◌}
use Rattle.fee_rate.proofs.Orders.{same_sum}
use Rattle.fee_rate.specs.declared.rates.Sum.{Sum}
use Rattle.diagram.specs.Parts.{rate_of}
use Rattle.diagram.proofs.StepLemmas.{step_some, step_none}
use Rattle.diagram.proofs.segments.next_rate.Goals as goal

pub returns-in-Some-clause-item : goal.returns-in-Some-clause-item
returns-in-Some-clause-item g c rest h =
    let found = step_some g.I.Iterator.next_gives rate_of c.args.parts.now c.next.new.self c.in-Some.part rest h c.in-Some.ensures.steps in
    let same : rate_of c.in-Some.part ≡ c.from.result = same_sum (rate_of c.in-Some.part) c.from.result (sym c.from.ensures.0) (sym c.from.ensures.1) in
    (found.0, found.1 ∙ ap (λ (s : Sum). s ∷ found.0) same, found.2)

pub returns-in-None-clause-item : goal.returns-in-None-clause-item
returns-in-None-clause-item g c rest h = step_none g.I.Iterator.next_gives rate_of c.args.parts.now c.next.new.self rest h c.in-None.ensures.steps
