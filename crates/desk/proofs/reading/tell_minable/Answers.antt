use Rattle.std.proofs.Common.{inr, ap}
use Rattle.reorg.specs.Kept.{Kept}
use Rattle.desk.proofs.FactLemmas.{judged}
use Rattle.desk.proofs.reading.tell_minable.Goals as goal

pub returns : goal.returns
returns c =
    let desk = c.args.desk.now in
    let outcome = c.minable-outcome in inr (
    judged desk (record desk { pool = outcome.new.self }) c.args.ids.now c.tell.result c.tell.new.kept outcome.result
    (ap (λ (k : Kept). record desk { pool = k }) outcome.ensures.same) outcome.ensures.row c.tell.ensures.code c.tell.ensures.kept
    )
