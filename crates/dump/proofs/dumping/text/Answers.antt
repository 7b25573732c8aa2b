use Rattle.std.proofs.Common.{sym, ◌∙◌, true≢false}
use Rattle.dump.proofs.Dumped.{steps_oversized, steps_without_memory}
use Rattle.dump.proofs.dumping.text.Goals as goal

pub returns-then-oversized : goal.returns-then-oversized
returns-then-oversized g c =
    record { step = steps_oversized c.args.graph.now (λ state stands. (c.oversized.ensures.state state stands).0 c.if-oversized.true) }

pub returns-in-Err : goal.returns-in-Err
returns-in-Err g c = record {
  step = steps_without_memory c.args.graph.now
      (λ state stands over. true≢false (sym ((c.oversized.ensures.state state stands).1 over) ∙ c.if-oversized.false));
}
