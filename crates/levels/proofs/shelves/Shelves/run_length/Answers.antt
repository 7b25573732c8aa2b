-- One name more has the number.
use Rattle.std.proofs.Common.{◌∙◌, sym, arith}
use Rattle.levels.specs.Shelves.{numbers_at}
use Rattle.levels.proofs.Kins.{run_more}
use Rattle.levels.proofs.shelves.Shelves.run_length.Goals as goal

pub loop-at-preserved : goal.loop-at-preserved
loop-at-preserved g c = record {
  within = omega (arith, c.loop-at-test.true);
  same = run_more (numbers_at c.args.level c.args.self.now) c.args.ids.now c.loop-at.at c.args.number c.number.result c.loop-at-test.true
      c.number.ensures.number (sym c.eq.ensures ∙ c.if-eq.true) c.loop-at.invariant.same;
}
