-- One name more has none.
use Rattle.std.proofs.Common.{◌<◌, length, arith, ◌∙◌}
use Rattle.staging.specs.Maps.{top_of}
use Rattle.levels.proofs.Pointing.{base_more}
use Rattle.levels.proofs.Rebuilding.{loses_more}
use Rattle.levels.proofs.numbers.unpoint.Goals as goal

pub loop-id-preserved : goal.loop-id-preserved
loop-id-preserved c =
    let low : c.loop-id.id-index < length c.args.gone.now = omega arith in
    record {
      lost = loses_more c.args.gone.now c.loop-id.id-index (top_of c.args.numbers.now) (top_of c.loop-id.numbers) (top_of c.remove.new.self) low
          c.loop-id.invariant.lost c.remove.ensures.top;
      staged = c.remove.ensures.staged ∙ c.loop-id.invariant.staged;
      base = base_more c.args.numbers.now c.loop-id.numbers c.remove.new.self c.loop-id.invariant.staged c.loop-id.invariant.base c.remove.ensures.base;
      room = omega (arith, c.loop-id.invariant.room, c.remove.ensures.spare);
    }
