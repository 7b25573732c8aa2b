-- The names of one number more are touched.
use Rattle.std.proofs.Common.{arith}
use Rattle.levels.proofs.Touching.{next_untouched, touches_more}
use Rattle.levels.proofs.moving.touch_left.Goals as goal

pub touch_one-requires : goal.touch_one-requires
touch_one-requires g c = (
  omega arith,
  (
    c.requires.order,
    next_untouched c.args.shelves.now c.args.outs.now c.loop-number.number-index c.loop-number-test.true g.row.W c.requires.order c.requires.once
        c.args.rings.now c.loop-number.rings c.requires.untouched c.loop-number.invariant.touches,
  ),
)

pub loop-number-preserved : goal.loop-number-preserved
loop-number-preserved g c = record {
  touches = touches_more c.args.shelves.now c.args.outs.now c.loop-number.number-index c.loop-number-test.true c.args.rings.now c.loop-number.rings
      c.touch_one.new.rings c.loop-number.invariant.touches c.touch_one.ensures;
}
