use Rattle.std.proofs.Common.{◌+◌, take, sym, subst, arith}
use Rattle.levels.specs.Lefts.{AreNumbered}
use Rattle.levels.proofs.Listed.{one_numbered}
use Rattle.levels.proofs.shelves.Shelves.numbered.Goals as goal

pub loop-id-preserved : goal.loop-id-preserved
loop-id-preserved g c = record {
  numbered = subst (AreNumbered c.args.self.now (take (c.loop-id.id-index + 1) c.args.ids.now)) (sym c.push_reserved.ensures.items)
      (one_numbered c.args.self.now c.args.ids.now c.loop-id.listed.items c.loop-id.id-index _ c.top_number.result c.loop-id-test.true
      c.top_number.ensures c.loop-id.invariant.numbered);
  room = omega (arith, c.loop-id.invariant.room, c.push_reserved.ensures.len, c.push_reserved.ensures.capacity, c.loop-id-test.true);
}
