-- One name more goes.
use Rattle.std.proofs.Common.{arith, ◌∙◌}
use Rattle.levels.proofs.Forgetting.{forgets_next, in_list, not_before}
use Rattle.levels.proofs.moving.forget_all.Goals as goal

pub forget-requires : goal.forget-requires
forget-requires c =
    let low = c.loop-id-test.true in
    let next = in_list c.args.ids.now c.loop-id.id-index low in
    record {
      live = (c.loop-id.invariant.forgets.names _).1 (c.requires.live _ next, not_before c.args.ids.now c.loop-id.id-index low c.requires.once);
    }

pub loop-id-preserved : goal.loop-id-preserved
loop-id-preserved c =
    let so = c.loop-id.invariant in
    let forget = c.forget.ensures in
    record {
      forgets = forgets_next c.args.ids.now c.loop-id.id-index c.loop-id-test.true c.args.rings.now c.loop-id.rings c.forget.new.self so.forgets forget;
      few = omega (arith, forget.len, so.few);
      issued = forget.issued ∙ so.issued;
    }
