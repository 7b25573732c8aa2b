use Rattle.std.proofs.Common.{rules, arith, ◌≤◌}
use Rattle.order_tests.proofs.Sizes.{scratch_fits}
use Rattle.order_tests.proofs.closure_flow_tests.answer.Goals as goal

pub solved-requires : goal.solved-requires
solved-requires g c =
    let few : g.row.W ≤ 2 = c.requires in
    (scratch_fits g.row.W few, (omega arith, (few, (search rules, (search rules, (c.even_out.ensures.sum, c.even_out.ensures.small))))))
