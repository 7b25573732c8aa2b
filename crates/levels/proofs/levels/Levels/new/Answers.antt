use Rattle.levels.proofs.Keeping.{kept_none, levels_none}
use Rattle.std.proofs.Common.{arith}
use Rattle.levels.proofs.Rooms.{work_fits}
use Rattle.levels.proofs.levels.Levels.new.Goals as goal

pub invariant_of-result : goal.invariant_of-result
invariant_of-result g c =
    kept_none g.row.W c.args.limits c.new-3.result c.new-4.result c.new-3.ensures.empty c.new-3.ensures.order c.new-4.ensures

pub returns : goal.returns
returns g c = levels_none c.args.limits c.new-3.result c.new-3.ensures.empty

pub new-requires : goal.new-requires
new-requires g c = (work_fits g.row.W c.requires.narrow, (c.requires.wide, omega (arith, c.requires.narrow)))

pub new-requires-3 : goal.new-requires-3
new-requires-3 g c = (omega arith, (c.requires.wide, (c.requires.narrow, c.requires.in_range)))
