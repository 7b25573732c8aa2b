-- No name, and so no cluster, is there that could be over the new limits.
use Rattle.std.proofs.Common.{arith}
use Rattle.levels.proofs.Keeping.{kept_limited, levels_limited}
use Rattle.levels.proofs.Oversizing.{have_picks, none_stored}
use Rattle.levels.proofs.levels.Levels.set_limits.Goals as goal

pub set_limits-requires : goal.set_limits-requires
set_limits-requires g c = (
  omega arith,
  (
    none_stored g.row.W c.self.inside.issued c.self.inside.shelves c.args.self.now c.self.invariant.order c.self.view_is c.requires.alone c.requires.none,
    c.requires.in_range,
  ),
)

pub invariant_of-self : goal.invariant_of-self
invariant_of-self g c =
    kept_limited g.row.W c.self.inside.mains c.self.inside.tops c.self.inside.issued c.args.limits c.self.inside.shelves c.set_limits.new.self
    c.self.inside.rings c.set_limits.ensures.set c.set_limits.ensures.order c.self.invariant

pub returns-clause-set : goal.returns-clause-set
returns-clause-set g c =
    levels_limited c.args.limits c.self.inside.shelves c.set_limits.new.self c.self.inside.issued c.args.self.now c.self.view_is c.set_limits.ensures.set

pub returns-clause-picks : goal.returns-clause-picks
returns-clause-picks g c = have_picks g.row.W c.set_limits.new.self c.set_limits.ensures.order c.self.inside.issued
