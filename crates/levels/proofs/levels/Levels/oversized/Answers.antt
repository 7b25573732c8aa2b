-- A cluster without an order stands in the level exactly where a component is over the limits.
use Rattle.std.proofs.Common.{◌↔◌, sym, subst}
use Rattle.std.specs.Prelude.{IsTrue}
use Rattle.levels.proofs.Finds.{over_is}
use Rattle.levels.proofs.Oversizing.{lacks_exactly}
use Rattle.levels.proofs.levels.Levels.oversized.Goals as goal

pub returns : goal.returns
returns g c =
    let exact = lacks_exactly g.row.W c.args.level c.self.inside.shelves c.self.invariant.order in
    subst (λ (Over : Type 0). IsTrue c.is_oversized.result ↔ Over)
    (sym (over_is g.row.W c.self.inside.issued c.self.inside.shelves c.args.self.now c.self.invariant.order c.self.view_is c.args.level))
    (λ holds. exact.0 (c.is_oversized.ensures.0 holds), λ over. c.is_oversized.ensures.1 (exact.1 over))
