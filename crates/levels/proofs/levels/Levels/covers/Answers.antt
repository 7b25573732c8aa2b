use Rattle.std.proofs.Common.{sym, subst, arith, ◌≡◌, true}
use Rattle.graph_model.specs.Answers.{order_of}
use Rattle.levels.specs.Levels.{OneLevel}
use Rattle.levels.specs.Orders.{ListsCovers}
use Rattle.levels.proofs.Finds.{level_is, graph_is, within_at}
use Rattle.component.proofs.Rooms.{covers_fits}
use Rattle.graphs.specs.Closures.{Closure, is_member}
use Rattle.levels.proofs.levels.Levels.covers.Goals as goal

pub returns : goal.returns
returns g c =
    subst (λ (l : OneLevel). ListsCovers l.graph (order_of l.parts) c.args.id c.covers.result)
    (sym (level_is g.row.W c.self.inside.issued c.self.inside.shelves c.args.self.now c.self.invariant.order c.self.view_is c.args.level)) c.covers.ensures

pub covers-requires : goal.covers-requires
covers-requires g c = (
  omega arith,
  (
    covers_fits g.row.W c.self.invariant.order.narrow,
    (
      c.self.invariant.order,
      (
        within_at g.row.W c.self.inside.issued c.self.inside.shelves c.args.self.now c.self.invariant.order c.self.view_is c.args.level c.requires.within,
        subst (λ (h : Closure). is_member h c.args.id ≡ true)
            (graph_is g.row.W c.self.inside.issued c.self.inside.shelves c.args.self.now c.self.invariant.order c.self.view_is c.args.level) c.requires.live,
      ),
    ),
  ),
)
