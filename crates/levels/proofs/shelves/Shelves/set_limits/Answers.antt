-- There is no cluster that could be over the new limits.
use Rattle.std.proofs.Common.{ap, ◌∙◌}
use Rattle.levels.specs.Shelves.{Shelf, stored_at}
use Rattle.levels.proofs.Calls.{shelf_of}
use Rattle.levels.proofs.Standing.{order_limited}
use Rattle.levels.proofs.shelves.Shelves.set_limits.Goals as goal

pub invariant_of-self : goal.invariant_of-self
invariant_of-self g c =
    order_limited g.row.W c.args.limits (shelf_of c.self.inside.limits c.self.inside.numbers c.self.inside.store) c.self.invariant
    (λ n. ap (λ (s : Shelf). stored_at s.store.clusters n) c.self.view_is ∙ c.requires.none n) c.requires.in_range

pub returns-clause-order : goal.returns-clause-order
returns-clause-order g c = invariant_of-self g c
