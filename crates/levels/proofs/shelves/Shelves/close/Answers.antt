-- Each cluster is settled, and main is what stays.
use Rattle.std.proofs.Common.{◌≡◌, sym, ap, ◌∙◌, refl}
use Rattle.std.specs.Prelude.{unwrap_or}
use Rattle.graphs.specs.declared.names.Level.{Level}
use Rattle.levels.specs.Shelves.{Shelf, numbers_at, seen_at}
use Rattle.levels.proofs.Calls.{shelf_of}
use Rattle.levels.proofs.Ended.{order_closed, seen_closed}
use Rattle.levels.proofs.shelves.Shelves.close.Given as given
use Rattle.levels.proofs.shelves.Shelves.close.Goals as goal

abbrev main_kept : (g : given.Over) (c : goal.After-abort g)
    → c.abort.new.self.base ≡ numbers_at c.args.stays (shelf_of c.self.inside.limits c.self.inside.numbers c.self.inside.store)
main_kept g c = c.abort.ensures.base ∙ ap (λ (l : Level). numbers_at l (shelf_of c.self.inside.limits c.self.inside.numbers c.self.inside.store)) (sym c.in-Main.is)

abbrev main_put : (g : given.Over) (c : goal.After-commit g)
    → c.commit.new.self.base ≡ numbers_at c.args.stays (shelf_of c.self.inside.limits c.self.inside.numbers c.self.inside.store)
main_put g c =
    ap (λ o. unwrap_or o c.self.inside.numbers.base) c.commit.ensures.base
    ∙ ap (λ (l : Level). numbers_at l (shelf_of c.self.inside.limits c.self.inside.numbers c.self.inside.store)) (sym c.in-Top.is)

pub invariant_of-self : goal.invariant_of-self
invariant_of-self g c =
    order_closed g.row.W c.args.stays c.self.inside.numbers c.self.inside.store c.settle.new.self.clusters c.self.inside.limits c.self.invariant
    c.settle.ensures.settled
    (shelf_of c.self.inside.limits c.abort.new.self c.settle.new.self) refl c.settle.ensures.store c.abort.ensures.top (main_kept g c) refl

pub returns-in-Main-clause-order : goal.returns-in-Main-clause-order
returns-in-Main-clause-order g c = invariant_of-self g c

pub returns-in-Main-clause-limits : goal.returns-in-Main-clause-limits
returns-in-Main-clause-limits g c = ap (λ (s : Shelf). s.limits) c.self.view_is

pub returns-in-Main-clause-seen : goal.returns-in-Main-clause-seen
returns-in-Main-clause-seen g c n =
    seen_closed g.row.W c.args.stays c.self.inside.numbers c.self.inside.store c.settle.new.self.clusters c.self.inside.limits c.self.invariant
    c.settle.ensures.settled n
    ∙ ap (λ (s : Shelf). seen_at c.args.stays s.store.clusters n) c.self.view_is

pub invariant_of-self-in-Top : goal.invariant_of-self-in-Top
invariant_of-self-in-Top g c =
    order_closed g.row.W c.args.stays c.self.inside.numbers c.self.inside.store c.settle.new.self.clusters c.self.inside.limits c.self.invariant
    c.settle.ensures.settled
    (shelf_of c.self.inside.limits c.commit.new.self c.settle.new.self) refl c.settle.ensures.store c.commit.ensures.top (main_put g c) refl

pub returns-in-Top-clause-order : goal.returns-in-Top-clause-order
returns-in-Top-clause-order g c = invariant_of-self-in-Top g c

pub returns-in-Top-clause-limits : goal.returns-in-Top-clause-limits
returns-in-Top-clause-limits g c = ap (λ (s : Shelf). s.limits) c.self.view_is

pub returns-in-Top-clause-seen : goal.returns-in-Top-clause-seen
returns-in-Top-clause-seen g c n =
    seen_closed g.row.W c.args.stays c.self.inside.numbers c.self.inside.store c.settle.new.self.clusters c.self.inside.limits c.self.invariant
    c.settle.ensures.settled n
    ∙ ap (λ (s : Shelf). seen_at c.args.stays s.store.clusters n) c.self.view_is
