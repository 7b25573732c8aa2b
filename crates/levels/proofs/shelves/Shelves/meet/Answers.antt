use Rattle.std.proofs.Common.{ℕ, List, nat_eq, sym, ◌∙◌, subst}
use Rattle.std.specs.HashSet as bag
use Rattle.lists.proofs.Cases.{false_from_not}
use Rattle.levels.specs.Gathered.{ListsSet}
use Rattle.levels.proofs.Listing.{set_put}
use Rattle.levels.proofs.shelves.Shelves.meet.Goals as goal

pub returns-in_ok-push-clause-lists : goal.returns-in_ok-push-clause-lists
returns-in_ok-push-clause-lists g c =
    subst (λ (xs : List ℕ). ListsSet (bag.contains nat_eq c.insert.new.self) xs) (sym c.in_ok-push.ensures.items)
    (set_put (bag.contains nat_eq c.args.seen.now) (bag.contains nat_eq c.insert.new.self) c.in-Some.number c.in_ok-insert.ensures.updates.0
    c.args.outs.now.items c.requires
    (false_from_not (bag.contains nat_eq c.args.seen.now c.in-Some.number) (sym c.in_ok-insert.ensures.added ∙ c.if-branch.true)))
