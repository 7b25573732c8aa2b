use Rattle.std.proofs.Common.{List, ℕ, sym, ◌∙◌, subst}
use Rattle.std.specs.HashSet as bag
use Rattle.lists.proofs.Cases.{false_from_not, true_from_not}
use Rattle.lists.specs.Pairs.{same_pair}
use Rattle.links.specs.Pairs.{ListsSet}
use Rattle.links.proofs.Pairing.{set_more, set_again}
use Rattle.links.proofs.pairs.put.Goals as goal

pub returns-in_ok-push-clause-lists : goal.returns-in_ok-push-clause-lists
returns-in_ok-push-clause-lists c =
    subst (λ (l : List (ℕ × ℕ)). ListsSet (bag.contains same_pair c.insert.new.self) l) (sym c.in_ok-push.ensures.items)
    (set_more (bag.contains same_pair c.args.seen.now) (bag.contains same_pair c.insert.new.self) c.args.list.now.items c.args.pair c.requires
    (false_from_not (bag.contains same_pair c.args.seen.now c.args.pair) (sym c.in_ok-insert.ensures.added ∙ c.if-branch.true))
    c.in_ok-insert.ensures.updates.0).0

pub returns-else-branch-clause-more : goal.returns-else-branch-clause-more
returns-else-branch-clause-more c =
    (set_again (bag.contains same_pair c.args.seen.now) (bag.contains same_pair c.insert.new.self) c.args.list.now.items c.args.pair c.requires
    (true_from_not (bag.contains same_pair c.args.seen.now c.args.pair) (sym c.in_ok-insert.ensures.added ∙ c.if-branch.false))
    c.in_ok-insert.ensures.updates.0).1
