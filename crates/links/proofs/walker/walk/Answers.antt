use Rattle.std.proofs.Common.{◌≡◌, ℕ, List, sym, subst}
use Rattle.links.specs.Walkers.{Finds, FindsAll}
use Rattle.links.proofs.Marks.{found_from_one}
use Rattle.links.proofs.walker.walk.Goals as goal

pub returns-clause-found : goal.returns-clause-found
returns-clause-found c =
    let starts = c.reach.new.walker.found.items in
    subst (λ (xs : List ℕ). FindsAll c.args.ways.now.steps.items c.args.from xs) (sym c.unmark.ensures.found)
    (found_from_one c.args.ways.now.steps.items c.args.from starts c.spread.new.walker.found.items
    (subst (λ (xs : List ℕ). Finds (λ (p : ℕ). p ≡ c.args.from) xs starts) c.clear.ensures.items c.reach.ensures.finds) c.reach.ensures.found
    c.spread.ensures.found)
