-- The parts that the walk shows are the level's, each with its cluster.
use Rattle.std.proofs.Common.{◌≡◌, ◌≤◌, List, Contains, map, sym, ap, ◌∙◌, subst, subst₂}
use Rattle.cluster_store.specs.Held.{Held, held_in}
use Rattle.cluster_store.specs.Stores.{Store}
use Rattle.levels.specs.Held.{IsHeldIn}
use Rattle.levels.specs.Levels.{OneLevel}
use Rattle.levels.proofs.Finds.{level_is}
use Rattle.levels.proofs.Holding.{held_parts, is_held}
use Rattle.levels.proofs.levels.Levels.held.Goals as goal

pub returns-clause-parts : goal.returns-clause-parts
returns-clause-parts g c =
    let shown : c.walk_held.result ≡ held_in c.args.level c.self.inside.shelves.store =
    c.walk_held.ensures ∙ ap (λ (s : Store). held_in c.args.level s) c.store.ensures in
    ap (map (λ (h : Held). h.part)) shown ∙ held_parts g.row.W c.self.inside.shelves c.self.invariant.order c.args.level
    ∙ ap (λ (l : OneLevel). l.parts) (sym (level_is g.row.W c.self.inside.issued c.self.inside.shelves c.args.self.now c.self.invariant.order c.self.view_is c.args.level))

pub returns-clause-clusters : goal.returns-clause-clusters
returns-clause-clusters g c h here =
    let shown : c.walk_held.result ≡ held_in c.args.level c.self.inside.shelves.store =
    c.walk_held.ensures ∙ ap (λ (s : Store). held_in c.args.level s) c.store.ensures in
    subst (λ (l : OneLevel). IsHeldIn l h) (sym (level_is g.row.W c.self.inside.issued c.self.inside.shelves c.args.self.now c.self.invariant.order c.self.view_is c.args.level))
    (is_held g.row.W c.self.inside.shelves c.self.invariant.order c.args.level h (subst (λ (hs : List Held). Contains hs h) shown here))

pub returns-clause-narrow : goal.returns-clause-narrow
returns-clause-narrow g c = c.self.invariant.order.narrow
