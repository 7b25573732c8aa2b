-- The merged parts are an optimal order of the level, and those of a level.
use Rattle.std.proofs.Common.{◌≡◌, ◌≤◌, ℕ, List, map, true, sym, ap, ◌∙◌, subst, subst₂, arith}
use Rattle.fee_rate.specs.Limits.{IsRate}
use Rattle.graphs.specs.Closures.{is_member, rate_of}
use Rattle.diagram.specs.Parts.{AreLevelParts}
use Rattle.cluster_store.specs.Stores.{Shown, Store, parts_of_level, shown_in}
use Rattle.levels.specs.Levels.{OneLevel, IsBest}
use Rattle.levels.specs.Orders.{sums_of}
use Rattle.levels.specs.Views.{HaveClusterNumbers}
use Rattle.levels.proofs.Clustered.{cluster_numbers}
use Rattle.levels.proofs.Finds.{level_is, within_at}
use Rattle.levels.proofs.Keeping.{few_kept}
use Rattle.levels.proofs.Rooms.{stored_fits}
use Rattle.levels.proofs.Summing.{best, level_parts, rated}
use Rattle.levels.proofs.levels.Levels.parts.Goals as goal

pub walk-requires : goal.walk-requires
walk-requires g c = let narrow : g.row.W ≤ 2 = c.self.invariant.order.narrow in (omega arith, stored_fits g.row.W narrow)

pub returns-clause-parts : goal.returns-clause-parts
returns-clause-parts g c =
    ap (λ (shown : List Shown). map (λ s. s.part) shown) c.walk.ensures.parts ∙ ap (λ (s : Store). parts_of_level c.args.level s) c.store.ensures
    ∙ ap (λ (l : OneLevel). l.parts) (sym (level_is g.row.W c.self.inside.issued c.self.inside.shelves c.args.self.now c.self.invariant.order c.self.view_is c.args.level))

pub returns-clause-best : goal.returns-clause-best
returns-clause-best g c =
    let is = level_is g.row.W c.self.inside.issued c.self.inside.shelves c.args.self.now c.self.invariant.order c.self.view_is c.args.level in
    subst IsBest (sym is)
    (best g.row.W c.self.inside.shelves c.self.invariant.order c.args.level (within_at g.row.W c.self.inside.issued c.self.inside.shelves c.args.self.now c.self.invariant.order c.self.view_is c.args.level c.requires))

pub returns-clause-rates : goal.returns-clause-rates
returns-clause-rates g c =
    subst (λ (l : OneLevel). (id : ℕ) → is_member l.graph id ≡ true → IsRate (rate_of l.graph id))
    (sym (level_is g.row.W c.self.inside.issued c.self.inside.shelves c.args.self.now c.self.invariant.order c.self.view_is c.args.level)) (rated g.row.W c.self.inside.shelves c.self.invariant.order c.args.level)

pub returns-clause-level : goal.returns-clause-level
returns-clause-level g c =
    subst (λ (l : OneLevel). AreLevelParts (sums_of l.parts)) (sym (level_is g.row.W c.self.inside.issued c.self.inside.shelves c.args.self.now c.self.invariant.order c.self.view_is c.args.level))
    (level_parts g.row.W c.self.inside.shelves c.self.invariant.order c.args.level (within_at g.row.W c.self.inside.issued c.self.inside.shelves c.args.self.now c.self.invariant.order c.self.view_is c.args.level c.requires)
    (few_kept g.row.W c.self.inside.mains c.self.inside.tops c.self.inside.issued c.self.inside.shelves c.self.inside.rings c.self.invariant c.args.level))

pub returns-clause-numbers : goal.returns-clause-numbers
returns-clause-numbers g c =
    subst₂ (λ (l : OneLevel) (shown : List Shown). HaveClusterNumbers l.graph shown)
    (sym (level_is g.row.W c.self.inside.issued c.self.inside.shelves c.args.self.now c.self.invariant.order c.self.view_is c.args.level))
    (sym (c.walk.ensures.parts ∙ ap (λ (s : Store). shown_in c.args.level s) c.store.ensures))
    (cluster_numbers g.row.W c.self.inside.shelves c.self.invariant.order c.args.level (within_at g.row.W c.self.inside.issued c.self.inside.shelves c.args.self.now c.self.invariant.order c.self.view_is c.args.level c.requires))
