-- Names that the top level has are dropped from it.
use Rattle.std.proofs.Common.{arith, ◌∙◌, sym, ap, subst₂}
use Rattle.graphs.specs.Closures.{Closure}
use Rattle.graphs.specs.declared.names.Level.TheVariants.{Top}
use Rattle.levels.specs.Kept.{IsKept}
use Rattle.levels.specs.Lefts.{DropsWithin}
use Rattle.levels.specs.Levels.{LosesNames}
use Rattle.levels.specs.Rings.{Ringed}
use Rattle.levels.specs.Shelves.{levels_of, Shelf}
use Rattle.graph_model.specs.declared.names.Limits.{Limits}
use Rattle.levels.proofs.Finds.{graph_is, limits_is, member_is}
use Rattle.levels.proofs.Keeping.{few_kept}
use Rattle.levels.proofs.Oversizing.{have_picks}
use Rattle.levels.proofs.Rooms.{work_fits}
use Rattle.levels.proofs.Tallies.{tops_less, top_turned}
use Rattle.levels.proofs.Turned.{kept_dropped, stays_from, turns_from}
use Rattle.levels.proofs.Turning.{dropped_keeps, dropped_top}
use Rattle.levels.proofs.Unmoved.{same_all_stay}
use Rattle.levels.proofs.levels.Levels.drop_names.Goals as goal

pub drop_names-requires : goal.drop_names-requires
drop_names-requires g c = (
  omega arith,
  (
    work_fits g.row.W c.self.invariant.order.narrow,
    (
      c.self.invariant.order,
      (
        c.self.invariant.right,
        (
          few_kept g.row.W c.self.inside.mains c.self.inside.tops c.self.inside.issued c.self.inside.shelves c.self.inside.rings c.self.invariant,
          (
            λ id here. sym (member_is g.row.W c.self.inside.issued c.self.inside.shelves c.args.self.now c.self.invariant.order c.self.view_is Top id)
                ∙ c.requires.live id here,
            c.requires.once,
          ),
        ),
      ),
    ),
  ),
)

pub invariant_of-self : goal.invariant_of-self
invariant_of-self g c =
    let err = c.in_err-drop_names.ensures.err in
    subst₂ (λ (shelf : Shelf) (rings : Ringed). IsKept g.row.W shelf rings c.self.inside.mains c.self.inside.tops c.self.inside.issued)
    (sym err.0) (sym err.1) c.self.invariant

pub returns-in_err-drop_names-clause-kept : goal.returns-in_err-drop_names-clause-kept
returns-in_err-drop_names-clause-kept g c = (
  have_picks g.row.W c.drop_names.new.shelves c.drop_names.ensures.kept.0 c.self.inside.issued,
  same_all_stay c.args.self.now (levels_of c.drop_names.new.shelves c.self.inside.issued)
      (ap (λ (s : Shelf). levels_of s c.self.inside.issued) c.in_err-drop_names.ensures.err.0 ∙ c.self.view_is),
)

pub returns-in_err-drop_names-clause-steps : goal.returns-in_err-drop_names-clause-steps
returns-in_err-drop_names-clause-steps g c =
    subst₂ (λ (l : Limits) (h : Closure). DropsWithin l c.args.ids.now h c.args.steps.now c.drop_names.new.steps)
    (sym (limits_is g.row.W c.self.inside.issued c.self.inside.shelves c.args.self.now c.self.invariant.order c.self.view_is))
    (sym (graph_is g.row.W c.self.inside.issued c.self.inside.shelves c.args.self.now c.self.invariant.order c.self.view_is Top)) c.drop_names.ensures.steps

pub overflow_sub-self : goal.overflow_sub-self
overflow_sub-self g c =
    let old = c.self.inside.shelves in
    let new = c.drop_names.new.shelves in
    let done = c.in_ok-drop_names.ensures in
    let issued = c.self.inside.issued in
    let turns = dropped_top g.row.W issued old new c.self.invariant.order done.kept.0 done.dropped.0 c.args.ids.now done.dropped.1 in
    let less = tops_less old new c.args.ids.now (top_turned g.row.W issued old new c.self.invariant.order done.kept.0 (λ a b. LosesNames a b c.args.ids.now) turns)
    c.requires.once
    (λ id here. sym (member_is g.row.W issued old c.args.self.now c.self.invariant.order c.self.view_is Top id) ∙ c.requires.live id here) in
    omega (arith, less, c.self.invariant.tops)

pub invariant_of-self-2 : goal.invariant_of-self-2
invariant_of-self-2 g c =
    let old = c.self.inside.shelves in
    let new = c.drop_names.new.shelves in
    let done = c.in_ok-drop_names.ensures in
    kept_dropped g.row.W c.self.inside.mains c.self.inside.tops c.self.inside.issued old new c.self.inside.rings
    c.drop_names.new.rings c.self.invariant done.kept.0 done.kept.1 done.dropped.1.is.rebuilds.staged c.args.ids.now c.requires.once
    (λ id here. sym (member_is g.row.W c.self.inside.issued old c.args.self.now c.self.invariant.order c.self.view_is Top id) ∙ c.requires.live id here)
    (dropped_top g.row.W c.self.inside.issued old new c.self.invariant.order done.kept.0 done.dropped.0 c.args.ids.now done.dropped.1)
    c.is_staged.result c.main_count-self-inside.result c.is_staged.ensures c.main_count-self-inside.ensures done.kept.2.0 done.kept.2.1

pub returns-clause-dropped : goal.returns-clause-dropped
returns-clause-dropped g c =
    let old = c.self.inside.shelves in
    let new = c.drop_names.new.shelves in
    let done = c.in_ok-drop_names.ensures in
    turns_from old c.self.inside.issued c.args.self.now (levels_of new c.self.inside.issued) c.self.view_is (λ a b. LosesNames a b c.args.ids.now)
    (dropped_top g.row.W c.self.inside.issued old new c.self.invariant.order done.kept.0 done.dropped.0 c.args.ids.now done.dropped.1)

pub returns-clause-kept : goal.returns-clause-kept
returns-clause-kept g c =
    let old = c.self.inside.shelves in
    let new = c.drop_names.new.shelves in
    let done = c.in_ok-drop_names.ensures in (
      have_picks g.row.W new done.kept.0 c.self.inside.issued,
      stays_from old c.self.inside.issued c.args.self.now (levels_of new c.self.inside.issued) c.self.view_is
          (dropped_keeps g.row.W c.self.inside.issued old new c.self.invariant.order done.kept.0 done.dropped.0 c.args.ids.now done.dropped.1),
    )

pub returns-clause-steps : goal.returns-clause-steps
returns-clause-steps g c =
    subst₂ (λ (l : Limits) (h : Closure). DropsWithin l c.args.ids.now h c.args.steps.now c.drop_names.new.steps)
    (sym (limits_is g.row.W c.self.inside.issued c.self.inside.shelves c.args.self.now c.self.invariant.order c.self.view_is))
    (sym (graph_is g.row.W c.self.inside.issued c.self.inside.shelves c.args.self.now c.self.invariant.order c.self.view_is Top)) c.drop_names.ensures.steps
