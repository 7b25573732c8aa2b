-- A name of the top level becomes a parent of another.
use Rattle.std.proofs.Common.{◌≡◌, ℕ, List, ◌≢◌, ◌⊎◌, true, None, inl, refl, sym, ap, ◌∙◌, subst, subst₂, IfErr, OnOk, OnErr, arith}
use Rattle.graph_model.specs.declared.names.Refusal.{Refusal}
use Rattle.graph_model.specs.declared.names.Refusal.TheVariants.{Memory}
use Rattle.graph_model.specs.declared.names.Limits.{Limits}
use Rattle.graphs.specs.Closures.{Closure, is_ancestor, AddsPair, AreLinked}
use Rattle.graphs.specs.Graphs.{Lists}
use Rattle.graphs.specs.declared.names.Level.TheVariants.{Top}
use Rattle.levels.specs.Joins.{DepRefusalIs}
use Rattle.levels.specs.Levels.{ChangesTop, HavePicks, level_at}
use Rattle.levels.specs.Moves.{Connects}
use Rattle.levels.specs.Kept.{IsKept, SuitsShelf}
use Rattle.levels.specs.Links.{IsLink}
use Rattle.levels.specs.Shelves.{HaveFew, IsInOrder, Shelf, levels_of, view_of}
use Rattle.levels.specs.Views.{graph_of}
use Rattle.cluster.specs.Steps.{GrowsWithin}
use Rattle.record.specs.Steps.{most_steps_fit}
use Rattle.levels.proofs.Connecting.{RowIs, connected_top, connects_from, every_error, fails_from, kept_on, row_refused, stays_on}
use Rattle.levels.proofs.Finds.{graph_is, limits_is}
use Rattle.levels.proofs.Keeping.{few_kept}
use Rattle.levels.proofs.Oversizing.{have_picks}
use Rattle.levels.proofs.Turned.{stays_from, turns_from}
use Rattle.levels.proofs.Rooms.{work_fits}
use Rattle.levels.proofs.Unmoved.{same_all_stay}
use Rattle.levels.proofs.levels.Levels.dep.Goals as goal
use Rattle.levels.proofs.levels.Levels.dep.Goals.{in-Ok, in-Err}

pub refused_dep-requires : goal.refused_dep-requires
refused_dep-requires g c = (
  omega arith,
  (c.self.invariant.order, few_kept g.row.W c.self.inside.mains c.self.inside.tops c.self.inside.issued c.self.inside.shelves c.self.inside.rings c.self.invariant),
)

pub returns-in_err-link-clause-row : goal.returns-in_err-link-clause-row
returns-in_err-link-clause-row g c =
    subst₂ (λ (l : Limits) (h : Closure). RowIs l h c.args.parent c.args.child c.from_residual.result)
    (sym (limits_is g.row.W c.self.inside.issued c.self.inside.shelves c.args.self.now c.self.invariant.order c.self.view_is))
    (sym (graph_is g.row.W c.self.inside.issued c.self.inside.shelves c.args.self.now c.self.invariant.order c.self.view_is Top))
    (row_refused c.self.inside.shelves.limits _ c.args.parent c.args.child c.from_residual.result
    c.in_err-link.field-0.0 c.from_residual.ensures.1 c.in_err-link.ensures.row)

pub returns-in_err-link-clause-same : goal.returns-in_err-link-clause-same
returns-in_err-link-clause-same g c =
    let is = ap (λ (s : Shelf). levels_of s c.self.inside.issued) c.refused_dep.ensures.same ∙ c.self.view_is in
    (every_error c.from_residual.result (λ why. (is, (λ other. refl))), λ up. (is, refl))

pub returns-in_err-link-clause-kept : goal.returns-in_err-link-clause-kept
returns-in_err-link-clause-kept g c =
    let is = ap (λ (s : Shelf). levels_of s c.self.inside.issued) c.refused_dep.ensures.same in (
      subst HavePicks (sym is) (have_picks g.row.W c.self.inside.shelves c.self.invariant.order c.self.inside.issued),
      same_all_stay c.args.self.now (levels_of c.refused_dep.new.self c.self.inside.issued) (is ∙ c.self.view_is),
    )

pub invariant_of-self : goal.invariant_of-self
invariant_of-self g c =
    subst (λ (s : Shelf). IsKept g.row.W s c.self.inside.rings c.self.inside.mains c.self.inside.tops c.self.inside.issued) (sym c.refused_dep.ensures.same) c.self.invariant

pub connect-requires : goal.connect-requires
connect-requires g c =
    let same = sym c.refused_dep.ensures.same in
    let few = few_kept g.row.W c.self.inside.mains c.self.inside.tops c.self.inside.issued c.self.inside.shelves c.self.inside.rings c.self.invariant in (
      omega arith,
      (
        work_fits g.row.W c.self.invariant.order.narrow,
        (
          subst (λ (s : Shelf). IsInOrder g.row.W s) same c.self.invariant.order,
          (
            subst (λ (s : Shelf). SuitsShelf c.self.inside.rings s) same c.self.invariant.right,
            (
              subst HaveFew same few,
              subst (λ (s : Shelf). IsLink s c.args.parent c.args.child c.in_ok-link.link) same c.in_ok-link.ensures.link,
            ),
          ),
        ),
      ),
    )

pub invariant_of-self-2 : goal.invariant_of-self-2
invariant_of-self-2 g c =
    let done = c.connect.ensures in
    kept_on g.row.W c.self.inside.mains c.self.inside.tops c.self.inside.issued
    c.self.inside.shelves c.connect.new.shelves c.self.inside.rings c.connect.new.rings
    c.self.invariant c.connect.result done.kept.0 done.kept.1 c.args.parent c.args.child
    (connects_from c.connect.result g.row.W c.args.parent c.args.child c.refused_dep.new.self c.self.inside.shelves c.connect.new.shelves c.refused_dep.ensures.same c.connect.ensures.linked) done.kept.2
    (fails_from c.connect.result c.refused_dep.new.self c.self.inside.shelves c.connect.new.shelves (c.connect.new.rings ≡ c.self.inside.rings) c.refused_dep.ensures.same c.connect.ensures.err)

pub returns-clause-row : goal.returns-clause-row
returns-clause-row g c =
    let graph = (level_at c.args.self.now Top).graph in
    let same = graph_is g.row.W c.self.inside.issued c.self.inside.shelves c.args.self.now c.self.invariant.order c.self.view_is Top in
    let row = subst₂ (λ (l : Limits) (h : Closure). DepRefusalIs l h c.args.parent c.args.child None) (sym (limits_is g.row.W c.self.inside.issued c.self.inside.shelves c.args.self.now c.self.invariant.order c.self.view_is))
    (sym same) c.in_ok-link.ensures.row in
    elim c.match-connect.branch [
      | in-Ok w ↦ subst (RowIs c.args.self.now.limits graph c.args.parent c.args.child) (sym w.result-is) row
      | in-Err w ↦ subst (RowIs c.args.self.now.limits graph c.args.parent c.args.child) (sym w.result-is) (inl (refl, row))
    ]

pub returns-clause-linked : goal.returns-clause-linked
returns-clause-linked g c =
    let old = c.self.inside.shelves in
    let new = c.connect.new.shelves in
    let issued = c.self.inside.issued in
    let changes = ChangesTop (λ a b. AddsPair a b c.args.parent c.args.child) c.args.self.now (levels_of new issued) in
    elim c.match-connect.branch [
      | in-Ok w ↦
          subst (λ r. OnOk r changes) (sym w.result-is)
          (turns_from old issued c.args.self.now (levels_of new issued) c.self.view_is (λ a b. AddsPair a b c.args.parent c.args.child)
          (connected_top g.row.W issued old new c.self.invariant.order c.connect.ensures.kept.0 c.args.parent c.args.child
          (subst (λ r. OnOk r (Connects g.row.W c.args.parent c.args.child old new)) w.in-Ok.is
          (connects_from c.connect.result g.row.W c.args.parent c.args.child c.refused_dep.new.self c.self.inside.shelves c.connect.new.shelves c.refused_dep.ensures.same c.connect.ensures.linked))))
      | in-Err w ↦ subst (λ r. OnOk r changes) (sym w.result-is) tt
    ]

pub returns-clause-same : goal.returns-clause-same
returns-clause-same g c =
    let old = c.self.inside.shelves in
    let new = c.connect.new.shelves in
    let issued = c.self.inside.issued in
    let same = graph_is g.row.W issued old c.args.self.now c.self.invariant.order c.self.view_is Top in
    let Stays = λ (why : Refusal). (levels_of new issued ≡ c.args.self.now) × (why ≢ Memory → c.connect.new.steps ≡ c.args.steps.now) in
    let as_it_was = λ (is : new ≡ old). ap (λ (s : Shelf). levels_of s issued) is ∙ c.self.view_is in (
      elim c.match-connect.branch [
        | in-Ok w ↦ subst (λ r. IfErr r Stays) (sym w.result-is) tt
        | in-Err w ↦
            subst (λ r. IfErr r Stays) (sym w.result-is) (
              as_it_was (subst (λ r. OnErr r ((new ≡ old) × (c.connect.new.rings ≡ c.self.inside.rings))) w.in-Err.is
                  (fails_from c.connect.result c.refused_dep.new.self c.self.inside.shelves c.connect.new.shelves (c.connect.new.rings ≡ c.self.inside.rings) c.refused_dep.ensures.same c.connect.ensures.err)).0,
              (λ other. absurd (other refl)),
            )
      ],
      λ up.
          let stay = c.connect.ensures.still (subst (λ (s : Shelf). is_ancestor (graph_of (view_of Top s)) c.args.parent c.args.child ≡ true)
          (sym c.refused_dep.ensures.same) (subst (λ (h : Closure). is_ancestor h c.args.parent c.args.child ≡ true) same up)) in
          (as_it_was (stay.0 ∙ c.refused_dep.ensures.same), stay.2),
    )

pub returns-clause-kept : goal.returns-clause-kept
returns-clause-kept g c =
    let old = c.self.inside.shelves in
    let new = c.connect.new.shelves in
    let issued = c.self.inside.issued in (
      have_picks g.row.W new c.connect.ensures.kept.0 issued,
      stays_from old issued c.args.self.now (levels_of new issued) c.self.view_is
          (stays_on c.connect.result g.row.W issued old new c.self.invariant.order c.connect.ensures.kept.0 c.args.parent c.args.child
          (connects_from c.connect.result g.row.W c.args.parent c.args.child c.refused_dep.new.self c.self.inside.shelves c.connect.new.shelves c.refused_dep.ensures.same c.connect.ensures.linked) (c.connect.new.rings ≡ c.self.inside.rings)
          (fails_from c.connect.result c.refused_dep.new.self c.self.inside.shelves c.connect.new.shelves (c.connect.new.rings ≡ c.self.inside.rings) c.refused_dep.ensures.same c.connect.ensures.err)),
    )

pub returns-clause-steps : goal.returns-clause-steps
returns-clause-steps g c =
    subst₂ (λ (l : Limits) (h : Closure). (ids : List ℕ) → Lists (λ q. AreLinked h q c.args.parent ⊎ AreLinked h q c.args.child) ids
    → GrowsWithin (most_steps_fit l h ids) c.args.steps.now c.connect.new.steps)
    (sym (limits_is g.row.W c.self.inside.issued c.self.inside.shelves c.args.self.now c.self.invariant.order c.self.view_is))
    (sym (graph_is g.row.W c.self.inside.issued c.self.inside.shelves c.args.self.now c.self.invariant.order c.self.view_is Top))
    (subst (λ (s : Shelf). (ids : List ℕ) → Lists (λ q. AreLinked (graph_of (view_of Top s)) q c.args.parent ⊎ AreLinked (graph_of (view_of Top s)) q c.args.child) ids
    → GrowsWithin (most_steps_fit s.limits (graph_of (view_of Top s)) ids) c.args.steps.now c.connect.new.steps) c.refused_dep.ensures.same c.connect.ensures.steps)
