use Rattle.std.proofs.Common.{◌≡◌, ◌≤◌, ◌+◌, ◌*◌, ℕ, List, ap, All, Contains, subst, subst₂, ◌∙◌, sym, arith}
use Rattle.std.proofs.lemmas.Result.{on_ok_weaker}
use Rattle.std.proofs.lemmas.Option.{same_Some}
use Rattle.cluster.specs.Changes.{AreComponents, IsSplit}
use Rattle.cluster.specs.Clusters.{Cluster}
use Rattle.levels.proofs.Partway.{names_of, run_held, run_seen, run_stored}
use Rattle.graph_model.specs.declared.names.Limits.{Limits}
use Rattle.record.specs.Leaving.{MayLose}
use Rattle.record.specs.Records.{IsFitted}
use Rattle.record.specs.Steps.{most_steps_fit_of}
use Rattle.levels.specs.Shelves.{Shelf}
use Rattle.levels.proofs.Fewer.{cluster_few}
use Rattle.levels.proofs.Rooms.{record_fits, work_fits}
use Rattle.levels.proofs.shelves.Shelves.leave_run.Goals as goal

pub at-requires : goal.at-requires
at-requires g c =
    let narrow : g.row.W ≤ 2 = c.requires.order.narrow in
    (omega arith, (record_fits g.row.W narrow, run_stored g.row.W c.args.self.now c.requires.order c.args.number c.args.run.now c.requires.run))

pub without-requires : goal.without-requires
without-requires g c =
    let narrow : g.row.W ≤ 2 = c.requires.order.narrow in
    let seen = run_seen g.row.W c.args.self.now c.requires.order c.args.number c.args.run.now c.requires.run c.at.result.now c.at.ensures in
    let told : c.as_slice-ids.result.now ≡ names_of c.args.run.now = c.as_slice-ids.ensures.value ∙ c.in_ok-names.ensures in (
      record_fits g.row.W narrow,
      (
        work_fits g.row.W narrow,
        subst (λ (l : Limits). MayLose (64 * g.row.W) l c.at.result.now c.as_slice-ids.result.now) (sym (ap (λ (s : Shelf). s.limits) c.self.view_is)) (record {
          few = c.requires.order.in_range.count_high;
          fits = c.requires.order.fitted c.args.number c.at.result.now c.at.ensures;
          total = cluster_few g.row.W c.args.self.now c.requires.order c.requires.few c.args.number c.at.result.now seen;
          own = λ id here. run_held g.row.W c.args.self.now c.requires.order c.args.number c.args.run.now c.requires.run c.at.result.now seen id
              (subst (λ (xs : List ℕ). Contains xs id) told here);
        }),
      ),
    )

pub returns-in_err-pieces-clause-steps : goal.returns-in_err-pieces-clause-steps
returns-in_err-pieces-clause-steps g c k lists at are =
    let seen = run_seen g.row.W c.args.self.now c.requires.order c.args.number c.args.run.now c.requires.run c.at.result.now c.at.ensures in
    let one : k ≡ c.at.result.now = same_Some k c.at.result.now (sym at ∙ seen) in
    let told : c.as_slice-ids.result.now ≡ names_of c.args.run.now = c.as_slice-ids.ensures.value ∙ c.in_ok-names.ensures in
    subst₂ (λ (l : Limits) (e : Cluster). c.without.new.steps ≤ c.args.steps.now + most_steps_fit_of l e.graph lists)
    (ap (λ (s : Shelf). s.limits) c.self.view_is) (sym one) (c.without.ensures.steps lists
    (subst₂ (λ (e : Cluster) (xs : List ℕ). AreComponents e.graph xs lists) one (sym told) are))

pub returns-clause-left : goal.returns-clause-left
returns-clause-left g c =
    let seen = run_seen g.row.W c.args.self.now c.requires.order c.args.number c.args.run.now c.requires.run c.at.result.now c.at.ensures in
    let told : c.as_slice-ids.result.now ≡ names_of c.args.run.now = c.as_slice-ids.ensures.value ∙ c.in_ok-names.ensures in
    on_ok_weaker c.take.result (λ takes. (
      c.at.result.now,
      c.in_ok-pieces.pieces.items,
      seen,
      subst (λ (xs : List ℕ). IsSplit c.at.result.now.graph xs c.in_ok-pieces.pieces.items) told c.in_ok-pieces.ensures.split,
      subst (λ (l : Limits). All (IsFitted (64 * g.row.W) l) c.in_ok-pieces.pieces.items) (ap (λ (s : Shelf). s.limits) c.self.view_is) c.in_ok-pieces.ensures.fitted,
      takes,
    )) c.take.ensures

pub returns-clause-steps : goal.returns-clause-steps
returns-clause-steps g c k lists at are =
    let seen = run_seen g.row.W c.args.self.now c.requires.order c.args.number c.args.run.now c.requires.run c.at.result.now c.at.ensures in
    let one : k ≡ c.at.result.now = same_Some k c.at.result.now (sym at ∙ seen) in
    let told : c.as_slice-ids.result.now ≡ names_of c.args.run.now = c.as_slice-ids.ensures.value ∙ c.in_ok-names.ensures in
    subst₂ (λ (l : Limits) (e : Cluster). c.without.new.steps ≤ c.args.steps.now + most_steps_fit_of l e.graph lists)
    (ap (λ (s : Shelf). s.limits) c.self.view_is) (sym one) (c.without.ensures.steps lists
    (subst₂ (λ (e : Cluster) (xs : List ℕ). AreComponents e.graph xs lists) one (sym told) are))
