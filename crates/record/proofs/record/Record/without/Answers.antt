use Rattle.std.proofs.Common.{◌≡◌, ◌*◌, ◌+◌, ◌≤◌, ℕ, List, [], map, lit<, sym, ◌∙◌, subst}
use Rattle.std.specs.Prelude.{All, Contains}
use Rattle.std.proofs.lemmas.Result.{IfOk-weaker}
use Rattle.fee_rate.specs.declared.limits.TheConstants.{MAX_TOTAL}
use Rattle.cluster.specs.Clusters.{Cluster}
use Rattle.cluster.specs.Changes.{AreComponents, IsSplit}
use Rattle.cluster.specs.Steps.{most_steps_of}
use Rattle.links.specs.Closing.{closure}
use Rattle.record.specs.Records.{IsFitted}
use Rattle.record.proofs.Fewer.{fewer_fit, fewer_steps}
use Rattle.record.proofs.Keeping.{has_name, over_held, over_is, within_held, within_is}
use Rattle.record.proofs.Lost.{both_ok, lost_components, lost_few, lost_split, lost_steps}
use Rattle.record.proofs.record.Record.without.Goals as goal

pub without-requires : goal.without-requires
without-requires g c =
    let is = within_is c.self.inside.kept c.in-Within.component c.args.self.now c.in-Within.is c.self.view_is in
    (lit< tt, (lit< tt, (lit< tt, λ id here. subst (λ (s : Cluster). Contains s.names id) (sym is) (c.requires.own id here))))

pub returns-in_err-left-in-Within-clause-steps : goal.returns-in_err-left-in-Within-clause-steps
returns-in_err-left-in-Within-clause-steps g c =
    let is = within_is c.self.inside.kept c.in-Within.component c.args.self.now c.in-Within.is c.self.view_is in
    let whole = within_held (64 * g.row.W) c.self.inside.kept c.in-Within.component c.args.self.now c.in-Within.is c.self.view_is c.self.invariant.2 in
    fewer_steps (64 * g.row.W) c.args.limits.now c.args.self.now c.args.names.now whole c.requires.fits c.args.steps.now c.without.new.steps
    (subst (λ (s : Cluster). (lists : List (List ℕ)) → AreComponents s.graph c.args.names.now lists
    → c.without.new.steps ≤ c.args.steps.now + most_steps_of lists) is c.without.ensures.steps)

pub returns-in_ok-left-in-Within-clause-steps : goal.returns-in_ok-left-in-Within-clause-steps
returns-in_ok-left-in-Within-clause-steps g c =
    let is = within_is c.self.inside.kept c.in-Within.component c.args.self.now c.in-Within.is c.self.view_is in
    let whole = within_held (64 * g.row.W) c.self.inside.kept c.in-Within.component c.args.self.now c.in-Within.is c.self.view_is c.self.invariant.2 in
    fewer_steps (64 * g.row.W) c.args.limits.now c.args.self.now c.args.names.now whole c.requires.fits c.args.steps.now c.without.new.steps
    (subst (λ (s : Cluster). (lists : List (List ℕ)) → AreComponents s.graph c.args.names.now lists
    → c.without.new.steps ≤ c.args.steps.now + most_steps_of lists) is c.without.ensures.steps)

pub returns-in_ok-left-in-Within-clause-fitted : goal.returns-in_ok-left-in-Within-clause-fitted
returns-in_ok-left-in-Within-clause-fitted g c =
    let is = within_is c.self.inside.kept c.in-Within.component c.args.self.now c.in-Within.is c.self.view_is in
    let whole = within_held (64 * g.row.W) c.self.inside.kept c.in-Within.component c.args.self.now c.in-Within.is c.self.view_is c.self.invariant.2 in
    let left : List Cluster = c.in_ok-left-in-Within.left in
    let fits : All (IsFitted (64 * g.row.W) c.args.limits.now) left =
    fewer_fit (64 * g.row.W) c.args.limits.now c.args.self.now c.args.names.now whole c.requires.fits left
    (subst (λ (s : Cluster). AreComponents s.graph c.args.names.now (map (λ (d : Cluster). d.names) left)) is c.in_ok-left-in-Within.ensures.components)
    (subst (λ (s : Cluster). IsSplit s.graph c.args.names.now left) is c.in_ok-left-in-Within.ensures.split) c.in_ok-left-in-Within.ensures.whole in
    IfOk-weaker c.all_within.result (λ all. all.items ≡ c.into_vec.result.items) (λ all. All (IsFitted (64 * g.row.W) c.args.limits.now) all.items)
    (λ all same. subst (λ (cs : List Cluster). All (IsFitted (64 * g.row.W) c.args.limits.now) cs) (sym (same ∙ c.into_vec.ensures)) fits)
    c.all_within.ensures

pub without-requires-in-Over : goal.without-requires-in-Over
without-requires-in-Over g c =
    let old = c.deref.result.now.links in
    let held = over_held (64 * g.row.W) c.self.inside.kept c.in-Over.over c.deref.result.now c.in-Over.is c.deref.ensures c.self.invariant.2 in
    let is = over_is c.self.inside.kept c.in-Over.over c.deref.result.now c.args.self.now c.in-Over.is c.deref.ensures c.self.view_is in
    λ id here. has_name old held.links c.args.self.now is id (c.requires.own id here)

pub split_up-requires : goal.split_up-requires
split_up-requires g c =
    let old = c.deref.result.now.links in
    let held = over_held (64 * g.row.W) c.self.inside.kept c.in-Over.over c.deref.result.now c.in-Over.is c.deref.ensures c.self.invariant.2 in
    let is = over_is c.self.inside.kept c.in-Over.over c.deref.result.now c.args.self.now c.in-Over.is c.deref.ensures c.self.view_is in
    let left = c.in_ok-left-in-Over.left in (
      lit< tt,
      (
        lit< tt,
        (
          (c.self.invariant.0, c.self.invariant.1, c.requires.few),
          lost_few c.args.self.now old left c.args.names.now held.links is c.txs-left.ensures.whole c.in_ok-left-in-Over.ensures.txs
              c.in_ok-left-in-Over.ensures.ancestors MAX_TOTAL c.requires.total,
        ),
      ),
    )

pub returns-in_ok-left-in-Over-clause-split : goal.returns-in_ok-left-in-Over-clause-split
returns-in_ok-left-in-Over-clause-split g c =
    let old = c.deref.result.now.links in
    let held = over_held (64 * g.row.W) c.self.inside.kept c.in-Over.over c.deref.result.now c.in-Over.is c.deref.ensures c.self.invariant.2 in
    let is = over_is c.self.inside.kept c.in-Over.over c.deref.result.now c.args.self.now c.in-Over.is c.deref.ensures c.self.view_is in
    let left = c.in_ok-left-in-Over.left in
    both_ok (λ all. AreComponents (closure left) [] (map {A = Cluster} {B = List ℕ} (λ d. d.names) all.items)) (λ all. IsSplit (closure left) [] all.items)
    (λ all. IsSplit c.args.self.now.graph c.args.names.now all.items) c.split_up.result c.split_up.ensures.components c.split_up.ensures.split
    (λ all components split. lost_split c.args.self.now old left c.args.names.now held.links is c.txs-left.ensures.whole c.in_ok-left-in-Over.ensures.txs
    c.in_ok-left-in-Over.ensures.ancestors all.items components split)

pub returns-in_ok-left-in-Over-clause-components : goal.returns-in_ok-left-in-Over-clause-components
returns-in_ok-left-in-Over-clause-components g c =
    let old = c.deref.result.now.links in
    let held = over_held (64 * g.row.W) c.self.inside.kept c.in-Over.over c.deref.result.now c.in-Over.is c.deref.ensures c.self.invariant.2 in
    let is = over_is c.self.inside.kept c.in-Over.over c.deref.result.now c.args.self.now c.in-Over.is c.deref.ensures c.self.view_is in
    let left = c.in_ok-left-in-Over.left in
    IfOk-weaker c.split_up.result (λ all. AreComponents (closure left) [] (map {A = Cluster} {B = List ℕ} (λ d. d.names) all.items))
    (λ all. AreComponents c.args.self.now.graph c.args.names.now (map {A = Cluster} {B = List ℕ} (λ d. d.names) all.items))
    (λ all components. lost_components c.args.self.now old left c.args.names.now held.links is c.txs-left.ensures.whole c.in_ok-left-in-Over.ensures.txs
    c.in_ok-left-in-Over.ensures.ancestors all.items components) c.split_up.ensures.components

pub returns-in_ok-left-in-Over-clause-steps : goal.returns-in_ok-left-in-Over-clause-steps
returns-in_ok-left-in-Over-clause-steps g c =
    let old = c.deref.result.now.links in
    let held = over_held (64 * g.row.W) c.self.inside.kept c.in-Over.over c.deref.result.now c.in-Over.is c.deref.ensures c.self.invariant.2 in
    let is = over_is c.self.inside.kept c.in-Over.over c.deref.result.now c.args.self.now c.in-Over.is c.deref.ensures c.self.view_is in
    let left = c.in_ok-left-in-Over.left in
    lost_steps c.args.self.now old left c.args.names.now held.links is c.txs-left.ensures.whole c.in_ok-left-in-Over.ensures.txs
    c.in_ok-left-in-Over.ensures.ancestors c.args.limits.now c.args.steps.now c.split_up.new.steps c.split_up.ensures.steps.few
