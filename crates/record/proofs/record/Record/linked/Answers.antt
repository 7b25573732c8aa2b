use Rattle.std.proofs.Common.{◌*◌, lit<, sym, subst}
use Rattle.cluster.specs.Clusters.{Cluster, IsCluster}
use Rattle.graphs.specs.Closures.{AddsPair}
use Rattle.links.specs.Links.{AreLinks}
use Rattle.record.specs.Kept.{unordered}
use Rattle.record.specs.Records.{StaysFitted}
use Rattle.record.proofs.Keeping.{handed_with, no_way, over_held, over_is, within_held, within_is}
use Rattle.record.proofs.Linking.{pair_fits, linked_connected, linked_graph, linked_fitted}
use Rattle.record.proofs.Sized.{ordered_again}
use Rattle.record.proofs.record.Record.linked.Goals as goal

pub linked-requires-in-Over-clause-no_cycle : goal.linked-requires-in-Over-clause-no_cycle
linked-requires-in-Over-clause-no_cycle g c =
    let links = c.deref.result.now.links in
    let are : AreLinks links = (over_held (64 * g.row.W) c.self.inside.kept c.in-Over.over c.deref.result.now c.in-Over.is c.deref.ensures c.self.invariant.2).links in
    no_way links are c.args.self.now (over_is c.self.inside.kept c.in-Over.over c.deref.result.now c.args.self.now c.in-Over.is c.deref.ensures c.self.view_is)
    c.args.child c.args.parent c.requires.ends.1 c.requires.ends.0 c.requires.no_cycle

pub over-requires : goal.over-requires
over-requires g c =
    let held = over_held (64 * g.row.W) c.self.inside.kept c.in-Over.over c.deref.result.now c.in-Over.is c.deref.ensures c.self.invariant.2 in (
      lit< tt,
      (
        c.self.invariant.0,
        (
          c.self.invariant.1,
          λ are. linked_connected c.args.self.now c.deref.result.now.links c.in_ok-linked-in-Over.linked c.args.parent c.args.child held.links
              (over_is c.self.inside.kept c.in-Over.over c.deref.result.now c.args.self.now c.in-Over.is c.deref.ensures c.self.view_is) held.connected
              c.in_ok-linked-in-Over.ensures.txs c.in_ok-linked-in-Over.ensures.pairs c.requires.ends.0 c.requires.ends.1 are,
        ),
      ),
    )

pub returns-in_ok-linked-in-Within-clause-fitted : goal.returns-in_ok-linked-in-Within-clause-fitted
returns-in_ok-linked-in-Within-clause-fitted g c =
    let linked = c.in_ok-linked-in-Within.linked in
    let is = within_is c.self.inside.kept c.in-Within.component c.args.self.now c.in-Within.is c.self.view_is in
    let was = within_held (64 * g.row.W) c.self.inside.kept c.in-Within.component c.args.self.now c.in-Within.is c.self.view_is c.self.invariant.2 in
    subst (λ (r : Cluster). StaysFitted (64 * g.row.W) c.args.self.now r) (sym c.within.ensures)
    (subst (λ (s : Cluster). StaysFitted (64 * g.row.W) s linked) is
    (pair_fits (64 * g.row.W) c.in-Within.component linked c.args.parent c.args.child c.in_ok-linked-in-Within.ensures.names
    c.in_ok-linked-in-Within.ensures.graph (subst (IsCluster (64 * g.row.W)) (sym is) was) c.in_ok-linked-in-Within.ensures.whole))

pub returns-in_ok-linked-in-Over-clause-graph : goal.returns-in_ok-linked-in-Over-clause-graph
returns-in_ok-linked-in-Over-clause-graph g c =
    let held = over_held (64 * g.row.W) c.self.inside.kept c.in-Over.over c.deref.result.now c.in-Over.is c.deref.ensures c.self.invariant.2 in
    handed_with (λ (r : Cluster). AddsPair c.args.self.now.graph r.graph c.args.parent c.args.child) (AreLinks c.in_ok-linked-in-Over.linked)
    (unordered c.in_ok-linked-in-Over.linked) c.over.result c.over.ensures.record c.over.ensures.links
    (linked_graph c.args.self.now c.deref.result.now.links c.in_ok-linked-in-Over.linked c.args.parent c.args.child held.links
    (over_is c.self.inside.kept c.in-Over.over c.deref.result.now c.args.self.now c.in-Over.is c.deref.ensures c.self.view_is) held.connected
    c.in_ok-linked-in-Over.ensures.txs c.in_ok-linked-in-Over.ensures.pairs c.requires.ends.0 c.requires.ends.1)

pub returns-in_ok-linked-in-Over-clause-fitted : goal.returns-in_ok-linked-in-Over-clause-fitted
returns-in_ok-linked-in-Over-clause-fitted g c =
    let held = over_held (64 * g.row.W) c.self.inside.kept c.in-Over.over c.deref.result.now c.in-Over.is c.deref.ensures c.self.invariant.2 in
    handed_with (λ (r : Cluster). StaysFitted (64 * g.row.W) c.args.self.now r) (AreLinks c.in_ok-linked-in-Over.linked)
    (unordered c.in_ok-linked-in-Over.linked) c.over.result c.over.ensures.record c.over.ensures.links
    (λ are. linked_fitted c.args.self.now c.deref.result.now.links c.in_ok-linked-in-Over.linked c.args.parent c.args.child held.links
    (over_is c.self.inside.kept c.in-Over.over c.deref.result.now c.args.self.now c.in-Over.is c.deref.ensures c.self.view_is) held.connected
    c.in_ok-linked-in-Over.ensures.txs c.in_ok-linked-in-Over.ensures.pairs c.requires.ends.0 c.requires.ends.1 are (64 * g.row.W))

pub returns-in_err-linked-in-Within-clause-steps : goal.returns-in_err-linked-in-Within-clause-steps
returns-in_err-linked-in-Within-clause-steps g c =
    let is = within_is c.self.inside.kept c.in-Within.component c.args.self.now c.in-Within.is c.self.view_is in
    let was = within_held (64 * g.row.W) c.self.inside.kept c.in-Within.component c.args.self.now c.in-Within.is c.self.view_is c.self.invariant.2 in
    ordered_again (64 * g.row.W) c.in-Within.component c.args.self.now is was c.args.steps.now c.linked.new.steps c.linked.ensures.steps

pub returns-in_ok-linked-in-Within-clause-steps : goal.returns-in_ok-linked-in-Within-clause-steps
returns-in_ok-linked-in-Within-clause-steps g c =
    let is = within_is c.self.inside.kept c.in-Within.component c.args.self.now c.in-Within.is c.self.view_is in
    let was = within_held (64 * g.row.W) c.self.inside.kept c.in-Within.component c.args.self.now c.in-Within.is c.self.view_is c.self.invariant.2 in
    ordered_again (64 * g.row.W) c.in-Within.component c.args.self.now is was c.args.steps.now c.linked.new.steps c.linked.ensures.steps
