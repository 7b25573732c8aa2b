use Rattle.std.proofs.Common.{◌≡◌, ◌*◌, lit<, sym, ◌∙◌, subst}
use Rattle.graphs.specs.Closures.{SetsFee}
use Rattle.cluster.specs.Clusters.{Cluster, IsCluster}
use Rattle.links.specs.Links.{AreLinks}
use Rattle.links.proofs.Fees.{fee_read}
use Rattle.record.specs.Kept.{unordered}
use Rattle.record.specs.Records.{StaysFitted}
use Rattle.record.proofs.Keeping.{handed_with, over_held, over_is, within_held, within_is}
use Rattle.record.proofs.Priced.{fee_fits, priced_connected, priced_graph, priced_fitted, priced_names_are}
use Rattle.record.proofs.Sized.{ordered_again}
use Rattle.record.proofs.record.Record.with_fee.Goals as goal

pub over-requires : goal.over-requires
over-requires g c =
    let held = over_held (64 * g.row.W) c.self.inside.kept c.in-Over.over c.deref.result.now c.in-Over.is c.deref.ensures c.self.invariant.2 in (
      lit< tt,
      (
        c.self.invariant.0,
        (
          c.self.invariant.1,
          λ are. priced_connected c.args.self.now c.deref.result.now.links c.in_ok-priced-in-Over.priced c.args.id c.args.fee c.requires.fee held.links
              (over_is c.self.inside.kept c.in-Over.over c.deref.result.now c.args.self.now c.in-Over.is c.deref.ensures c.self.view_is) held.connected
              (c.in_ok-priced-in-Over.ensures.txs ∙ fee_read c.args.id c.args.fee c.deref.result.now.links.txs c.ranges.fee)
              c.in_ok-priced-in-Over.ensures.pairs c.requires.id are,
        ),
      ),
    )

pub returns-in_ok-priced-in-Within-clause-fitted : goal.returns-in_ok-priced-in-Within-clause-fitted
returns-in_ok-priced-in-Within-clause-fitted g c =
    let priced = c.in_ok-priced-in-Within.priced in
    let is = within_is c.self.inside.kept c.in-Within.component c.args.self.now c.in-Within.is c.self.view_is in
    let was = within_held (64 * g.row.W) c.self.inside.kept c.in-Within.component c.args.self.now c.in-Within.is c.self.view_is c.self.invariant.2 in
    subst (λ (r : Cluster). StaysFitted (64 * g.row.W) c.args.self.now r) (sym c.within.ensures)
    (subst (λ (s : Cluster). StaysFitted (64 * g.row.W) s priced) is
    (fee_fits (64 * g.row.W) c.in-Within.component priced c.args.id _ c.in_ok-priced-in-Within.ensures.names
    c.in_ok-priced-in-Within.ensures.graph (subst (IsCluster (64 * g.row.W)) (sym is) was) c.in_ok-priced-in-Within.ensures.whole))

pub returns-in_ok-priced-in-Over-clause-names : goal.returns-in_ok-priced-in-Over-clause-names
returns-in_ok-priced-in-Over-clause-names g c =
    let held = over_held (64 * g.row.W) c.self.inside.kept c.in-Over.over c.deref.result.now c.in-Over.is c.deref.ensures c.self.invariant.2 in
    handed_with (λ (r : Cluster). r.names ≡ c.args.self.now.names) (AreLinks c.in_ok-priced-in-Over.priced)
    (unordered c.in_ok-priced-in-Over.priced) c.over.result c.over.ensures.record c.over.ensures.links
    (λ are. priced_names_are c.args.self.now c.deref.result.now.links c.in_ok-priced-in-Over.priced c.args.id c.args.fee c.requires.fee held.links
    (over_is c.self.inside.kept c.in-Over.over c.deref.result.now c.args.self.now c.in-Over.is c.deref.ensures c.self.view_is) held.connected
    (c.in_ok-priced-in-Over.ensures.txs ∙ fee_read c.args.id c.args.fee c.deref.result.now.links.txs c.ranges.fee)
    c.in_ok-priced-in-Over.ensures.pairs c.requires.id are)

pub returns-in_ok-priced-in-Over-clause-graph : goal.returns-in_ok-priced-in-Over-clause-graph
returns-in_ok-priced-in-Over-clause-graph g c =
    let held = over_held (64 * g.row.W) c.self.inside.kept c.in-Over.over c.deref.result.now c.in-Over.is c.deref.ensures c.self.invariant.2 in
    handed_with (λ (r : Cluster). SetsFee c.args.self.now.graph r.graph c.args.id c.args.fee) (AreLinks c.in_ok-priced-in-Over.priced)
    (unordered c.in_ok-priced-in-Over.priced) c.over.result c.over.ensures.record c.over.ensures.links
    (λ are. priced_graph c.args.self.now c.deref.result.now.links c.in_ok-priced-in-Over.priced c.args.id c.args.fee c.requires.fee held.links
    (over_is c.self.inside.kept c.in-Over.over c.deref.result.now c.args.self.now c.in-Over.is c.deref.ensures c.self.view_is) held.connected
    (c.in_ok-priced-in-Over.ensures.txs ∙ fee_read c.args.id c.args.fee c.deref.result.now.links.txs c.ranges.fee)
    c.in_ok-priced-in-Over.ensures.pairs c.requires.id are)

pub returns-in_ok-priced-in-Over-clause-fitted : goal.returns-in_ok-priced-in-Over-clause-fitted
returns-in_ok-priced-in-Over-clause-fitted g c =
    let held = over_held (64 * g.row.W) c.self.inside.kept c.in-Over.over c.deref.result.now c.in-Over.is c.deref.ensures c.self.invariant.2 in
    handed_with (λ (r : Cluster). StaysFitted (64 * g.row.W) c.args.self.now r) (AreLinks c.in_ok-priced-in-Over.priced)
    (unordered c.in_ok-priced-in-Over.priced) c.over.result c.over.ensures.record c.over.ensures.links
    (λ are. priced_fitted c.args.self.now c.deref.result.now.links c.in_ok-priced-in-Over.priced c.args.id c.args.fee c.requires.fee held.links
    (over_is c.self.inside.kept c.in-Over.over c.deref.result.now c.args.self.now c.in-Over.is c.deref.ensures c.self.view_is) held.connected
    (c.in_ok-priced-in-Over.ensures.txs ∙ fee_read c.args.id c.args.fee c.deref.result.now.links.txs c.ranges.fee)
    c.in_ok-priced-in-Over.ensures.pairs c.requires.id are (64 * g.row.W))

pub returns-in_err-priced-in-Within-clause-steps : goal.returns-in_err-priced-in-Within-clause-steps
returns-in_err-priced-in-Within-clause-steps g c =
    let is = within_is c.self.inside.kept c.in-Within.component c.args.self.now c.in-Within.is c.self.view_is in
    let was = within_held (64 * g.row.W) c.self.inside.kept c.in-Within.component c.args.self.now c.in-Within.is c.self.view_is c.self.invariant.2 in
    ordered_again (64 * g.row.W) c.in-Within.component c.args.self.now is was c.args.steps.now c.with_fee.new.steps c.with_fee.ensures.steps

pub returns-in_ok-priced-in-Within-clause-steps : goal.returns-in_ok-priced-in-Within-clause-steps
returns-in_ok-priced-in-Within-clause-steps g c =
    let is = within_is c.self.inside.kept c.in-Within.component c.args.self.now c.in-Within.is c.self.view_is in
    let was = within_held (64 * g.row.W) c.self.inside.kept c.in-Within.component c.args.self.now c.in-Within.is c.self.view_is c.self.invariant.2 in
    ordered_again (64 * g.row.W) c.in-Within.component c.args.self.now is was c.args.steps.now c.with_fee.new.steps c.with_fee.ensures.steps
