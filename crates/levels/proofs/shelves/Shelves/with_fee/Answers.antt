-- The cluster of a number gets another fee of one of its names.
use Rattle.std.proofs.Common.{ℤ, Contains, is_some, sym, ap, ◌∙◌, subst, arith}
use Rattle.std.specs.Int.{w64}
use Rattle.std.proofs.lemmas.Int.{to_z-of_z}
use Rattle.std.proofs.lemmas.Option.{same_Some}
use Rattle.fee_rate.specs.Limits.{IsFee}
use Rattle.graphs.specs.Closures.{SetsFee}
use Rattle.cluster.specs.Clusters.{Cluster}
use Rattle.cluster.specs.Steps.{GrowsWithin}
use Rattle.record.specs.Steps.{most_steps_again}
use Rattle.cluster_store.specs.Stores.{Exchange}
use Rattle.levels.specs.Moves.{IsPriced}
use Rattle.levels.proofs.Rooms.{exchange_fits, record_fits, work_fits}
use Rattle.levels.proofs.shelves.Shelves.with_fee.Goals as goal

pub at-requires : goal.at-requires
at-requires g c = (omega arith, (record_fits g.row.W c.requires.order.narrow, ap is_some c.requires.there.1))

pub with_fee-requires : goal.with_fee-requires
with_fee-requires g c =
    let same = same_Some c.requires.there.0 c.at.result.now (sym c.requires.there.1 ∙ c.at.ensures) in (
      record_fits g.row.W c.requires.order.narrow,
      (
        work_fits g.row.W c.requires.order.narrow,
        (
          subst (λ (d : Cluster). Contains d.names c.args.id) same c.requires.there.2,
          subst IsFee (sym (to_z-of_z w64 c.args.fee c.ranges.fee)) c.requires.fee,
        ),
      ),
    )

pub new-requires : goal.new-requires
new-requires g c = (record_fits g.row.W c.requires.order.narrow, exchange_fits g.row.W c.requires.order.narrow)

pub returns-in_err-changed-clause-steps : goal.returns-in_err-changed-clause-steps
returns-in_err-changed-clause-steps g c d at =
    let same = same_Some c.at.result.now d (sym c.at.ensures ∙ at) in
    subst (λ (e : Cluster). GrowsWithin (most_steps_again e) c.args.steps.now c.with_fee.new.steps) same c.with_fee.ensures.steps

pub returns-clause-steps : goal.returns-clause-steps
returns-clause-steps g c d at =
    let same = same_Some c.at.result.now d (sym c.at.ensures ∙ at) in
    subst (λ (e : Cluster). GrowsWithin (most_steps_again e) c.args.steps.now c.with_fee.new.steps) same c.with_fee.ensures.steps

pub returns-clause-number : goal.returns-clause-number
returns-clause-number g c = ap (λ (x : Exchange). x.number) c.new.ensures

pub returns-clause-priced : goal.returns-clause-priced
returns-clause-priced g c =
    let same = same_Some c.requires.there.0 c.at.result.now (sym c.requires.there.1 ∙ c.at.ensures) in
    subst (λ (x : Exchange). IsPriced g.row.W c.args.id c.args.fee x c.args.self.now) (sym c.new.ensures) (record {
      was = c.at.result.now;
      at = c.at.ensures;
      held = subst (λ (d : Cluster). Contains d.names c.args.id) same c.requires.there.2;
      fitted = c.in_ok-changed.ensures.fitted c.args.self.now.limits (c.requires.order.fitted c.args.number c.at.result.now c.at.ensures);
      names = c.in_ok-changed.ensures.names;
      sets = subst (λ (z : ℤ). SetsFee c.at.result.now.graph c.in_ok-changed.changed.graph c.args.id z) (to_z-of_z w64 c.args.fee c.ranges.fee)
          c.in_ok-changed.ensures.graph;
    })
