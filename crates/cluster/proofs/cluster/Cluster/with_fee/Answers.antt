use Rattle.std.proofs.Common.{◌≡◌, ℕ, ℤ, ◌*◌, List, length, sym, ap, ◌∙◌, subst, subst₂, to_z-of_z, ◌<◌, Contains}
use Rattle.graphs.specs.Closures.{Closure, SetsFee}
use Rattle.cluster.specs.Clusters.{Cluster, IsCluster}
use Rattle.cluster.specs.Guesses.{AreImages}
use Rattle.cluster.specs.Kept.{cut}
use Rattle.cluster.proofs.Kept.{IsCluster-named}
use Rattle.graphs.specs.Certificates.{Part}
use Rattle.cluster.proofs.Knowing.{fee_known}
use Rattle.cluster.specs.Named.{named, IsNamed}
use Rattle.cluster.proofs.At.{at_in}
use Rattle.cluster.proofs.Linking.{fee_asks, fee_kept, fee_graph}
use Rattle.cluster.proofs.Oks.{one_ok, no_step}
use Rattle.std.proofs.lemmas.Result.{IfOk-from_err}
use Rattle.cluster.specs.Steps.{GrowsWithin, most_steps}
use Rattle.cluster.proofs.Rooms.{cluster_room, dep_in_cluster, room_fits}
use Rattle.cluster.proofs.cluster.Cluster.with_fee.Goals as goal

pub set_fee-requires : goal.set_fee-requires
set_fee-requires g c = (
  (let fits : cluster_room g.row.W < 9223372036854775808 = search in dep_in_cluster g.row.W fits),
  fee_asks (64 * g.row.W) c.self.inside.names.items c.self.inside.dep c.in_ok-dep.dep c.self.invariant.place c.in_ok-dep.ensures.same
      (subst (λ (xs : List ℕ). IsNamed (64 * g.row.W) xs c.in_ok-dep.dep) c.as_slice.ensures c.in_ok-dep.ensures.named) c.place_of.result c.args.id c.args.fee
      (at_in c.as_slice-4.result.now c.self.inside.names.items c.place_of.result c.args.id
      (c.as_slice-4.ensures ∙ c.in_ok-names.ensures.ok ∙ c.as_slice-2.ensures) c.place_of.ensures.within c.place_of.ensures.here),
)

pub returns-in_err-dep : goal.returns-in_err-dep
returns-in_err-dep g c =
    let failed = c.from_residual.ensures.0 in
    record {
      names = IfOk-from_err c.from_residual.result _ failed;
      graph = IfOk-from_err c.from_residual.result _ failed;
      whole = IfOk-from_err c.from_residual.result _ failed;
      steps = no_step _ _;
    }

pub returns-in_err-names : goal.returns-in_err-names
returns-in_err-names g c =
    let failed = c.from_residual-in_err-names.ensures.0 in
    record {
      names = IfOk-from_err c.from_residual-in_err-names.result _ failed;
      graph = IfOk-from_err c.from_residual-in_err-names.result _ failed;
      whole = IfOk-from_err c.from_residual-in_err-names.result _ failed;
      steps = no_step _ _;
    }

pub certified-requires : goal.certified-requires
certified-requires g c =
    let n : ℕ = 64 * g.row.W in
    let items : c.in_ok-names.names.items ≡ c.self.inside.names.items = c.in_ok-names.ensures.ok ∙ c.as_slice-2.ensures in
    let copy = subst (λ (xs : List ℕ). IsNamed n xs c.in_ok-dep.dep) c.as_slice.ensures c.in_ok-dep.ensures.named in
    let at = at_in c.as_slice-4.result.now c.self.inside.names.items c.place_of.result c.args.id
    (c.as_slice-4.ensures ∙ items) c.place_of.ensures.within c.place_of.ensures.here in
    let set = subst (λ (z : ℤ). SetsFee c.in_ok-dep.dep c.set_fee.new.self c.place_of.result z) (to_z-of_z c.ranges.fee) c.set_fee.ensures.fee in
    let kept : IsNamed n c.in_ok-names.names.items c.set_fee.new.self = subst (λ (xs : List ℕ). IsNamed n xs c.set_fee.new.self) (sym items)
    (fee_kept n c.self.inside.names.items c.self.inside.dep c.in_ok-dep.dep c.self.invariant.place c.in_ok-dep.ensures.same copy
    c.place_of.result c.args.id c.args.fee at c.set_fee.new.self set c.requires.fee c.set_fee.ensures.closed) in
    let made = fee_graph n c.self.inside.names.items c.self.inside.dep c.in_ok-dep.dep c.self.invariant.place c.in_ok-dep.ensures.same copy
    c.place_of.result c.args.id c.args.fee at c.set_fee.new.self set in
    let sets : SetsFee c.args.self.now.graph (named c.in_ok-names.names.items c.set_fee.new.self) c.args.id c.args.fee =
    subst₂ (λ (s : Cluster) (xs : List ℕ). SetsFee s.graph (named xs c.set_fee.new.self) c.args.id c.args.fee) c.self.view_is (sym items) made in
    let is : IsCluster n c.args.self.now = subst (λ (s : Cluster). IsCluster n s) c.self.view_is
    (IsCluster-named n c.self.inside.names.items c.self.inside.dep c.self.invariant.place (cut c.self.inside.order.parts.items
    c.self.inside.order.names.items c.self.inside.order.flows.items) c.self.invariant.ordered.picked c.self.invariant.ordered.uncut) in
    let images = subst (λ (xs : List ℕ). AreImages xs (λ (part : Part). Contains c.args.self.now.parts part × (Contains part.ids c.args.id → ⊥))
    c.guess_fee.new.guess.parts.items c.guess_fee.new.guess.places.items c.guess_fee.new.guess.flows.items) c.as_slice-3.ensures c.guess_fee.ensures in (
      (let fits : cluster_room g.row.W < 9223372036854775808 = search in dep_in_cluster g.row.W fits),
      (
        room_fits g.row.W c.work.invariant.1,
        (
          search,
          (
            kept,
            fee_known n c.in_ok-names.names.items c.set_fee.new.self c.guess_fee.new.guess.parts.items c.guess_fee.new.guess.places.items
                c.guess_fee.new.guess.flows.items kept c.args.self.now c.args.id c.args.fee is sets images,
          ),
        ),
      ),
    )

pub returns-clause-names : goal.returns-clause-names
returns-clause-names g c =
    one_ok c.certified.result (λ k. k.names ≡ c.in_ok-names.names.items) (λ k. k.names ≡ c.args.self.now.names)
    (λ k names. names ∙ c.in_ok-names.ensures.ok ∙ c.as_slice-2.ensures ∙ ap (λ (s : Cluster). s.names) c.self.view_is) c.certified.ensures.names

pub returns-clause-graph : goal.returns-clause-graph
returns-clause-graph g c =
    let items : c.in_ok-names.names.items ≡ c.self.inside.names.items = c.in_ok-names.ensures.ok ∙ c.as_slice-2.ensures in
    let made = fee_graph (64 * g.row.W) c.self.inside.names.items c.self.inside.dep c.in_ok-dep.dep c.self.invariant.place c.in_ok-dep.ensures.same
    (subst (λ (xs : List ℕ). IsNamed (64 * g.row.W) xs c.in_ok-dep.dep) c.as_slice.ensures c.in_ok-dep.ensures.named) c.place_of.result c.args.id c.args.fee
    (at_in c.as_slice-4.result.now c.self.inside.names.items c.place_of.result c.args.id
    (c.as_slice-4.ensures ∙ items) c.place_of.ensures.within c.place_of.ensures.here)
    c.set_fee.new.self (subst (λ (z : ℤ). SetsFee c.in_ok-dep.dep c.set_fee.new.self c.place_of.result z) (to_z-of_z c.ranges.fee) c.set_fee.ensures.fee) in
    one_ok c.certified.result (λ k. k.graph ≡ named c.in_ok-names.names.items c.set_fee.new.self)
    (λ k. SetsFee c.args.self.now.graph k.graph c.args.id c.args.fee)
    (λ k graph. subst₂ (λ (s : Cluster) (h : Closure). SetsFee s.graph h c.args.id c.args.fee) c.self.view_is
    (sym (graph ∙ ap (λ (xs : List ℕ). named xs c.set_fee.new.self) items)) made) c.certified.ensures.graph

pub returns-clause-steps : goal.returns-clause-steps
returns-clause-steps g c =
    subst (λ (xs : List ℕ). GrowsWithin (most_steps (length xs)) c.args.steps.now c.certified.new.steps)
    (c.in_ok-names.ensures.ok ∙ c.as_slice-2.ensures ∙ ap (λ (s : Cluster). s.names) c.self.view_is) c.certified.ensures.steps

pub copied-requires : goal.copied-requires
copied-requires g c =
    let fits : cluster_room g.row.W < 9223372036854775808 = search in
    (dep_in_cluster g.row.W fits, subst (λ (xs : List ℕ). IsNamed (64 * g.row.W) xs c.self.inside.dep) (sym c.as_slice.ensures) c.self.invariant.place)

pub place_of-requires : goal.place_of-requires
place_of-requires g c =
    subst (λ (xs : List ℕ). Contains xs c.args.id) (sym (c.as_slice-4.ensures ∙ c.in_ok-names.ensures.ok ∙ c.as_slice-2.ensures))
    (subst (λ (s : Cluster). Contains s.names c.args.id) (sym c.self.view_is) c.requires.id)
