use Rattle.std.proofs.Common.{◌≡◌, ℕ, ◌*◌, List, true, false, length, slice_index, ◌≤◌, ◌<◌, sym, ap, ◌∙◌, subst, subst₂, Contains}
use Rattle.graphs.specs.Closures.{Closure, is_ancestor, is_member, AddsPair}
use Rattle.cluster.specs.Clusters.{Cluster, IsCluster}
use Rattle.cluster.specs.Guesses.{AreImages, AreSound}
use Rattle.cluster.specs.Kept.{cut}
use Rattle.cluster.proofs.Kept.{IsCluster-named}
use Rattle.graphs.specs.Certificates.{Part}
use Rattle.std.specs.FinSet as set
use Rattle.lists.specs.Distinct.{AreDistinct}
use Rattle.cluster.proofs.Kept.{place_member}
use Rattle.cluster.proofs.Knowing.{link_known}
use Rattle.cluster.specs.Named.{named, IsNamed}
use Rattle.cluster.proofs.At.{at_in}
use Rattle.cluster.proofs.Linking.{link_asks, link_kept, link_graph}
use Rattle.cluster.proofs.Oks.{one_ok, no_step}
use Rattle.std.proofs.lemmas.Result.{IfOk-from_err}
use Rattle.cluster.specs.Steps.{GrowsWithin, most_steps}
use Rattle.cluster.proofs.Rooms.{cluster_fits, cluster_room, dep_in_cluster, room_fits, words_in_cluster}
use Rattle.cluster.proofs.cluster.Cluster.linked.Goals as goal

pub add_dep-requires : goal.add_dep-requires
add_dep-requires g c =
    let items : c.in_ok-names.names.items ≡ c.self.inside.names.items = c.in_ok-names.ensures.ok ∙ c.as_slice-2.ensures in
    let asks = link_asks (64 * g.row.W) c.self.inside.names.items c.self.inside.dep c.in_ok-dep.dep c.self.invariant.place c.in_ok-dep.ensures.same
    (subst (λ (xs : List ℕ). IsNamed (64 * g.row.W) xs c.in_ok-dep.dep) c.as_slice.ensures c.in_ok-dep.ensures.named)
    c.place_of-above.result c.place_of-below.result c.args.parent c.args.child
    (at_in c.as_slice-3.result.now c.self.inside.names.items c.place_of-above.result c.args.parent
    (c.as_slice-3.ensures ∙ items) c.place_of-above.ensures.within c.place_of-above.ensures.here)
    (at_in c.as_slice-4.result.now c.self.inside.names.items c.place_of-below.result c.args.child
    (c.as_slice-4.ensures ∙ items) c.place_of-below.ensures.within c.place_of-below.ensures.here)
    (subst (λ (s : Cluster). is_ancestor s.graph c.args.child c.args.parent ≡ false) (sym c.self.view_is) c.requires.no_cycle) in
    (dep_in_cluster g.row.W (cluster_fits g.row.W c.work.invariant.1), (asks.0, (asks.1, asks.2)))

pub returns-in_err-dep : goal.returns-in_err-dep
returns-in_err-dep g c =
    let failed = c.from_residual.ensures.0 in
    record {
      names = IfOk-from_err c.from_residual.result _ failed;
      graph = IfOk-from_err c.from_residual.result _ failed;
      whole = IfOk-from_err c.from_residual.result _ failed;
      steps = no_step _ _;
    }

pub returns-in_err-names : goal.returns-in_err-names
returns-in_err-names g c =
    let failed = c.from_residual-in_err-names.ensures.0 in
    record {
      names = IfOk-from_err c.from_residual-in_err-names.result _ failed;
      graph = IfOk-from_err c.from_residual-in_err-names.result _ failed;
      whole = IfOk-from_err c.from_residual-in_err-names.result _ failed;
      steps = no_step _ _;
    }

pub certified-requires : goal.certified-requires
certified-requires g c =
    let n : ℕ = 64 * g.row.W in
    let items : c.in_ok-names.names.items ≡ c.self.inside.names.items = c.in_ok-names.ensures.ok ∙ c.as_slice-2.ensures in
    let copy = subst (λ (xs : List ℕ). IsNamed n xs c.in_ok-dep.dep) c.as_slice.ensures c.in_ok-dep.ensures.named in
    let one = at_in c.as_slice-3.result.now c.self.inside.names.items c.place_of-above.result c.args.parent
    (c.as_slice-3.ensures ∙ items) c.place_of-above.ensures.within c.place_of-above.ensures.here in
    let two = at_in c.as_slice-4.result.now c.self.inside.names.items c.place_of-below.result c.args.child
    (c.as_slice-4.ensures ∙ items) c.place_of-below.ensures.within c.place_of-below.ensures.here in
    let kept : IsNamed n c.self.inside.names.items c.add_dep.new.self =
    link_kept n c.self.inside.names.items c.self.inside.dep c.in_ok-dep.dep c.self.invariant.place c.in_ok-dep.ensures.same copy
    c.place_of-above.result c.place_of-below.result c.args.parent c.args.child one two c.add_dep.new.self c.add_dep.ensures.pair c.add_dep.ensures.closed in
    let made = link_graph n c.self.inside.names.items c.self.inside.dep c.in_ok-dep.dep c.self.invariant.place c.in_ok-dep.ensures.same copy
    c.place_of-above.result c.place_of-below.result c.args.parent c.args.child one two c.add_dep.new.self c.add_dep.ensures.pair in
    let pair : AddsPair c.args.self.now.graph (named c.self.inside.names.items c.add_dep.new.self) c.args.parent c.args.child =
    subst (λ (s : Cluster). AddsPair s.graph (named c.self.inside.names.items c.add_dep.new.self) c.args.parent c.args.child) c.self.view_is made in
    let graph : c.args.self.now.graph ≡ named c.self.inside.names.items c.self.inside.dep = sym (ap (λ (s : Cluster). s.graph) c.self.view_is) in
    let is : IsCluster n c.args.self.now = subst (λ (s : Cluster). IsCluster n s) c.self.view_is
    (IsCluster-named n c.self.inside.names.items c.self.inside.dep c.self.invariant.place (cut c.self.inside.order.parts.items
    c.self.inside.order.names.items c.self.inside.order.flows.items) c.self.invariant.ordered.picked c.self.invariant.ordered.uncut) in
    let images = subst (λ (xs : List ℕ). AreImages xs (λ (part : Part). Contains c.args.self.now.parts part × ((p q : ℕ) → p < length xs → q < length xs
    → Contains part.ids (slice_index xs p) → Contains part.ids (slice_index xs q)
    → set.contains c.ancestors.result p ≡ true → set.contains c.descendants.result q ≡ true → ⊥))
    c.guess_linked.new.guess.parts.items c.guess_linked.new.guess.places.items c.guess_linked.new.guess.flows.items)
    (c.as_slice-5.ensures ∙ items) c.guess_linked.ensures in
    let known : AreSound c.self.inside.names.items c.add_dep.new.self c.guess_linked.new.guess.parts.items c.guess_linked.new.guess.places.items c.guess_linked.new.guess.flows.items =
    link_known n c.self.inside.names.items c.add_dep.new.self c.guess_linked.new.guess.parts.items c.guess_linked.new.guess.places.items
    c.guess_linked.new.guess.flows.items kept c.args.self.now c.self.inside.dep c.place_of-above.result c.place_of-below.result c.args.parent c.args.child
    c.ancestors.result c.descendants.result is graph c.self.invariant.place one two c.ancestors.ensures c.descendants.ensures pair images in (
      dep_in_cluster g.row.W (cluster_fits g.row.W c.work.invariant.1),
      (
        room_fits g.row.W c.work.invariant.1,
        (
          cluster_fits g.row.W c.work.invariant.1,
          (
            subst (λ (xs : List ℕ). IsNamed n xs c.add_dep.new.self) (sym items) kept,
            subst (λ (xs : List ℕ). AreSound xs c.add_dep.new.self c.guess_linked.new.guess.parts.items c.guess_linked.new.guess.places.items
                c.guess_linked.new.guess.flows.items) (sym items) known,
          ),
        ),
      ),
    )

member_below : (n : ℕ) (xs ys : List ℕ) (g : Closure) (p : ℕ) → IsNamed n ys g → xs ≡ ys → p < length xs → is_member g p ≡ true
member_below n xs ys g p kept same low = place_member n ys g kept p (subst (λ (zs : List ℕ). p < length zs) same low)

pub ancestors-requires : goal.ancestors-requires
ancestors-requires g c =
    let items : c.in_ok-names.names.items ≡ c.self.inside.names.items = c.in_ok-names.ensures.ok ∙ c.as_slice-2.ensures in (
      (let fits : cluster_room g.row.W < 9223372036854775808 = search in dep_in_cluster g.row.W fits),
      (
        (let fits : cluster_room g.row.W < 9223372036854775808 = search in words_in_cluster g.row.W fits),
        member_below (64 * g.row.W) c.as_slice-3.result.now c.self.inside.names.items c.self.inside.dep c.place_of-above.result c.self.invariant.place
            (c.as_slice-3.ensures ∙ items) c.place_of-above.ensures.within,
      ),
    )

pub descendants-requires : goal.descendants-requires
descendants-requires g c =
    let items : c.in_ok-names.names.items ≡ c.self.inside.names.items = c.in_ok-names.ensures.ok ∙ c.as_slice-2.ensures in (
      (let fits : cluster_room g.row.W < 9223372036854775808 = search in dep_in_cluster g.row.W fits),
      (
        (let fits : cluster_room g.row.W < 9223372036854775808 = search in words_in_cluster g.row.W fits),
        member_below (64 * g.row.W) c.as_slice-4.result.now c.self.inside.names.items c.self.inside.dep c.place_of-below.result c.self.invariant.place
            (c.as_slice-4.ensures ∙ items) c.place_of-below.ensures.within,
      ),
    )

pub guess_linked-requires : goal.guess_linked-requires
guess_linked-requires g c =
    let items : c.as_slice-5.result.now ≡ c.self.inside.names.items = c.as_slice-5.ensures ∙ c.in_ok-names.ensures.ok ∙ c.as_slice-2.ensures in (
      search,
      (
        (let fits : cluster_room g.row.W < 9223372036854775808 = search in words_in_cluster g.row.W fits),
        (
          subst (λ (xs : List ℕ). length xs ≤ 64 * g.row.W) (sym items) c.self.invariant.place.few,
          subst AreDistinct (sym items) c.self.invariant.place.once,
        ),
      ),
    )

pub returns-clause-names : goal.returns-clause-names
returns-clause-names g c =
    one_ok c.certified.result (λ k. k.names ≡ c.in_ok-names.names.items) (λ k. k.names ≡ c.args.self.now.names)
    (λ k names. names ∙ c.in_ok-names.ensures.ok ∙ c.as_slice-2.ensures ∙ ap (λ (s : Cluster). s.names) c.self.view_is) c.certified.ensures.names

pub returns-clause-graph : goal.returns-clause-graph
returns-clause-graph g c =
    let items : c.in_ok-names.names.items ≡ c.self.inside.names.items = c.in_ok-names.ensures.ok ∙ c.as_slice-2.ensures in
    let made = link_graph (64 * g.row.W) c.self.inside.names.items c.self.inside.dep c.in_ok-dep.dep c.self.invariant.place c.in_ok-dep.ensures.same
    (subst (λ (xs : List ℕ). IsNamed (64 * g.row.W) xs c.in_ok-dep.dep) c.as_slice.ensures c.in_ok-dep.ensures.named)
    c.place_of-above.result c.place_of-below.result c.args.parent c.args.child
    (at_in c.as_slice-3.result.now c.self.inside.names.items c.place_of-above.result c.args.parent
    (c.as_slice-3.ensures ∙ items) c.place_of-above.ensures.within c.place_of-above.ensures.here)
    (at_in c.as_slice-4.result.now c.self.inside.names.items c.place_of-below.result c.args.child
    (c.as_slice-4.ensures ∙ items) c.place_of-below.ensures.within c.place_of-below.ensures.here)
    c.add_dep.new.self c.add_dep.ensures.pair in
    one_ok c.certified.result (λ k. k.graph ≡ named c.in_ok-names.names.items c.add_dep.new.self)
    (λ k. AddsPair c.args.self.now.graph k.graph c.args.parent c.args.child)
    (λ k graph. subst₂ (λ (s : Cluster) (h : Closure). AddsPair s.graph h c.args.parent c.args.child) c.self.view_is
    (sym (graph ∙ ap (λ (xs : List ℕ). named xs c.add_dep.new.self) items)) made) c.certified.ensures.graph

pub returns-clause-steps : goal.returns-clause-steps
returns-clause-steps g c =
    subst (λ (xs : List ℕ). GrowsWithin (most_steps (length xs)) c.args.steps.now c.certified.new.steps)
    (c.in_ok-names.ensures.ok ∙ c.as_slice-2.ensures ∙ ap (λ (s : Cluster). s.names) c.self.view_is) c.certified.ensures.steps

pub copied-requires : goal.copied-requires
copied-requires g c =
    let fits : cluster_room g.row.W < 9223372036854775808 = search in
    (dep_in_cluster g.row.W fits, subst (λ (xs : List ℕ). IsNamed (64 * g.row.W) xs c.self.inside.dep) (sym c.as_slice.ensures) c.self.invariant.place)

pub place_of-below-requires : goal.place_of-below-requires
place_of-below-requires g c =
    subst (λ (xs : List ℕ). Contains xs c.args.child) (sym (c.as_slice-4.ensures ∙ c.in_ok-names.ensures.ok ∙ c.as_slice-2.ensures))
    (subst (λ (s : Cluster). Contains s.names c.args.child) (sym c.self.view_is) c.requires.child)

pub place_of-above-requires : goal.place_of-above-requires
place_of-above-requires g c =
    subst (λ (xs : List ℕ). Contains xs c.args.parent) (sym (c.as_slice-3.ensures ∙ c.in_ok-names.ensures.ok ∙ c.as_slice-2.ensures))
    (subst (λ (s : Cluster). Contains s.names c.args.parent) (sym c.self.view_is) c.requires.parent)
