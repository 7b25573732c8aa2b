use Rattle.std.proofs.Common.{◌≡◌, ℕ, ◌*◌, ◌+◌, ◌≤◌, ◌++◌, List, length, length-append, sym, ap, ap₂, ◌∙◌, subst, subst₂, Contains, ◌<◌, ◌⊎◌}
use Rattle.std.proofs.lemmas.Result.{IfOk-from_err}
use Rattle.std.specs.FinSet as set
use Rattle.graphs.specs.Closures.{members_of}
use Rattle.cluster.specs.Clusters.{Cluster, IsCluster, AreApart}
use Rattle.cluster.specs.Guesses.{AreImages, AreSound}
use Rattle.cluster.specs.Kept.{cut}
use Rattle.cluster.proofs.Kept.{IsCluster-named}
use Rattle.graphs.specs.Certificates.{Part}
use Rattle.cluster.proofs.Knowing.{join_known}
use Rattle.cluster.specs.Changes.{Joins, AreAcross}
use Rattle.cluster.specs.Named.{named, IsNamed}
use Rattle.cluster.specs.Steps.{GrowsWithin, most_steps}
use Rattle.cluster.proofs.At.{at_in}
use Rattle.cluster.proofs.Joined.{members_long}
use Rattle.cluster.proofs.Joining.{join_asks, join_kept, join_graph, in_both}
use Rattle.cluster.proofs.Oks.{one_ok, no_step}
use Rattle.cluster.proofs.Rooms.{cluster_fits, cluster_room, dep_in_cluster, room_fits}
use Rattle.cluster.proofs.cluster.Cluster.joined.Goals as goal

-- how many names two lists have together
both_long : (xs ys : List ℕ) {all : List ℕ} {m n : ℕ} → all ≡ xs ++ ys → length xs ≡ m → length ys ≡ n → length all ≡ m + n
both_long xs ys is first second = ap length is ∙ length-append xs ys ∙ ap₂ {A = ℕ} {B = ℕ} (λ i j. i + j) first second

pub merge-requires : goal.merge-requires
merge-requires g c =
    let first : set.len (members_of c.self.inside.dep) ≡ length c.self.inside.names.items =
    members_long (64 * g.row.W) c.self.inside.names.items c.self.inside.dep c.self.invariant.place in
    let second : set.len (members_of c.other.inside.dep) ≡ length c.other.inside.names.items =
    members_long (64 * g.row.W) c.other.inside.names.items c.other.inside.dep c.other.invariant.place in
    let one : length c.self.inside.names.items ≡ length c.args.self.now.names = ap (λ (s : Cluster). length s.names) c.self.view_is in
    let two : length c.other.inside.names.items ≡ length c.args.other.now.names = ap (λ (s : Cluster). length s.names) c.other.view_is in (
      (let fits : cluster_room g.row.W < 9223372036854775808 = search in dep_in_cluster g.row.W fits),
      subst₂ (λ (m n : ℕ). m + n ≤ 64 * g.row.W) (sym (first ∙ one)) (sym (second ∙ two)) c.requires.few,
    )

pub place_of-above-requires : goal.place_of-above-requires
place_of-above-requires g c =
    let items : c.in_ok-names.names.items ≡ c.self.inside.names.items ++ c.other.inside.names.items =
    c.in_ok-names.ensures ∙ ap₂ {A = List ℕ} {B = List ℕ} (λ xs ys. xs ++ ys) c.as_slice.ensures c.as_slice-2.ensures in
    subst (λ (xs : List ℕ). Contains xs c.args.parent) (sym (c.as_slice-3.ensures ∙ items))
    (in_both c.self.inside.names.items c.other.inside.names.items c.args.parent c.args.child
    (subst₂ (λ (s t : Cluster). AreAcross s.names t.names c.args.parent c.args.child) (sym c.self.view_is) (sym c.other.view_is) c.requires.across)).0

pub place_of-below-requires : goal.place_of-below-requires
place_of-below-requires g c =
    let items : c.in_ok-names.names.items ≡ c.self.inside.names.items ++ c.other.inside.names.items =
    c.in_ok-names.ensures ∙ ap₂ {A = List ℕ} {B = List ℕ} (λ xs ys. xs ++ ys) c.as_slice.ensures c.as_slice-2.ensures in
    subst (λ (xs : List ℕ). Contains xs c.args.child) (sym (c.as_slice-4.ensures ∙ items))
    (in_both c.self.inside.names.items c.other.inside.names.items c.args.parent c.args.child
    (subst₂ (λ (s t : Cluster). AreAcross s.names t.names c.args.parent c.args.child) (sym c.self.view_is) (sym c.other.view_is) c.requires.across)).1

pub add_dep-requires : goal.add_dep-requires
add_dep-requires g c =
    let items : c.in_ok-names.names.items ≡ c.self.inside.names.items ++ c.other.inside.names.items =
    c.in_ok-names.ensures ∙ ap₂ {A = List ℕ} {B = List ℕ} (λ xs ys. xs ++ ys) c.as_slice.ensures c.as_slice-2.ensures in
    let asks = join_asks (64 * g.row.W) c.self.inside.names.items c.other.inside.names.items
    c.self.inside.dep c.other.inside.dep c.in_ok-dep.dep c.self.invariant.place c.other.invariant.place
    (subst₂ (λ (s t : Cluster). length s.names + length t.names ≤ 64 * g.row.W) (sym c.self.view_is) (sym c.other.view_is) c.requires.few)
    (subst₂ AreApart (sym c.self.view_is) (sym c.other.view_is) c.requires.apart) c.in_ok-dep.ensures.merged
    c.place_of-above.result c.place_of-below.result c.args.parent c.args.child
    (at_in c.as_slice-3.result.now (c.self.inside.names.items ++ c.other.inside.names.items) c.place_of-above.result c.args.parent
    (c.as_slice-3.ensures ∙ items) c.place_of-above.ensures.within c.place_of-above.ensures.here)
    (at_in c.as_slice-4.result.now (c.self.inside.names.items ++ c.other.inside.names.items) c.place_of-below.result c.args.child
    (c.as_slice-4.ensures ∙ items) c.place_of-below.ensures.within c.place_of-below.ensures.here)
    (subst₂ (λ (s t : Cluster). AreAcross s.names t.names c.args.parent c.args.child) (sym c.self.view_is) (sym c.other.view_is) c.requires.across) in
    ((let fits : cluster_room g.row.W < 9223372036854775808 = search in dep_in_cluster g.row.W fits), (asks.0, (asks.1, asks.2)))

pub returns-in_err-names : goal.returns-in_err-names
returns-in_err-names g c =
    let failed = c.from_residual.ensures.0 in
    record {
      names = IfOk-from_err c.from_residual.result _ failed;
      graph = IfOk-from_err c.from_residual.result _ failed;
      whole = IfOk-from_err c.from_residual.result _ failed;
      steps = no_step _ _;
    }

pub returns-in_err-dep : goal.returns-in_err-dep
returns-in_err-dep g c =
    let failed = c.from_residual-in_err-dep.ensures.0 in
    record {
      names = IfOk-from_err c.from_residual-in_err-dep.result _ failed;
      graph = IfOk-from_err c.from_residual-in_err-dep.result _ failed;
      whole = IfOk-from_err c.from_residual-in_err-dep.result _ failed;
      steps = no_step _ _;
    }

pub certified-requires : goal.certified-requires
certified-requires g c =
    let n : ℕ = 64 * g.row.W in
    let items : c.in_ok-names.names.items ≡ c.self.inside.names.items ++ c.other.inside.names.items =
    c.in_ok-names.ensures ∙ ap₂ {A = List ℕ} {B = List ℕ} (λ xs ys. xs ++ ys) c.as_slice.ensures c.as_slice-2.ensures in
    let few = subst₂ (λ (s t : Cluster). length s.names + length t.names ≤ n) (sym c.self.view_is) (sym c.other.view_is) c.requires.few in
    let apart = subst₂ AreApart (sym c.self.view_is) (sym c.other.view_is) c.requires.apart in
    let one = at_in c.as_slice-3.result.now (c.self.inside.names.items ++ c.other.inside.names.items) c.place_of-above.result c.args.parent
    (c.as_slice-3.ensures ∙ items) c.place_of-above.ensures.within c.place_of-above.ensures.here in
    let two = at_in c.as_slice-4.result.now (c.self.inside.names.items ++ c.other.inside.names.items) c.place_of-below.result c.args.child
    (c.as_slice-4.ensures ∙ items) c.place_of-below.ensures.within c.place_of-below.ensures.here in
    let sides = subst₂ (λ (s t : Cluster). AreAcross s.names t.names c.args.parent c.args.child) (sym c.self.view_is) (sym c.other.view_is) c.requires.across in
    let both : List ℕ = c.self.inside.names.items ++ c.other.inside.names.items in
    let kept : IsNamed n both c.add_dep.new.self =
    join_kept n c.self.inside.names.items c.other.inside.names.items c.self.inside.dep c.other.inside.dep c.in_ok-dep.dep c.self.invariant.place
    c.other.invariant.place few apart c.in_ok-dep.ensures.merged c.place_of-above.result c.place_of-below.result c.args.parent c.args.child one two sides
    c.add_dep.new.self c.add_dep.ensures.pair c.add_dep.ensures.closed in
    let made = join_graph n c.self.inside.names.items c.other.inside.names.items c.self.inside.dep c.other.inside.dep c.in_ok-dep.dep c.self.invariant.place
    c.other.invariant.place few apart c.in_ok-dep.ensures.merged c.place_of-above.result c.place_of-below.result c.args.parent c.args.child one two sides
    c.add_dep.new.self c.add_dep.ensures.pair in
    let joins : Joins c.args.self.now.graph c.args.other.now.graph c.args.parent c.args.child (named both c.add_dep.new.self) =
    subst₂ (λ (s t : Cluster). Joins s.graph t.graph c.args.parent c.args.child (named both c.add_dep.new.self)) c.self.view_is c.other.view_is made in
    let is : IsCluster n c.args.self.now = subst (λ (s : Cluster). IsCluster n s) c.self.view_is
    (IsCluster-named n c.self.inside.names.items c.self.inside.dep c.self.invariant.place (cut c.self.inside.order.parts.items
    c.self.inside.order.names.items c.self.inside.order.flows.items) c.self.invariant.ordered.picked c.self.invariant.ordered.uncut) in
    let other_is : IsCluster n c.args.other.now = subst (λ (s : Cluster). IsCluster n s) c.other.view_is
    (IsCluster-named n c.other.inside.names.items c.other.inside.dep c.other.invariant.place (cut c.other.inside.order.parts.items
    c.other.inside.order.names.items c.other.inside.order.flows.items) c.other.invariant.ordered.picked c.other.invariant.ordered.uncut) in
    let images = subst (λ (xs : List ℕ). AreImages xs (λ (part : Part). Contains c.args.self.now.parts part ⊎ Contains c.args.other.now.parts part)
    c.guess_joined.new.guess.parts.items c.guess_joined.new.guess.places.items c.guess_joined.new.guess.flows.items)
    (c.as_slice-5.ensures ∙ items) c.guess_joined.ensures in (
      dep_in_cluster g.row.W (cluster_fits g.row.W c.work.invariant.1),
      (
        room_fits g.row.W c.work.invariant.1,
        (
          cluster_fits g.row.W c.work.invariant.1,
          (
            subst (λ (xs : List ℕ). IsNamed n xs c.add_dep.new.self) (sym items) kept,
            subst (λ (xs : List ℕ). AreSound xs c.add_dep.new.self c.guess_joined.new.guess.parts.items c.guess_joined.new.guess.places.items
                c.guess_joined.new.guess.flows.items) (sym items) (join_known n both c.add_dep.new.self c.guess_joined.new.guess.parts.items c.guess_joined.new.guess.places.items
                c.guess_joined.new.guess.flows.items kept c.args.self.now c.args.other.now c.args.parent c.args.child is other_is c.requires.apart
                c.requires.across joins images),
          ),
        ),
      ),
    )

pub returns-clause-names : goal.returns-clause-names
returns-clause-names g c =
    let items : c.in_ok-names.names.items ≡ c.self.inside.names.items ++ c.other.inside.names.items =
    c.in_ok-names.ensures ∙ ap₂ {A = List ℕ} {B = List ℕ} (λ xs ys. xs ++ ys) c.as_slice.ensures c.as_slice-2.ensures in
    one_ok c.certified.result (λ k. k.names ≡ c.in_ok-names.names.items) (λ k. k.names ≡ c.args.self.now.names ++ c.args.other.now.names)
    (λ k names. names ∙ items ∙ ap₂ {A = List ℕ} {B = List ℕ} (λ xs ys. xs ++ ys) (ap (λ (s : Cluster). s.names) c.self.view_is)
    (ap (λ (s : Cluster). s.names) c.other.view_is)) c.certified.ensures.names

pub returns-clause-graph : goal.returns-clause-graph
returns-clause-graph g c =
    let items : c.in_ok-names.names.items ≡ c.self.inside.names.items ++ c.other.inside.names.items =
    c.in_ok-names.ensures ∙ ap₂ {A = List ℕ} {B = List ℕ} (λ xs ys. xs ++ ys) c.as_slice.ensures c.as_slice-2.ensures in
    let made = join_graph (64 * g.row.W) c.self.inside.names.items c.other.inside.names.items
    c.self.inside.dep c.other.inside.dep c.in_ok-dep.dep c.self.invariant.place c.other.invariant.place
    (subst₂ (λ (s t : Cluster). length s.names + length t.names ≤ 64 * g.row.W) (sym c.self.view_is) (sym c.other.view_is) c.requires.few)
    (subst₂ AreApart (sym c.self.view_is) (sym c.other.view_is) c.requires.apart) c.in_ok-dep.ensures.merged
    c.place_of-above.result c.place_of-below.result c.args.parent c.args.child
    (at_in c.as_slice-3.result.now (c.self.inside.names.items ++ c.other.inside.names.items) c.place_of-above.result c.args.parent
    (c.as_slice-3.ensures ∙ items) c.place_of-above.ensures.within c.place_of-above.ensures.here)
    (at_in c.as_slice-4.result.now (c.self.inside.names.items ++ c.other.inside.names.items) c.place_of-below.result c.args.child
    (c.as_slice-4.ensures ∙ items) c.place_of-below.ensures.within c.place_of-below.ensures.here)
    (subst₂ (λ (s t : Cluster). AreAcross s.names t.names c.args.parent c.args.child) (sym c.self.view_is) (sym c.other.view_is) c.requires.across)
    c.add_dep.new.self c.add_dep.ensures.pair in
    one_ok c.certified.result (λ k. k.graph ≡ named c.in_ok-names.names.items c.add_dep.new.self)
    (λ k. Joins c.args.self.now.graph c.args.other.now.graph c.args.parent c.args.child k.graph)
    (λ k graph. subst (Joins c.args.self.now.graph c.args.other.now.graph c.args.parent c.args.child)
    (sym (graph ∙ ap (λ (xs : List ℕ). named xs c.add_dep.new.self) items))
    (subst₂ (λ (s t : Cluster). Joins s.graph t.graph c.args.parent c.args.child
    (named (c.self.inside.names.items ++ c.other.inside.names.items) c.add_dep.new.self)) c.self.view_is c.other.view_is made)) c.certified.ensures.graph

pub returns-clause-steps : goal.returns-clause-steps
returns-clause-steps g c =
    let items : c.in_ok-names.names.items ≡ c.self.inside.names.items ++ c.other.inside.names.items =
    c.in_ok-names.ensures ∙ ap₂ {A = List ℕ} {B = List ℕ} (λ xs ys. xs ++ ys) c.as_slice.ensures c.as_slice-2.ensures in
    subst (λ (n : ℕ). GrowsWithin (most_steps n) c.args.steps.now c.certified.new.steps)
    (both_long c.self.inside.names.items c.other.inside.names.items items (ap (λ (s : Cluster). length s.names) c.self.view_is)
    (ap (λ (s : Cluster). length s.names) c.other.view_is)) c.certified.ensures.steps
