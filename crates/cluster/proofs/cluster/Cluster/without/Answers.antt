use Rattle.std.proofs.Common.{◌≡◌, ◌≤◌, ◌↔◌, ◌+◌, ℕ, true, ◌*◌, ◌<◌, List, length, map, slice_index, Contains, le_trans, sym, ap, ◌∙◌, subst}
use Rattle.std.proofs.lemmas.List.{length-map}
use Rattle.std.proofs.lemmas.Result.{IfOk-from_err}
use Rattle.std.specs.FinSet as set
use Rattle.lists.specs.Distinct.{AreDistinct}
use Rattle.bitset.specs.Places.{first_places, places, IsWithin}
use Rattle.graphs.specs.Closures.{Closure}
use Rattle.graphs.specs.Certificates.{Part}
use Rattle.linearize.specs.Known.{IsKnown}
use Rattle.cluster.specs.Clusters.{Cluster, IsCluster}
use Rattle.cluster.specs.Kept.{cut}
use Rattle.cluster.proofs.Kept.{IsCluster-named}
use Rattle.cluster.proofs.Knowing.{follows}
use Rattle.cluster.proofs.Sound.{sound}
use Rattle.cluster.specs.Changes.{AreComponents, IsPartOf, IsSplit}
use Rattle.cluster.specs.Named.{named, IsNamed}
use Rattle.cluster.specs.Steps.{GrowsWithin, most_steps, most_steps_of}
use Rattle.cluster.proofs.Bounds.{IsCounted, IsCounted-start, IsCounted-more, stopped, finished, are_components, apart_names}
use Rattle.cluster.proofs.Chosen.{chosen_within, chosen_some, chosen_one, chosen_apart, part_whole, held_all}
use Rattle.cluster.proofs.Splits.{Splitting, Splitting-start, Splitting-more, Splitting-all, component_whole, fewer, holds_members, none_left}
use Rattle.cluster.proofs.Rooms.{cluster_room, dep_in_cluster, words_in_cluster}
use mathlib.Core.List.{not-mem-nil}
use Rattle.cluster.proofs.cluster.Cluster.without.Goals as goal

pub take_out-requires : goal.take_out-requires
take_out-requires g c = (
  (let fits : cluster_room g.row.W < 9223372036854775808 = search in words_in_cluster g.row.W fits),
  (
    subst (λ (xs : List ℕ). length xs ≤ 64 * g.row.W) (sym c.as_slice.ensures) c.self.invariant.place.few,
    (
      subst AreDistinct (sym c.as_slice.ensures) c.self.invariant.place.once,
      λ id here. subst (λ (xs : List ℕ). Contains xs id) (sym c.as_slice.ensures)
          (subst (λ (s : Cluster). Contains s.names id) (sym c.self.view_is) (c.requires id here)),
    ),
  ),
)

pub loop-first-init : goal.loop-first-init
loop-first-init g c = record {
  splitting = Splitting-start (64 * g.row.W) c.self.inside.names.items c.self.inside.dep c.self.invariant.place c.args.names.now
      c.first_n-rest.result c.take_out.new.rest (c.first_n-rest.ensures ∙ ap first_places c.len.ensures.value) c.take_out.ensures.less
      (subst (λ (xs : List ℕ). (p : ℕ) → p < length xs → set.contains c.first_n-rest.result p ≡ true
      → (set.contains c.take_out.new.rest p ≡ true) ↔ (Contains c.args.names.now (slice_index xs p) → ⊥)) c.as_slice.ensures c.take_out.ensures.left)
      c.new-clusters.result.items c.new-clusters.ensures.items;
  counted = IsCounted-start (named c.self.inside.names.items c.self.inside.dep) c.args.names.now
      c.new-clusters.result.items c.args.steps.now c.new-clusters.ensures.items;
}

pub component-chosen-requires : goal.component-chosen-requires
component-chosen-requires g c = (
  (let fits : cluster_room g.row.W < 9223372036854775808 = search in dep_in_cluster g.row.W fits),
  (
    (let fits : cluster_room g.row.W < 9223372036854775808 = search in words_in_cluster g.row.W fits),
    (
      holds_members (64 * g.row.W) c.self.inside.names.items c.self.inside.dep c.self.invariant.place c.args.names.now
          c.loop-first.rest c.loop-first.clusters.items c.loop-first.invariant.splitting,
      c.in-Some.ensures.least.member,
    ),
  ),
)

pub part-requires : goal.part-requires
part-requires g c =
    let n : ℕ = 64 * g.row.W in
    let is : IsCluster n c.args.self.now = subst (λ (s : Cluster). IsCluster n s) c.self.view_is
    (IsCluster-named n c.self.inside.names.items c.self.inside.dep c.self.invariant.place (cut c.self.inside.order.parts.items
    c.self.inside.order.names.items c.self.inside.order.flows.items) c.self.invariant.ordered.picked c.self.invariant.ordered.uncut) in
    let graph : named c.as_slice-in-Some.result.now c.self.inside.dep ≡ c.args.self.now.graph =
    ap (λ (xs : List ℕ). named xs c.self.inside.dep) c.as_slice-in-Some.ensures ∙ ap (λ (s : Cluster). s.graph) c.self.view_is in
    let known : (part : Part) → Contains c.args.self.now.parts part → IsKnown (named c.as_slice-in-Some.result.now c.self.inside.dep) part =
    λ part here. subst (λ (w : Closure). IsKnown w part) (sym graph) (sound n c.args.self.now is part here) in (
      (let fits : cluster_room g.row.W < 9223372036854775808 = search in dep_in_cluster g.row.W fits),
      (
        (let fits : cluster_room g.row.W < 9223372036854775808 = search in fits),
        (
          (let fits : cluster_room g.row.W < 9223372036854775808 = search in words_in_cluster g.row.W fits),
          (
            search,
            (
              subst (λ (xs : List ℕ). IsNamed (64 * g.row.W) xs c.self.inside.dep) (sym c.as_slice-in-Some.ensures) c.self.invariant.place,
              (
                known,
                (
                  λ part here. follows n c.args.self.now is part here,
                  (
                    subst (λ (xs : List ℕ). IsWithin (length xs) c.component-chosen.result) (sym c.as_slice-in-Some.ensures) (chosen_within (64 * g.row.W)
                        c.self.inside.names.items c.self.inside.dep c.self.invariant.place c.args.names.now c.loop-first.rest c.component-chosen.result
                        c.loop-first.clusters.items c.in-Some.first c.loop-first.invariant.splitting c.in-Some.ensures.least c.component-chosen.ensures),
                    (
                      chosen_some (64 * g.row.W) c.self.inside.names.items c.self.inside.dep c.self.invariant.place
                          c.args.names.now c.loop-first.rest c.component-chosen.result c.loop-first.clusters.items
                          c.in-Some.first c.loop-first.invariant.splitting c.in-Some.ensures.least c.component-chosen.ensures,
                      component_whole c.self.inside.dep c.loop-first.rest c.component-chosen.result c.in-Some.first c.component-chosen.ensures,
                    ),
                  ),
                ),
              ),
            ),
          ),
        ),
      ),
    )

pub returns-in_err-made-clause-steps : goal.returns-in_err-made-clause-steps
returns-in_err-made-clause-steps g c =
    subst (λ (s : Cluster). (lists : List (List ℕ)) → AreComponents s.graph c.args.names.now lists
    → c.part.new.steps ≤ c.args.steps.now + most_steps_of lists) c.self.view_is
    (stopped (named c.self.inside.names.items c.self.inside.dep) c.args.names.now c.loop-first.clusters.items c.args.steps.now
    c.loop-first.steps c.part.new.steps (map (slice_index c.self.inside.names.items) (places (64 * g.row.W) c.component-chosen.result))
    c.loop-first.invariant.counted (chosen_one (64 * g.row.W) c.self.inside.names.items c.self.inside.dep c.self.invariant.place
    c.args.names.now c.loop-first.rest c.component-chosen.result c.loop-first.clusters.items c.in-Some.first c.loop-first.invariant.splitting
    c.in-Some.ensures.least c.component-chosen.ensures) (subst (λ (m : ℕ). GrowsWithin (most_steps m) c.loop-first.steps c.part.new.steps)
    (sym (length-map (places (64 * g.row.W) c.component-chosen.result) (slice_index c.self.inside.names.items))) c.part.ensures.steps)
    c.loop-first.invariant.splitting.apart
    (λ k here. chosen_apart (64 * g.row.W) c.self.inside.names.items c.self.inside.dep c.self.invariant.place c.args.names.now c.loop-first.rest
    c.component-chosen.result c.loop-first.clusters.items c.in-Some.first c.loop-first.invariant.splitting c.in-Some.ensures.least
    c.component-chosen.ensures k here (part_whole (64 * g.row.W) c.loop-first.clusters.items c.loop-first.invariant.splitting.whole k here)))

pub returns-in_err-push-clause-steps : goal.returns-in_err-push-clause-steps
returns-in_err-push-clause-steps g c =
    subst (λ (s : Cluster). (lists : List (List ℕ)) → AreComponents s.graph c.args.names.now lists
    → c.part.new.steps ≤ c.args.steps.now + most_steps_of lists) c.self.view_is
    (stopped (named c.self.inside.names.items c.self.inside.dep) c.args.names.now c.loop-first.clusters.items c.args.steps.now
    c.loop-first.steps c.part.new.steps (map (slice_index c.self.inside.names.items) (places (64 * g.row.W) c.component-chosen.result))
    c.loop-first.invariant.counted (chosen_one (64 * g.row.W) c.self.inside.names.items c.self.inside.dep c.self.invariant.place
    c.args.names.now c.loop-first.rest c.component-chosen.result c.loop-first.clusters.items c.in-Some.first c.loop-first.invariant.splitting
    c.in-Some.ensures.least c.component-chosen.ensures) (subst (λ (m : ℕ). GrowsWithin (most_steps m) c.loop-first.steps c.part.new.steps)
    (sym (length-map (places (64 * g.row.W) c.component-chosen.result) (slice_index c.self.inside.names.items))) c.part.ensures.steps)
    c.loop-first.invariant.splitting.apart
    (λ k here. chosen_apart (64 * g.row.W) c.self.inside.names.items c.self.inside.dep c.self.invariant.place c.args.names.now c.loop-first.rest
    c.component-chosen.result c.loop-first.clusters.items c.in-Some.first c.loop-first.invariant.splitting c.in-Some.ensures.least
    c.component-chosen.ensures k here (part_whole (64 * g.row.W) c.loop-first.clusters.items c.loop-first.invariant.splitting.whole k here)))

pub returns-in_err-made-clause-split : goal.returns-in_err-made-clause-split
returns-in_err-made-clause-split g c = IfOk-from_err c.from_residual.result _ c.from_residual.ensures.0

pub returns-in_err-made-clause-whole : goal.returns-in_err-made-clause-whole
returns-in_err-made-clause-whole g c = IfOk-from_err c.from_residual.result _ c.from_residual.ensures.0

pub returns-in_err-made-clause-components : goal.returns-in_err-made-clause-components
returns-in_err-made-clause-components g c = IfOk-from_err c.from_residual.result _ c.from_residual.ensures.0

pub returns-in_err-made-clause-grew : goal.returns-in_err-made-clause-grew
returns-in_err-made-clause-grew g c = le_trans c.loop-first.invariant.counted.grew c.part.ensures.steps.grew

pub returns-in_err-push-clause-split : goal.returns-in_err-push-clause-split
returns-in_err-push-clause-split g c = IfOk-from_err c.from_residual-in_err-push.result _ c.from_residual-in_err-push.ensures.0

pub returns-in_err-push-clause-whole : goal.returns-in_err-push-clause-whole
returns-in_err-push-clause-whole g c = IfOk-from_err c.from_residual-in_err-push.result _ c.from_residual-in_err-push.ensures.0

pub returns-in_err-push-clause-components : goal.returns-in_err-push-clause-components
returns-in_err-push-clause-components g c = IfOk-from_err c.from_residual-in_err-push.result _ c.from_residual-in_err-push.ensures.0

pub returns-in_err-push-clause-grew : goal.returns-in_err-push-clause-grew
returns-in_err-push-clause-grew g c = le_trans c.loop-first.invariant.counted.grew c.part.ensures.steps.grew

pub returns-clause-whole : goal.returns-clause-whole
returns-clause-whole g c = c.loop-first.invariant.splitting.whole

pub returns-clause-grew : goal.returns-clause-grew
returns-clause-grew g c = c.loop-first.invariant.counted.grew

pub loop-first-smaller : goal.loop-first-smaller
loop-first-smaller g c =
    let fine : IsPartOf c.self.inside.names.items
    (named c.self.inside.names.items c.self.inside.dep) c.component-chosen.result c.in_ok-made.made.names c.in_ok-made.made.graph =
    subst (λ (xs : List ℕ). IsPartOf xs (named xs c.self.inside.dep) c.component-chosen.result c.in_ok-made.made.names c.in_ok-made.made.graph)
    c.as_slice-in-Some.ensures c.in_ok-made.ensures.part in
    fewer (64 * g.row.W) c.self.inside.names.items c.self.inside.dep c.self.invariant.place c.args.names.now c.loop-first.rest
    c.minus-rest.result c.component-chosen.result c.loop-first.clusters.items c.in_ok-made.made c.in-Some.first
    c.loop-first.invariant.splitting c.in-Some.ensures.least c.component-chosen.ensures c.minus-rest.ensures fine c.in_ok-made.ensures.whole

pub loop-first-preserved : goal.loop-first-preserved
loop-first-preserved g c =
    let fine : IsPartOf c.self.inside.names.items
    (named c.self.inside.names.items c.self.inside.dep) c.component-chosen.result c.in_ok-made.made.names c.in_ok-made.made.graph =
    subst (λ (xs : List ℕ). IsPartOf xs (named xs c.self.inside.dep) c.component-chosen.result c.in_ok-made.made.names c.in_ok-made.made.graph)
    c.as_slice-in-Some.ensures c.in_ok-made.ensures.part in
    let own : c.in_ok-made.made.names ≡ map (slice_index c.self.inside.names.items) (places (64 * g.row.W) c.component-chosen.result) =
    c.in_ok-made.ensures.names ∙ ap (λ (xs : List ℕ). map (slice_index xs) (places (64 * g.row.W) c.component-chosen.result)) c.as_slice-in-Some.ensures in
    record {
      splitting =
          subst (λ (cs : List Cluster). Splitting (64 * g.row.W) c.self.inside.names.items c.self.inside.dep c.args.names.now c.minus-rest.result cs)
          (sym c.in_ok-push.ensures.items)
          (Splitting-more (64 * g.row.W) c.self.inside.names.items c.self.inside.dep c.self.invariant.place c.args.names.now
          c.loop-first.rest c.minus-rest.result c.component-chosen.result c.loop-first.clusters.items c.in_ok-made.made c.in-Some.first
          c.loop-first.invariant.splitting c.in-Some.ensures.least c.component-chosen.ensures c.minus-rest.ensures fine c.in_ok-made.ensures.whole);
      counted =
          subst (λ (cs : List Cluster). IsCounted (named c.self.inside.names.items c.self.inside.dep) c.args.names.now cs c.args.steps.now c.part.new.steps)
          (sym c.in_ok-push.ensures.items)
          (IsCounted-more (named c.self.inside.names.items c.self.inside.dep) c.args.names.now c.loop-first.clusters.items c.args.steps.now
          c.loop-first.steps c.part.new.steps (map (slice_index c.self.inside.names.items) (places (64 * g.row.W) c.component-chosen.result))
          c.loop-first.invariant.counted (chosen_one (64 * g.row.W) c.self.inside.names.items c.self.inside.dep c.self.invariant.place c.args.names.now
          c.loop-first.rest c.component-chosen.result c.loop-first.clusters.items c.in-Some.first c.loop-first.invariant.splitting
          c.in-Some.ensures.least c.component-chosen.ensures) (subst (λ (m : ℕ). GrowsWithin (most_steps m) c.loop-first.steps c.part.new.steps)
          (sym (length-map (places (64 * g.row.W) c.component-chosen.result) (slice_index c.self.inside.names.items))) c.part.ensures.steps)
          c.in_ok-made.made own);
    }

pub returns-clause-split : goal.returns-clause-split
returns-clause-split g c =
    subst (λ (s : Cluster). IsSplit s.graph c.args.names.now c.loop-first.clusters.items) c.self.view_is
    (Splitting-all (64 * g.row.W) c.self.inside.names.items c.self.inside.dep c.self.invariant.place c.args.names.now c.loop-first.rest
    c.loop-first.clusters.items c.loop-first.invariant.splitting (none_left c.least.result c.loop-first.rest c.least.ensures.least c.in_default.not-Some))

pub returns-clause-components : goal.returns-clause-components
returns-clause-components g c =
    subst (λ (s : Cluster). AreComponents s.graph c.args.names.now (map (λ (k : Cluster). k.names) c.loop-first.clusters.items)) c.self.view_is
    (are_components (named c.self.inside.names.items c.self.inside.dep) c.args.names.now (map (λ (k : Cluster). k.names) c.loop-first.clusters.items)
    (apart_names c.loop-first.clusters.items c.loop-first.invariant.splitting.apart) c.loop-first.invariant.counted.each
    (held_all (64 * g.row.W) c.self.inside.names.items c.self.inside.dep c.self.invariant.place c.args.names.now c.loop-first.rest c.loop-first.clusters.items
    c.loop-first.invariant.splitting (none_left c.least.result c.loop-first.rest c.least.ensures.least c.in_default.not-Some)))

pub returns-clause-steps : goal.returns-clause-steps
returns-clause-steps g c =
    subst (λ (s : Cluster). (lists : List (List ℕ)) → AreComponents s.graph c.args.names.now lists
    → c.loop-first.steps ≤ c.args.steps.now + most_steps_of lists) c.self.view_is
    (finished (named c.self.inside.names.items c.self.inside.dep) c.args.names.now c.loop-first.clusters.items
    c.args.steps.now c.loop-first.steps c.loop-first.invariant.counted c.loop-first.invariant.splitting.apart)

pub least-requires : goal.least-requires
least-requires g c = let fits : cluster_room g.row.W < 9223372036854775808 = search in words_in_cluster g.row.W fits

pub first_n-rest-requires : goal.first_n-rest-requires
first_n-rest-requires g c =
    let fits : cluster_room g.row.W < 9223372036854775808 = search in
    let few : length c.self.inside.names.items ≤ 64 * g.row.W = c.self.invariant.place.few in
    (words_in_cluster g.row.W fits, subst (λ n. n ≤ 64 * g.row.W) (sym c.len.ensures.value) few)

pub minus-rest-requires : goal.minus-rest-requires
minus-rest-requires g c = let fits : cluster_room g.row.W < 9223372036854775808 = search in words_in_cluster g.row.W fits

pub drop-clusters-requires : goal.drop-clusters-requires
drop-clusters-requires g c κs =
    let fits : cluster_room g.row.W < 9223372036854775808 = search in ((fits, tt), (λ a here. absurd (not-mem-nil here), λ a here. absurd (not-mem-nil here)))

pub drop-clusters-requires-in_err-push : goal.drop-clusters-requires-in_err-push
drop-clusters-requires-in_err-push g c κs =
    let fits : cluster_room g.row.W < 9223372036854775808 = search in ((fits, tt), (λ a here. absurd (not-mem-nil here), λ a here. absurd (not-mem-nil here)))

pub from_residual-requires-in_err-push : goal.from_residual-requires-in_err-push
from_residual-requires-in_err-push g c κs =
    let fits : cluster_room g.row.W < 9223372036854775808 = search in
    ((fits, tt), (λ a here. absurd (not-mem-nil here), (λ a here. absurd (not-mem-nil here), λ a here. absurd (not-mem-nil here))))
