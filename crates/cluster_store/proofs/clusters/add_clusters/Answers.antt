-- One cluster more stands under a number; where there is no memory for it, the others go out again.
use Rattle.std.proofs.Common.{◌≡◌, List, [], ◌∷◌, ◌++◌, map, sym, ap, ◌∙◌, subst, append_assoc}
use Rattle.std.proofs.lemmas.List.{append-nil, map-append}
use Rattle.cluster.specs.Clusters.{Cluster}
use Rattle.cluster_store.specs.Stores.{Stored}
use Rattle.cluster_store.specs.Slots.{AddsTo}
use Rattle.cluster_store.proofs.Adds.{adds_none, adds_more, adds_same, adds_stored, adds_undone}
use Rattle.cluster_store.proofs.Arriving.{tagged}
use Rattle.cluster_store.proofs.Done.{no_items}
use Rattle.cluster_store.proofs.clusters.add_clusters.Goals as goal

pub loop-cluster-init : goal.loop-cluster-init
loop-cluster-init g c = record {
  split = c.into_iter-cluster-iterator.ensures.into_iter_gives.0;
  adds = adds_none c.args.slots.now.slots c.new-numbers.result.items c.new-numbers.ensures.items;
  shown = c.requires;
}

pub take_all-requires : goal.take_all-requires
take_all-requires g c = (
  search,
  (
    c.in-Err.ensures.shown,
    adds_stored (map (tagged c.args.tag) c.loop-cluster.yielded) c.add_next.new.numbers.items c.args.slots.now.slots c.add_next.new.slots.slots
        (adds_same (map (tagged c.args.tag) c.loop-cluster.yielded) c.loop-cluster.numbers.items c.args.slots.now.slots c.loop-cluster.slots.slots
        c.loop-cluster.invariant.adds c.add_next.new.numbers.items c.add_next.new.slots.slots c.in-Err.ensures.numbers c.in-Err.ensures.err),
  ),
)

pub returns-in-Err-clause-err : goal.returns-in-Err-clause-err
returns-in-Err-clause-err g c =
    adds_undone (map (tagged c.args.tag) c.loop-cluster.yielded) c.add_next.new.numbers.items c.args.slots.now.slots c.add_next.new.slots.slots
    (adds_same (map (tagged c.args.tag) c.loop-cluster.yielded) c.loop-cluster.numbers.items c.args.slots.now.slots c.loop-cluster.slots.slots
    c.loop-cluster.invariant.adds c.add_next.new.numbers.items c.add_next.new.slots.slots c.in-Err.ensures.numbers c.in-Err.ensures.err)
    c.take_all.new.slots.slots c.take_all.ensures.out

pub loop-cluster-preserved : goal.loop-cluster-preserved
loop-cluster-preserved g c =
    let one = c.in-Some.cluster in
    let so_far = map (tagged c.args.tag) c.loop-cluster.yielded in
    let more : so_far ++ c.new-stored.result ∷ [] ≡ map (tagged c.args.tag) (c.loop-cluster.yielded ++ one ∷ []) =
    ap (λ (s : Stored). so_far ++ s ∷ []) c.new-stored.ensures ∙ sym (map-append (tagged c.args.tag) c.loop-cluster.yielded (one ∷ [])) in
    record {
      split =
          append_assoc c.loop-cluster.yielded (one ∷ []) c.next.new.self.rest.items
          ∙ ap (λ (xs : List Cluster). c.loop-cluster.yielded ++ xs) (sym c.in-Some.ensures.steps.0) ∙ c.loop-cluster.invariant.split;
      adds =
          subst (λ (ss : List Stored). AddsTo ss c.add_next.new.numbers.items c.args.slots.now.slots c.add_next.new.slots.slots) more
          (adds_more so_far c.loop-cluster.numbers.items c.args.slots.now.slots c.loop-cluster.slots.slots c.loop-cluster.invariant.adds c.new-stored.result
          c.add_next.new.numbers.items c.add_next.new.slots.slots c.in_default.ensures.ok);
      shown = c.in_default.ensures.shown;
    }

pub returns-clause-ok : goal.returns-clause-ok
returns-clause-ok g c =
    let none : c.loop-cluster.cluster-iterator.rest.items ≡ [] =
    no_items c.loop-cluster.cluster-iterator.rest.items (sym c.loop-cluster.cluster-iterator.rest.ok.0 ∙ c.in-None.ensures.steps.0) in
    let all : c.loop-cluster.yielded ≡ c.args.clusters.items =
    sym (append-nil c.loop-cluster.yielded) ∙ ap (λ (xs : List Cluster). c.loop-cluster.yielded ++ xs) (sym none) ∙ c.loop-cluster.invariant.split in
    subst (λ (xs : List Cluster). AddsTo (map (tagged c.args.tag) xs) c.loop-cluster.numbers.items c.args.slots.now.slots c.loop-cluster.slots.slots) all
    c.loop-cluster.invariant.adds

pub add_next-requires : goal.add_next-requires
add_next-requires g c = (search, c.loop-cluster.invariant.shown)
