-- those so far stand under their numbers
use Rattle.std.proofs.Common.{◌≡◌, ◌++◌, map}
use Rattle.cluster_store.specs.Kept.{IsShown}
use Rattle.cluster_store.specs.Slots.{AddsTo}
use Rattle.cluster_store.proofs.Arriving.{tagged}
use Rattle.cluster_store.proofs.clusters.add_clusters.Given as goal

abbrev pub invariant-loop-cluster : goal.invariant-loop-cluster
invariant-loop-cluster g l = record {
  split : l.yielded ++ l.cluster-iterator.rest.items ≡ l.fn.clusters.items;
  adds : AddsTo (map (tagged l.tag) l.yielded) l.numbers.items l.fn.slots.slots l.slots.slots;
  shown : IsShown l.slots.slots l.index;
}
