-- the components that are still to come, and the pairs of those before them
use Rattle.std.proofs.Common.{◌++◌, map}
use Rattle.std.specs.Borrow.{Bor}
use Rattle.cluster.specs.Clusters.{Cluster}
use Rattle.levels.specs.Views.{AreItsClusters}
use Rattle.reorg.proofs.Unions.{ArePut}
use Rattle.reorg.proofs.linking.pairs_in.Given as goal

abbrev pub invariant-loop-record : goal.invariant-loop-record
invariant-loop-record g l = record {
  all : AreItsClusters l.fn.graph.levels.main.graph (map (λ (x : Bor Cluster). x.now) l.yielded ++ l.record-iterator);
  put : ArePut (map (λ (x : Bor Cluster). x.now) l.yielded) l.list.items;
}
