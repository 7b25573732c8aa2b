-- the components so far are listed
use Rattle.std.proofs.Common.{◌≡◌, ◌++◌, map, Contains}
use Rattle.cluster.specs.Clusters.{Cluster}
use Rattle.record.specs.Records.{IsConnected}
use Rattle.desk.specs.Copies.{AreGrouped}
use Rattle.desk.proofs.Lists.{names_of, now}
use Rattle.desk.proofs.listing.list_components.Given as goal

abbrev pub invariant-loop-record : goal.invariant-loop-record
invariant-loop-record l = record {
  rest : l.fn.components ≡ map now l.yielded ++ l.record-iterator;
  listed : AreGrouped (map names_of (map now l.yielded)) l.list;
  whole : (c : Cluster) → Contains (map now l.yielded) c → IsConnected c;
}
