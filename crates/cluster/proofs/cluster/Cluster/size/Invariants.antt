use Rattle.std.proofs.Common.{◌≡◌, ◌*◌, ◌≤◌, take}
use Rattle.std.specs.Prelude.{sum_by}
use Rattle.fee_rate.specs.declared.limits.TheConstants.{MAX_SIZE}
use Rattle.graphs.specs.Closures.{rate_of}
use Rattle.cluster.specs.Named.{named}
use Rattle.cluster.proofs.cluster.Cluster.size.Given as goal

abbrev pub invariant-loop-place : goal.invariant-loop-place
invariant-loop-place g l = record {
  sum : l.total ≡ sum_by (λ id. (rate_of (named l.self-inside.names.items l.self-inside.dep) id).size) (take l.place l.self-inside.names.items);
  small : l.total ≤ MAX_SIZE * l.place;
}
