use Rattle.std.proofs.Common.{◌*◌}
use Rattle.std.specs.FinSet as set
use Rattle.cluster.specs.Named.{named}
use Rattle.cluster.proofs.Bounds.{IsCounted}
use Rattle.cluster.proofs.Splits.{Splitting}
use Rattle.cluster.proofs.cluster.Cluster.without.Given as goal

abbrev pub invariant-loop-first : goal.invariant-loop-first
invariant-loop-first g l = record {
  splitting : Splitting (64 * g.row.W) l.self-inside.names.items l.self-inside.dep l.names l.rest l.clusters.items;
  counted : IsCounted (named l.self-inside.names.items l.self-inside.dep) l.names l.clusters.items l.initial.steps l.steps;
}

abbrev pub decreases-loop-first : goal.decreases-loop-first
decreases-loop-first g l = set.len l.rest
