use Rattle.std.proofs.Common.{◌↔◌, ◌⊎◌, ℕ, take}
use Rattle.std.specs.Prelude.{Contains}
use Rattle.trimming.specs.Nets.{list_at}
use Rattle.trimming.specs.Counts.{ArePassed, HasAllKept}
use Rattle.trimming.proofs.counts.release.Given as goal

abbrev pub invariant-loop-child : goal.invariant-loop-child
invariant-loop-child l = record {
  passed : ArePassed l.net l.kept l.counts.passed.items;
  ready : (x : ℕ) → Contains l.counts.ready.keys x ↔ (Contains l.fn.counts.ready.keys x
      ⊎ (Contains (take l.child-index (list_at l.net.children.items l.place)) x × HasAllKept l.net l.kept x));
}
