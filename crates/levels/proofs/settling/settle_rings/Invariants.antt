-- each turn so far settled a name
use Rattle.std.proofs.Common.{◌≡◌, ◌≤◌}
use Rattle.std.specs.FinSet as set
use Rattle.levels.specs.Settling.{AreSettling}
use Rattle.levels.specs.Shelves.{view_of}
use Rattle.levels.proofs.Settlements.{AreSettled}
use Rattle.levels.proofs.settling.settle_rings.Given as goal

abbrev pub invariant-loop-turn : goal.invariant-loop-turn
invariant-loop-turn g l = record {
  settling : AreSettling l.stays l.rings (view_of l.stays l.shelves);
  settled : AreSettled l._turn l.fn.rings l.rings;
  few : set.len l.rings.book.names ≤ set.len l.fn.rings.book.names;
  issued : l.rings.book.issued ≡ l.fn.rings.book.issued;
}
