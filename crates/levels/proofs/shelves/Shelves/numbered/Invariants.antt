-- the names so far are listed
use Rattle.std.proofs.Common.{◌≤◌, ◌+◌, ◌-◌, length, take}
use Rattle.levels.specs.Lefts.{AreNumbered}
use Rattle.levels.proofs.shelves.Shelves.numbered.Given as goal

abbrev pub invariant-loop-id : goal.invariant-loop-id
invariant-loop-id g l = record {
  numbered : AreNumbered l.self (take l.id-index l.ids) l.listed.items;
  room : l.listed.len + (length l.ids - l.id-index) ≤ l.listed.cap;
}
