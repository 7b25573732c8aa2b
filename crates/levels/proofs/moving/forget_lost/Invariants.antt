-- the names so far that main hasn't are gone
use Rattle.std.proofs.Common.{◌≡◌, ◌≤◌, take}
use Rattle.std.specs.FinSet as set
use Rattle.levels.specs.Rings.{Forgets}
use Rattle.levels.proofs.Righting.{AreLost}
use Rattle.levels.proofs.moving.forget_lost.Given as goal

abbrev pub invariant-loop-id : goal.invariant-loop-id
invariant-loop-id g l = record {
  forgets : Forgets (AreLost (take l.id-index l.ids) l.shelves.main) l.fn.rings l.rings;
  few : set.len l.rings.book.names ≤ set.len l.fn.rings.book.names;
  issued : l.rings.book.issued ≡ l.fn.rings.book.issued;
}
