-- the names so far are gone
use Rattle.std.proofs.Common.{◌≡◌, ◌≤◌, Contains, take}
use Rattle.std.specs.FinSet as set
use Rattle.levels.specs.Rings.{Forgets}
use Rattle.levels.proofs.moving.forget_all.Given as goal

abbrev pub invariant-loop-id : goal.invariant-loop-id
invariant-loop-id l = record {
  forgets : Forgets (Contains (take l.id-index l.ids)) l.fn.rings l.rings;
  few : set.len l.rings.book.names ≤ set.len l.fn.rings.book.names;
  issued : l.rings.book.issued ≡ l.fn.rings.book.issued;
}
