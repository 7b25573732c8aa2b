-- the names so far are released
use Rattle.std.proofs.Common.{take}
use Rattle.name_book.specs.Calls.{ReleasesAll}
use Rattle.name_book.proofs.book.NameBook.release_all.Given as goal

abbrev pub invariant-loop-id : goal.invariant-loop-id
invariant-loop-id l = record {
  released : ReleasesAll (take l.id-index l.names) l.fn.self l.self;
}
