use Rattle.std.proofs.Common.{◌≤◌}
use Rattle.leaf_tests.proofs.name_book_tests.follow.Given as goal

abbrev pub invariant-loop-at : goal.invariant-loop-at
invariant-loop-at l = l.book.book.issued ≤ l.at
