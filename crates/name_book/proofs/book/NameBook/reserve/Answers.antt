use Rattle.std.proofs.Common.{arith}
use Rattle.name_book.proofs.Marks.{keeps-names, marks-kept}
use Rattle.name_book.proofs.book.NameBook.reserve.Goals as goal

pub invariant_of-self : goal.invariant_of-self
invariant_of-self c =
    let made = c.reserve.ensures in
    marks-kept c.self.inside.table c.reserve.new.self c.self.inside.touched (made.rings 1 (omega arith)) made.same.0 c.self.invariant

pub returns-clause-same : goal.returns-clause-same
returns-clause-same c =
    let made = c.reserve.ensures in
    rw (← c.self.view_is) (keeps-names c.self.inside.table c.reserve.new.self c.self.inside.touched made.same.0 made.same.1 made.rings)
