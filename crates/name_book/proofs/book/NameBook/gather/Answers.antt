use Rattle.std.proofs.Common.{arith}
use Rattle.name_book.proofs.Marks.{marks-kept, marked-kept}
use Rattle.name_book.proofs.book.NameBook.gather.Goals as goal

pub invariant_of-self : goal.invariant_of-self
invariant_of-self c =
    let made = c.gather.ensures in
    marks-kept c.self.inside.table c.gather.new.self c.self.inside.touched (made.others 1 (omega arith) (omega arith)) made.same.0 c.self.invariant

pub returns : goal.returns
returns c =
    let made = c.gather.ensures in
    rw (← c.self.view_is) (record {
      names = made.same.0;
      main = made.gathered;
      touched = marked-kept c.self.inside.table c.gather.new.self c.self.inside.touched (made.others 1 (omega arith) (omega arith));
      spare = made.same.1;
      issued = made.same.2;
    })
