use Rattle.std.proofs.Common.{ap, ◌∙◌}
use Rattle.std.specs.FinSet as set
use Rattle.std.specs.Ordering.{nat_cmp}
use Rattle.name_book.specs.Books.{Table}
use Rattle.name_book.proofs.Marks.{marks-none}
use Rattle.name_book.proofs.Named.{none-named}
use Rattle.name_book.proofs.book.NameBook.new.Goals as goal

pub invariant_of-result : goal.invariant_of-result
invariant_of-result c = marks-none c.new.result (ap (λ (t : Table). t.names) c.new.ensures)

pub returns : goal.returns
returns c = record {
  names = none-named c.new.result (ap (λ (t : Table). t.names) c.new.ensures);
  touched = λ id marked. marked;
  len = ap (λ (t : Table). set.len t.names) c.new.ensures ∙ set.len-empty nat_cmp;
  issued = ap (λ (t : Table). t.issued) c.new.ensures;
}
