use Rattle.std.proofs.Common.{sym, ap, ◌∙◌}
use Rattle.std.specs.FinSet as set
use Rattle.name_book.specs.Books.{Table}
use Rattle.name_book.proofs.Entries.{len-names}
use Rattle.name_book.proofs.table.RingTable.len.Goals as goal

pub returns : goal.returns
returns c =
    c.len.ensures.len ∙ sym (len-names c.self.inside.names.entries c.self.invariant.once) ∙ ap (λ (b : Table). set.len b.names) c.self.view_is
