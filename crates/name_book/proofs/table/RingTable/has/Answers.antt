use Rattle.std.proofs.Common.{sym, ap, ◌∙◌}
use Rattle.name_book.specs.Books.{Table, has}
use Rattle.name_book.proofs.Entries.{names-keys}
use Rattle.name_book.proofs.table.RingTable.has.Goals as goal

pub returns : goal.returns
returns c =
    c.contains_key.ensures ∙ sym (names-keys c.self.inside.names.entries c.args.id) ∙ ap (λ (b : Table). has b c.args.id) c.self.view_is
