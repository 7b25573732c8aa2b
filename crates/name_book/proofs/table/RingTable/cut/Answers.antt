use Rattle.std.proofs.Common.{sym, ap, ◌∙◌}
use Rattle.name_book.specs.Books.{Table, has}
use Rattle.name_book.proofs.Changing.{others-kept}
use Rattle.name_book.proofs.Entries.{names-keys}
use Rattle.name_book.proofs.table.RingTable.cut.Goals as goal

pub find_key-key-requires : goal.find_key-key-requires
find_key-key-requires c =
    sym (names-keys c.self.inside.names.entries c.args.a) ∙ ap (λ (t : Table). has t c.args.a) c.self.view_is ∙ c.requires.live

pub returns-clause-cut : goal.returns-clause-cut
returns-clause-cut c =
    rw (← c.self.view_is) (c.cut_key.ensures.cut c.self.inside.names.entries c.self.inside.spare c.args.a c.self.invariant.own c.find_key-key.ensures)

pub returns-clause-others : goal.returns-clause-others
returns-clause-others c q below apart =
    rw (← c.self.view_is) (others-kept c.self.inside.nodes c.cut_key.new.nodes c.self.inside.names.entries c.args.r c.cut_key.ensures.ring
    c.self.invariant.own c.self.invariant.rings c.cut_key.ensures.round c.self.inside.spare q below apart)
