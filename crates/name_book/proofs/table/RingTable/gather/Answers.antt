use Rattle.std.proofs.Common.{Contains, sym, ap, subst, ◌∙◌}
use Rattle.name_book.specs.Books.{Table, has}
use Rattle.name_book.proofs.Changing.{others-kept}
use Rattle.name_book.proofs.Entries.{names-keys}
use Rattle.name_book.proofs.TableLemmas.{one_name}
use Rattle.name_book.proofs.table.RingTable.gather.Goals as goal

pub find_key-key-requires : goal.find_key-key-requires
find_key-key-requires c =
    sym (names-keys c.self.inside.names.entries c.args.to) ∙ ap (λ (b : Table). has b c.args.to) c.self.view_is ∙ c.requires.live.0

pub move_names-requires-clause-live : goal.move_names-requires-clause-live
move_names-requires-clause-live c x here =
    sym (names-keys c.self.inside.names.entries x) ∙ ap (λ (b : Table). has b x) c.self.view_is ∙ c.requires.live.1 x here

pub move_names-requires-clause-apart : goal.move_names-requires-clause-apart
move_names-requires-clause-apart c x here has =
    c.requires.apart (subst (Contains c.args.names.now)
    (one_name c.self.inside.nodes c.self.inside.names.entries c.self.invariant.own x c.args.to c.find_key-key.result has c.find_key-key.ensures) here)

pub returns-clause-gathered : goal.returns-clause-gathered
returns-clause-gathered c =
    rw (← c.self.view_is) (c.move_names.ensures.gathers c.self.inside.spare c.args.to c.find_key-key.ensures)

pub returns-clause-others : goal.returns-clause-others
returns-clause-others c q below apart =
    rw (← c.self.view_is) (others-kept c.self.inside.nodes c.move_names.new.nodes c.self.inside.names.entries c.args.r c.move_names.ensures.ring
    c.self.invariant.own c.self.invariant.rings (c.move_names.ensures.round c.self.invariant.rings) c.self.inside.spare q below apart)
