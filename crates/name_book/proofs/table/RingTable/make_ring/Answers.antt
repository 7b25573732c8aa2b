use Rattle.std.proofs.Common.{Contains, sym, ap, subst, ◌∙◌}
use Rattle.lists.specs.Distinct.{AreDistinct}
use Rattle.lists.proofs.Entries.{Contains-head, Contains-later}
use Rattle.name_book.specs.Books.{Table, has}
use Rattle.name_book.specs.Tables.{table_of}
use Rattle.name_book.proofs.Changing.{changes-more, others-kept}
use Rattle.name_book.proofs.Entries.{names-keys}
use Rattle.name_book.proofs.TableLemmas.{one_name}
use Rattle.name_book.proofs.Gathering.{makes-ring}
use Rattle.name_book.proofs.table.RingTable.make_ring.Goals as goal

pub find_key-to-requires : goal.find_key-to-requires
find_key-to-requires c =
    let list = c.in-Some.ensures.cases.0 in let first = c.in-Some.field-0-0.now in let rest = c.in-Some.rest.now in
    sym (names-keys c.self.inside.names.entries first) ∙ ap (λ (b : Table). has b first) c.self.view_is
    ∙ c.requires.live first (subst (λ zs. Contains zs first) (sym list) (Contains-head first rest))

pub move_names-requires-clause-live : goal.move_names-requires-clause-live
move_names-requires-clause-live c x later =
    let list = c.in-Some.ensures.cases.0 in let first = c.in-Some.field-0-0.now in let rest = c.in-Some.rest.now in
    sym (names-keys c.self.inside.names.entries x) ∙ ap (λ (b : Table). has b x) c.self.view_is
    ∙ c.requires.live x (subst (λ zs. Contains zs x) (sym list) (Contains-later first x rest later))

pub move_names-requires-clause-apart : goal.move_names-requires-clause-apart
move_names-requires-clause-apart c x later has_x =
    let once = subst AreDistinct c.in-Some.ensures.cases.0 c.requires.once in
    let first = c.in-Some.field-0-0.now in
    once.0 (subst (Contains c.in-Some.rest.now)
    (one_name c.self.inside.nodes c.self.inside.names.entries c.self.invariant.own x first c.find_key-to.result has_x c.find_key-to.ensures) later)

pub returns-in-Some-clause-made : goal.returns-in-Some-clause-made
returns-in-Some-clause-made c =
    let es = c.self.inside.names.entries in let spare = c.self.inside.spare in
    let old = table_of c.self.inside.nodes es spare in let cut = table_of c.cut_key.new.nodes es spare in let new = table_of c.move_names.new.nodes es spare in
    let first = c.in-Some.field-0-0.now in let has = c.find_key-to.ensures in
    rw (← c.self.view_is, c.in-Some.ensures.cases.0) (makes-ring old cut new c.args.r first c.in-Some.rest.now
    (c.cut_key.ensures.cut es spare first c.self.invariant.own has) (c.move_names.ensures.gathers spare first has))

pub returns-in-Some-clause-others : goal.returns-in-Some-clause-others
returns-in-Some-clause-others c q below apart =
    let nodes = c.self.inside.nodes in let cut = c.cut_key.new.nodes in let new = c.move_names.new.nodes in
    rw (← c.self.view_is) (others-kept nodes new c.self.inside.names.entries c.args.r
    (changes-more nodes cut new c.args.r c.cut_key.ensures.ring c.move_names.ensures.ring) c.self.invariant.own c.self.invariant.rings
    (c.move_names.ensures.round c.cut_key.ensures.round) c.self.inside.spare q below apart)
