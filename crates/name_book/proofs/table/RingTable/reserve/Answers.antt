use Rattle.std.proofs.Common.{Err, ap, ◌∙◌, arith}
use Rattle.std.specs.FinSet as set
use Rattle.name_book.specs.Books.{Table}
use Rattle.name_book.proofs.Entries.{len-names}
use Rattle.name_book.proofs.Kept.{same-own}
use Rattle.name_book.proofs.Rungs.{kept-rungs}
use Rattle.name_book.proofs.table.RingTable.reserve.Goals as goal

pub unreachable-requires : goal.unreachable-requires
unreachable-requires c =
    let full = (c.reserve-2.ensures.full).0 (c.in-Err-Full.is ∙ ap Err c.in-Err-Full.field-0-is) in
    let len = len-names c.self.inside.names.entries c.self.invariant.once in
    let view = ap (λ (b : Table). set.len b.names) c.self.view_is in
    omega (arith, full, len, view, c.self.invariant.count, c.requires.few)

pub returns-in-Err-Memory-clause-rings : goal.returns-in-Err-Memory-clause-rings
returns-in-Err-Memory-clause-rings c r below =
    let nodes = c.self.inside.nodes in let new = c.reserve-2.new.self in let es = c.self.inside.names.entries in
    let made = c.reserve-2.ensures in let table = c.self.invariant in
    rw (c.in_ok-reserve.ensures.entries, ← c.self.view_is) (kept-rungs nodes new es table.own (same-own nodes new es table.own made.values) table.rings made.round
    c.self.inside.spare c.self.inside.spare r below (made.rings r below))

pub returns-clause-rings : goal.returns-clause-rings
returns-clause-rings c r below =
    let nodes = c.self.inside.nodes in let new = c.reserve-2.new.self in let es = c.self.inside.names.entries in
    let made = c.reserve-2.ensures in let table = c.self.invariant in
    rw (c.in_ok-reserve.ensures.entries, ← c.self.view_is) (kept-rungs nodes new es table.own (same-own nodes new es table.own made.values) table.rings made.round
    c.self.inside.spare c.args.n r below (made.rings r below))
