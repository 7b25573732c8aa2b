use Rattle.std.proofs.Common.{sym, arith}
use Rattle.chunk_index.specs.Spares.{kept, room}
use Rattle.chunk_index.proofs.Whole.{fewer, end-items, end-index}
use Rattle.chunk_index.proofs.index.ChunkIndex.end.Goals as goal

pub overflow_sub-count : goal.overflow_sub-count
overflow_sub-count c = omega (arith, fewer c.self.invariant, c.len.ensures.count, c.len-2.ensures, c.len-3.ensures, c.len-4.ensures)

pub invariant_of-self : goal.invariant_of-self
invariant_of-self c =
    let is = c.self.invariant.listed in
    end-index c.self.invariant c.self.view_is c.args.key.now (sym c.if-not-has.ensures) c.take_out.new.tree c.take_out.ensures.without
    (kept c.trim.new.self) (room c.trim.new.self)
    (omega (arith, c.trim.ensures.enough, c.len.ensures.count, c.len-2.ensures, c.len-3.ensures, c.len-4.ensures))
    (omega (
      arith,
      is.fits,
      c.take_out.ensures.shorter,
      c.give.ensures.kept,
      c.give.ensures.room,
      c.trim.ensures.fewer,
      c.trim.ensures.room,
    ))

pub returns-clause-out : goal.returns-clause-out
returns-clause-out c =
    λ is. end-items c.self.invariant c.self.view_is c.args.key.now (sym c.if-not-has.ensures) c.take_out.new.tree c.take_out.ensures.without
