use Rattle.std.proofs.Common.{arith}
use Rattle.chunk_index.specs.Kept.{entry_from}
use Rattle.chunk_index.specs.Spares.{kept, room}
use Rattle.chunk_index.proofs.Whole.{fewer, no_fresh, begin-items, begin-index}
use Rattle.chunk_index.proofs.index.ChunkIndex.begin.Goals as goal

pub overflow_sub-needed : goal.overflow_sub-needed
overflow_sub-needed c = omega (arith, fewer c.self.invariant, c.len.ensures.count, c.len-2.ensures, c.len-3.ensures, c.len-4.ensures)

pub put_in-requires-clause-absent : goal.put_in-requires-clause-absent
put_in-requires-clause-absent c = no_fresh c.self.invariant c.self.view_is (entry_from c.args.key c.args.number) c.requires

pub invariant_of-self-2 : goal.invariant_of-self-2
invariant_of-self-2 c =
    let enough = c.in_ok-need-2.ensures.ok in
    begin-index c.self.invariant c.self.view_is (entry_from c.args.key c.args.number) c.requires c.put_in.new.tree (kept c.take.new.self)
    (room c.take.new.self) c.put_in.ensures.put
    (omega (arith, enough, c.take.ensures.kept, c.put_in.ensures.longer, c.len.ensures.count, c.len-2.ensures, c.len-3.ensures, c.len-4.ensures))
    (omega (
      arith,
      c.need-2.ensures.room,
      c.take.ensures.kept,
      c.take.ensures.room,
      c.put_in.ensures.longer,
      c.len-3.ensures,
      c.len-4.ensures,
      c.len-5.ensures,
    ))

pub returns-clause-ok : goal.returns-clause-ok
returns-clause-ok c =
    begin-items c.self.invariant c.self.view_is (entry_from c.args.key c.args.number) c.requires c.put_in.new.tree c.put_in.ensures.put
