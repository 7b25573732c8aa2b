use Rattle.std.proofs.Common.{arith}
use Rattle.chunk_index.specs.Kept.{entry_from}
use Rattle.chunk_index.specs.Numbers.{listed, count}
use Rattle.chunk_index.specs.Spares.{kept, room}
use Rattle.chunk_index.proofs.Pairs.{listed_length}
use Rattle.chunk_index.proofs.Whole.{fewer, no_number, come-items, come-index}
use Rattle.chunk_index.proofs.index.ChunkIndex.enter.Goals as goal

pub overflow_sub-count : goal.overflow_sub-count
overflow_sub-count c = omega (arith, fewer c.self.invariant, c.len.ensures.count, c.len-2.ensures, c.len-3.ensures, c.len-4.ensures)

pub insert-requires : goal.insert-requires
insert-requires c = no_number c.self.invariant c.self.view_is (entry_from c.args.key c.args.number) c.requires

pub invariant_of-self-2 : goal.invariant_of-self-2
invariant_of-self-2 c =
    let n = c.insert.new.self in
    let more = c.in_ok-insert.ensures.more in
    let enough = c.in_ok-need.ensures.ok in
    come-index c.self.invariant c.self.view_is (entry_from c.args.key c.args.number) c.requires (listed n) (count n) (kept c.need.new.self)
    (room c.need.new.self) c.in_ok-insert.ensures.ok (listed_length n.map.entries n.late n.map_order)
    (omega (arith, more, enough, c.len.ensures.count, c.len-2.ensures, c.len-3.ensures, c.len-4.ensures))
    (omega (arith, c.need.ensures.room, c.len-3.ensures, c.len-4.ensures, c.len-5.ensures))

pub returns-clause-ok : goal.returns-clause-ok
returns-clause-ok c =
    come-items c.self.invariant c.self.view_is (entry_from c.args.key c.args.number) c.requires (listed c.insert.new.self) c.in_ok-insert.ensures.ok
