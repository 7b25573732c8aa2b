use Rattle.std.proofs.Common.{arith}
use Rattle.chunk_index.specs.Kept.{entry_from}
use Rattle.chunk_index.specs.Numbers.{listed, count}
use Rattle.chunk_index.specs.Spares.{kept, room}
use Rattle.chunk_index.proofs.Pairs.{listed_length}
use Rattle.chunk_index.proofs.Whole.{go-items, go-few, go-index}
use Rattle.chunk_index.proofs.index.ChunkIndex.leave.Goals as goal

pub overflow_sub-count : goal.overflow_sub-count
overflow_sub-count c =
    let n = c.remove.new.self in
    let few = go-few c.self.invariant c.self.view_is (entry_from c.args.key.now c.requires.0) c.requires.1 (listed n) c.remove.ensures.without in
    omega (arith, few, listed_length n.map.entries n.late n.map_order, c.len.ensures.count, c.len-2.ensures, c.len-3.ensures, c.len-4.ensures)

pub invariant_of-self : goal.invariant_of-self
invariant_of-self c =
    let n = c.remove.new.self in
    go-index c.self.invariant c.self.view_is (entry_from c.args.key.now c.requires.0) c.requires.1 (listed n) (count n) (kept c.trim.new.self)
    (room c.trim.new.self) c.remove.ensures.without (listed_length n.map.entries n.late n.map_order)
    (omega (arith, c.trim.ensures.enough, c.len.ensures.count, c.len-2.ensures, c.len-3.ensures, c.len-4.ensures)) c.trim.ensures.fewer
    c.trim.ensures.room

pub returns : goal.returns
returns c =
    go-items c.self.invariant c.self.view_is (entry_from c.args.key.now c.requires.0) c.requires.1 (listed c.remove.new.self) c.remove.ensures.without
