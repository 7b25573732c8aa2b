use Rattle.std.proofs.Common.{◌≤◌, ◌+◌, length, subst, sym, lit≤}
use Rattle.graphs.specs.Rooms.{Room}
use Rattle.desk.proofs.PoolLemmas.{pool_without_blocks}
use Rattle.desk.proofs.pool.Pool.of_graph.Goals as goal

pub invariant_of-result : goal.invariant_of-result
invariant_of-result c =
    let (state, stands, empty) = c.requires in
    pool_without_blocks c.args.graph c.new-reorg.result c.in_ok-found.found state stands empty c.new-reorg.ensures
    (subst (λ (room : Room). 128 ≤ length room.ids + room.room) (sym c.in_ok-found.ensures) (lit≤ tt))
