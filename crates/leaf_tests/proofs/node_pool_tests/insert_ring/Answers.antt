use Rattle.std.proofs.Common.{lit<}
use Rattle.node_pool.proofs.Callers.{fresh-differs, live-updated, live-other, apart-parted}
use Rattle.leaf_tests.proofs.node_pool_tests.insert_ring.Goals as goal

pub join_rings-requires : goal.join_rings-requires
join_rings-requires c =
    let mid = c.insert-a.new.self in let new = c.insert-b.new.self in
    let a = c.insert-a.result in let b = c.insert-b.result in
    let live_mid = live-updated _ mid a _ c.insert-a.ensures.updates in
    let differs = fresh-differs mid a b live_mid c.insert-b.ensures.fresh in
    let live_a = live-other mid new b a _ c.insert-b.ensures.updates differs live_mid in
    let live_b = live-updated mid new b _ c.insert-b.ensures.updates in
    (lit< tt, (lit< tt, (live_a, (live_b, apart-parted mid new 1 b a (c.insert-b.ensures.rings 1 (lit< tt)) differs))))
