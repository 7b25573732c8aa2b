-- Both parts are there.
use Rattle.std.proofs.Common.{ℕ, ◌<◌, subst}
use Rattle.cluster_store.proofs.entries.stays.Goals as goal

pub part_count-requires : goal.part_count-requires
part_count-requires g c = search

pub part_rate-requires : goal.part_rate-requires
part_rate-requires g c = (search, subst (λ (n : ℕ). c.args.at < n) c.part_count.ensures c.if-at-part_count.true)
