use Rattle.std.proofs.Common.{inl, inr, refl}
use Rattle.desk.proofs.ordering.sort_ids.Goals as goal

pub returns-then-oversized : goal.returns-then-oversized
returns-then-oversized c = inl (refl, refl, λ state stands. (c.oversized.ensures.state state stands).0 c.if-oversized.true)

pub returns : goal.returns
returns c = inr (refl, c.sort_by_main_order.ensures.ids, c.sort_by_main_order.ensures.sorted)
