use Rattle.std.proofs.Common.{◌≡◌, ℕ, ◌<◌, sym, subst, ◌∙◌, length, map, nat_eq, ap}
use Rattle.std.specs.HashMap as hash
use Rattle.graphs.specs.Certificates.{HasOrder, graph_of}
use Rattle.certificate.specs.Groups.{AreGroups}
use Rattle.certificate.specs.Orders.{IsOrderOf, AreRanks, Rise, AreOfOneGroup}
use Rattle.certificate.specs.Parts.{ids_at, order_of, parts_of}
use Rattle.certificate.specs.Places.{named}
use Rattle.certificate.specs.Tables.{names_of}
use Rattle.certificate.proofs.GraphLemmas.{same_answer}
use Rattle.certificate.proofs.OrderLemmas.{order_part, rise_part, groups_part, known_names, has_order}
use Rattle.certificate.proofs.order.are_in_order.Goals as goal

pub returns-then-not-is_order-clause-order : goal.returns-then-not-is_order-clause-order
returns-then-not-is_order-clause-order c h =
    c.if-not-is_order.ensures.order (subst (λ l. IsOrderOf (names_of c.args.txs.now) l) (sym c.requires.laid.order)
    (order_part c.args.txs.now (map (named (names_of c.args.txs.now)) c.args.tables.now.pairs.items) c.args.parts.now h))

pub returns-then-not-is_rising-clause-order : goal.returns-then-not-is_rising-clause-order
returns-then-not-is_rising-clause-order c h =
    let names = names_of c.args.txs.now in
    let pairs = c.args.tables.now.pairs.items in
    let ranks : AreRanks names (order_of c.args.parts.now) c.is_order.new.desk.ranks.items =
    subst (λ l. AreRanks names l c.is_order.new.desk.ranks.items) c.requires.laid.order (c.is_order.ensures.ranks c.if-not-is_order.false) in
    c.if-not-is_rising.ensures
    (subst (λ r. Rise r c.as_slice-2.result.now) (sym c.as_slice.ensures.value)
    (subst (λ l. Rise c.is_order.new.desk.ranks.items l) (sym c.as_slice-2.ensures.value)
    (rise_part c.args.txs.now pairs c.args.parts.now c.is_order.new.desk.ranks.items c.requires.pairs ranks h)))

pub are_together-requires : goal.are_together-requires
are_together-requires c =
    let names = names_of c.args.txs.now in
    let o = subst (λ l. IsOrderOf names l) c.requires.laid.order c.if-not-is_order.ensures.order in
    let long : length c.as_slice-3.result.now ≡ length names =
    ap length (c.as_slice-3.ensures.value ∙ c.is_order.ensures.groups) ∙ c.requires.laid.sized in
    known_names c.args.txs.now _ c.args.parts.now (length c.as_slice-3.result.now) c.requires.places o long

pub returns-clause-order : goal.returns-clause-order
returns-clause-order c =
    let names = names_of c.args.txs.now in
    let pairs = c.args.tables.now.pairs.items in
    let parts = c.args.parts.now in
    let kept = c.as_slice-3.ensures.value ∙ c.is_order.ensures.groups in
    let o = subst (λ l. IsOrderOf names l) c.requires.laid.order c.if-not-is_order.ensures.order in
    let ranks : AreRanks names (order_of parts) c.is_order.new.desk.ranks.items =
    subst (λ l. AreRanks names l c.is_order.new.desk.ranks.items) c.requires.laid.order (c.is_order.ensures.ranks c.if-not-is_order.false) in
    let rise = subst (λ l. Rise c.is_order.new.desk.ranks.items l) c.as_slice-2.ensures.value
    (subst (λ r. Rise r c.as_slice-2.result.now) c.as_slice.ensures.value c.if-not-is_rising.ensures) in
    let groups : AreGroups pairs c.as_slice-3.result.now = subst (λ g. AreGroups pairs g) (sym kept) c.requires.laid.groups in
    let long : length c.as_slice-3.result.now ≡ length names = ap length kept ∙ c.requires.laid.sized in
    let Together : Type 0 = (k : ℕ) → k < length parts → AreOfOneGroup (hash.get nat_eq c.args.tables.now.names) c.as_slice-3.result.now (ids_at parts k) in
    same_answer c.are_together.result Together Together (HasOrder (graph_of c.args.txs.now (map (named names) pairs)) (parts_of parts))
    (has_order c.args.txs.now _ pairs parts c.is_order.new.desk.ranks.items c.as_slice-3.result.now
    c.requires.places c.requires.pairs o ranks rise groups long)
    (groups_part c.args.txs.now _ pairs parts c.as_slice-3.result.now c.requires.places c.requires.pairs groups long) c.are_together.ensures
