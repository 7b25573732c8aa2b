use Rattle.std.proofs.Common.{◌≡◌, ◌<◌, ◌≤◌, ◌+◌, ◌*◌, ◌∷◌, [], ◌∙◌, ℕ, ap, subst, arith, length, lit<}
use Rattle.closure_flow.specs.Scratches.{flow_of}
use Rattle.linearize.specs.Drafts.{all_flows, with_flows}
use Rattle.linearize.specs.Orders.{flows_from}
use Rattle.linearize.proofs.FlowLists.{from_append, from_one, from_none, from_start, sending_more, sending_room, with_none}
use Rattle.linearize.proofs.part.send_from.Goals as goal

pub loop-parent-init : goal.loop-parent-init
loop-parent-init g c = from_start (64 * g.row.W) c.args.to.now (flow_of c.args.scratch.now) c.args.child c.args.draft.now _
    (c.into_iter-parent-iterator.ensures.into_iter_gives ∙ c.iter-parent-items.ensures.places)

pub send-requires : goal.send-requires
send-requires g c =
    let flow = flow_of c.args.scratch.now in
    let some : 0 < flow c.args.child c.in-Some.parent = subst (λ (k : ℕ). 0 < k) c.flow-amount.ensures c.if-amount-gt0.true in
    let one : length (flows_from flow c.args.child (c.in-Some.parent ∷ [])) ≡ 1 = ap length (from_one flow c.args.child c.in-Some.parent some) in
    let room : 4 * (length (all_flows c.loop-parent.draft) + length (flows_from flow c.args.child (c.in-Some.parent ∷ []))) ≤ 64 * g.row.W * (64 * g.row.W) =
    sending_room (64 * g.row.W) c.args.to.now (flows_from flow c.args.child) c.args.draft.now c.loop-parent.draft _ _ _ c.in-Some.parent _
    (from_append flow c.args.child) c.loop-parent.invariant c.in-Some.ensures.steps c.requires.room in
    (lit< tt, omega (arith, one, room))

pub loop-parent-preserved-then-amount-gt0 : goal.loop-parent-preserved-then-amount-gt0
loop-parent-preserved-then-amount-gt0 g c =
    let flow = flow_of c.args.scratch.now in
    let some : 0 < flow c.args.child c.in-Some.parent = subst (λ (k : ℕ). 0 < k) c.flow-amount.ensures c.if-amount-gt0.true in
    sending_more (64 * g.row.W) c.args.to.now (flows_from flow c.args.child)
    c.args.draft.now c.loop-parent.draft c.send.new.self _ _ _ c.in-Some.parent _ (from_append flow c.args.child)
    c.loop-parent.invariant c.in-Some.ensures.steps
    (from_one flow c.args.child c.in-Some.parent some)
    (c.send.ensures ∙ ap (λ (k : ℕ). with_flows c.loop-parent.draft (record { child = c.args.child; parent = c.in-Some.parent; amount = k } ∷ []))
    c.flow-amount.ensures)

pub loop-parent-preserved : goal.loop-parent-preserved
loop-parent-preserved g c =
    let flow = flow_of c.args.scratch.now in
    let none : flow c.args.child c.in-Some.parent ≤ 0 = subst (λ (k : ℕ). k ≤ 0) c.flow-amount.ensures c.if-amount-gt0.false in
    sending_more (64 * g.row.W) c.args.to.now (flows_from flow c.args.child)
    c.args.draft.now c.loop-parent.draft c.loop-parent.draft _ _ _ c.in-Some.parent [] (from_append flow c.args.child)
    c.loop-parent.invariant c.in-Some.ensures.steps
    (from_none flow c.args.child c.in-Some.parent none)
    (with_none c.loop-parent.draft)
