use Rattle.std.proofs.Common.{arith, subst, nat_eq}
use Rattle.std.specs.HashMap as hash
use Rattle.std.proofs.lemmas.List.{take_all}
use Rattle.graphs.specs.Certificates.{given, gotten}
use Rattle.certificate.proofs.Bookings.{Nets, nets_none, flow_here, open_place, pay_fits, paid, draw_fits, drawn, amount_bound}
use Rattle.certificate.proofs.flows.book.Goals as goal

pub loop-flow-init : goal.loop-flow-init
loop-flow-init c = nets_none _ _ _ c.requires.empty

pub place_of-child-requires : goal.place_of-child-requires
place_of-child-requires c =
    let i = (c.requires.inside _ (flow_here c.args.flows.now c.loop-flow.flow-index c.loop-flow-test.true)).0 in
    (i.0, i.1)

pub place_of-parent-requires : goal.place_of-parent-requires
place_of-parent-requires c =
    let i = (c.requires.inside _ (flow_here c.args.flows.now c.loop-flow.flow-index c.loop-flow-test.true)).1 in
    (i.0, i.1)

pub pay-requires-clause-place_in : goal.pay-requires-clause-place_in
pay-requires-clause-place_in c =
    let i = c.requires.inside _ (flow_here c.args.flows.now c.loop-flow.flow-index c.loop-flow-test.true) in
    (open_place _ _ _ _ c.args.accounts.now c.loop-flow.accounts _ c.place_of-child.result c.loop-flow.invariant i.0 c.place_of-child.ensures).0

pub pay-requires-clause-small : goal.pay-requires-clause-small
pay-requires-clause-small c =
    let total = c.requires.total in
    let b = amount_bound c.args.flows.now c.loop-flow.flow-index c.loop-flow-test.true in
    omega arith

pub pay-requires-clause-fits : goal.pay-requires-clause-fits
pay-requires-clause-fits c =
    let i = c.requires.inside _ (flow_here c.args.flows.now c.loop-flow.flow-index c.loop-flow-test.true) in
    let o = open_place _ _ _ _ c.args.accounts.now c.loop-flow.accounts _ c.place_of-child.result c.loop-flow.invariant i.0 c.place_of-child.ensures in
    pay_fits _ _ c.args.accounts.now c.loop-flow.accounts c.args.flows.now c.loop-flow.flow-index c.place_of-child.result
    c.loop-flow.invariant c.loop-flow-test.true c.requires.total c.place_of-child.ensures o.1

pub draw-requires-clause-place_in : goal.draw-requires-clause-place_in
draw-requires-clause-place_in c =
    let i = c.requires.inside _ (flow_here c.args.flows.now c.loop-flow.flow-index c.loop-flow-test.true) in
    let o = open_place _ _ _ _ c.args.accounts.now c.loop-flow.accounts _ c.place_of-child.result c.loop-flow.invariant i.0 c.place_of-child.ensures in
    let p = paid _ _ c.args.accounts.now c.loop-flow.accounts c.pay.new.accounts c.args.flows.now c.loop-flow.flow-index
    c.place_of-child.result c.requires.apart c.loop-flow.invariant c.loop-flow-test.true c.place_of-child.ensures o.0 c.pay.ensures in
    (open_place _ _ _ _ c.args.accounts.now c.pay.new.accounts _ c.place_of-parent.result p i.1 c.place_of-parent.ensures).0

pub draw-requires-clause-small : goal.draw-requires-clause-small
draw-requires-clause-small c =
    let total = c.requires.total in
    let b = amount_bound c.args.flows.now c.loop-flow.flow-index c.loop-flow-test.true in
    omega arith

pub draw-requires-clause-fits : goal.draw-requires-clause-fits
draw-requires-clause-fits c =
    let i = c.requires.inside _ (flow_here c.args.flows.now c.loop-flow.flow-index c.loop-flow-test.true) in
    let o = open_place _ _ _ _ c.args.accounts.now c.loop-flow.accounts _ c.place_of-child.result c.loop-flow.invariant i.0 c.place_of-child.ensures in
    let p = paid _ _ c.args.accounts.now c.loop-flow.accounts c.pay.new.accounts c.args.flows.now c.loop-flow.flow-index
    c.place_of-child.result c.requires.apart c.loop-flow.invariant c.loop-flow-test.true c.place_of-child.ensures o.0 c.pay.ensures in
    let q = open_place _ _ _ _ c.args.accounts.now c.pay.new.accounts _ c.place_of-parent.result p i.1 c.place_of-parent.ensures in
    draw_fits _ _ c.args.accounts.now c.pay.new.accounts c.args.flows.now c.loop-flow.flow-index
    c.place_of-parent.result p c.loop-flow-test.true c.requires.total c.place_of-parent.ensures q.1

pub loop-flow-preserved : goal.loop-flow-preserved
loop-flow-preserved c =
    let i = c.requires.inside _ (flow_here c.args.flows.now c.loop-flow.flow-index c.loop-flow-test.true) in
    let o = open_place _ _ _ _ c.args.accounts.now c.loop-flow.accounts _ c.place_of-child.result c.loop-flow.invariant i.0 c.place_of-child.ensures in
    let p = paid _ _ c.args.accounts.now c.loop-flow.accounts c.pay.new.accounts c.args.flows.now c.loop-flow.flow-index
    c.place_of-child.result c.requires.apart c.loop-flow.invariant c.loop-flow-test.true c.place_of-child.ensures o.0 c.pay.ensures in
    let q = open_place _ _ _ _ c.args.accounts.now c.pay.new.accounts _ c.place_of-parent.result p i.1 c.place_of-parent.ensures in
    drawn _ _ c.args.accounts.now c.pay.new.accounts c.draw.new.accounts c.args.flows.now c.loop-flow.flow-index
    c.place_of-parent.result c.requires.apart p c.loop-flow-test.true c.place_of-parent.ensures q.0 c.draw.ensures

pub returns-clause-net : goal.returns-clause-net
returns-clause-net c =
    let all = take_all c.loop-flow.flow-index c.args.flows.now (omega arith) in
    let n = subst (λ l. Nets (hash.get nat_eq c.args.names.now) c.args.part (given l) (gotten l) c.args.accounts.now c.loop-flow.accounts)
    all c.loop-flow.invariant in
    n.net
