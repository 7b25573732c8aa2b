use Rattle.std.proofs.Common.{◌-◌, ◌<◌, length, arith}
use Rattle.std.proofs.lemmas.List.Elements.{Contains-get_or}
use Rattle.cluster.proofs.Rising.{no_flow, rise_more, rise_all}
use Rattle.cluster.proofs.order.rise.Goals as goal

pub loop-at-init : goal.loop-at-init
loop-at-init c = (omega arith, λ i j before below. absurd (omega (arith, before, below)))

pub is_no_later-requires-clause-a : goal.is_no_later-requires-clause-a
is_no_later-requires-clause-a c =
    let low : c.loop-at.at - 1 < length c.args.own.now = (let test = c.loop-at-test.true in omega (arith, test)) in
    c.requires _ (Contains-get_or c.args.own.now (c.loop-at.at - 1) no_flow low)

pub is_no_later-requires-clause-b : goal.is_no_later-requires-clause-b
is_no_later-requires-clause-b c = c.requires _ (Contains-get_or c.args.own.now c.loop-at.at no_flow c.loop-at-test.true)

pub loop-at-preserved : goal.loop-at-preserved
loop-at-preserved c = (
  omega arith,
  rise_more c.args.positions.now c.args.own.now c.loop-at.at c.loop-at.invariant.1 (c.is_no_later.ensures c.if-not-is_no_later.false),
)

pub returns : goal.returns
returns c = λ _. rise_all c.args.positions.now c.args.own.now c.loop-at.at c.loop-at.invariant.1 (let past = c.loop-at-test.false in omega (arith, past))
