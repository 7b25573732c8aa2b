use Rattle.std.proofs.Common.{◌≡◌, arith}
use Rattle.std.specs.FinSet as set
use Rattle.graphs.specs.Closures.{members_of}
use Rattle.record.proofs.Standing.{none_alone, alone_more, alone_stands, fee_read, members_many}
use Rattle.record.proofs.solving.members.Goals as goal

pub loop-at-init : goal.loop-at-init
loop-at-init g c = none_alone c.args.txs.now c.new-dep.result c.new-dep.ensures

pub add-requires : goal.add-requires
add-requires g c =
    let many : set.len (members_of c.loop-at.dep) ≡ c.loop-at.at =
    members_many c.loop-at.at c.loop-at.at c.loop-at.dep (omega arith) c.loop-at.invariant.members in
    (grind arith, omega (arith, many, c.loop-at-test.true, c.requires.few))

pub loop-at-preserved : goal.loop-at-preserved
loop-at-preserved g c =
    alone_more c.args.txs.now c.loop-at.at c.loop-at.dep c.add.new.self _ c.in_ok-add.field-0 c.loop-at.invariant c.in_ok-add.ensures.ok
    (fee_read c.args.txs.now c.requires.links.in_range c.loop-at.at c.loop-at-test.true)

pub returns : goal.returns
returns g c =
    alone_stands c.args.txs.now c.loop-at.at c.loop-at.dep c.requires.links.graph_is.names
    (omega (arith, c.loop-at-test.false, c.loop-at.auto.at-end)) c.loop-at.invariant
