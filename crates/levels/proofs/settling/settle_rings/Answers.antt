-- One turn after the other, until no name is touched.
use Rattle.std.proofs.Common.{◌≤◌, ◌*◌, ◌∙◌, refl, arith}
use Rattle.std.specs.FinSet as set
use Rattle.levels.specs.Shelves.{view_of}
use Rattle.levels.proofs.Settlements.{all_settled, none_settled, one_settled, settled_right, settling}
use Rattle.levels.proofs.Standing.{indexed_at}
use Rattle.levels.proofs.settling.settle_rings.Goals as goal

pub loop-turn-init : goal.loop-turn-init
loop-turn-init g c = record {
  settling = settling g.row.W c.args.stays c.args.rings.now c.args.shelves.now c.requires.order c.requires.suits;
  settled = none_settled c.args.rings.now;
  few = omega arith;
  issued = refl;
}

pub settle_first-requires : goal.settle_first-requires
settle_first-requires g c =
    (omega arith, (c.requires.order, (c.loop-turn.invariant.settling, c.in-Some.ensures.marked.0)))

pub loop-turn-preserved : goal.loop-turn-preserved
loop-turn-preserved g c =
    let was = c.loop-turn.invariant in let one = c.settle_first.ensures in record {
      settling = one.settling;
      settled = one_settled c.loop-turn._turn c.in-Some.id c.args.rings.now c.loop-turn.rings c.settle_first.new.rings was.settled
          c.in-Some.ensures.marked.0 one.settles;
      few = omega (arith, one.settles.few, was.few);
      issued = one.settles.issued ∙ was.issued;
    }

pub returns-in-None-clause-right : goal.returns-in-None-clause-right
returns-in-None-clause-right g c =
    settled_right c.args.stays (64 * g.row.W) (view_of c.args.stays c.args.shelves.now) (indexed_at g.row.W c.args.stays c.args.shelves.now c.requires.order)
    c.loop-turn.rings c.loop-turn.invariant.settling c.in-None.ensures.marked

pub returns-clause-right : goal.returns-clause-right
returns-clause-right g c =
    let many : set.len c.args.rings.now.book.names ≤ c.loop-turn._turn = omega (arith, c.loop-turn-test.false, c.len-turn-end.ensures) in
    settled_right c.args.stays (64 * g.row.W) (view_of c.args.stays c.args.shelves.now) (indexed_at g.row.W c.args.stays c.args.shelves.now c.requires.order)
    c.loop-turn.rings c.loop-turn.invariant.settling (all_settled c.loop-turn._turn c.args.rings.now c.loop-turn.rings many c.loop-turn.invariant.settled)
