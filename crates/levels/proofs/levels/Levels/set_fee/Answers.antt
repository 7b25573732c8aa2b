-- A name gets another fee: what the levels ask is asked of their shelf, and what it makes of it is told of the levels.
use Rattle.std.proofs.Common.{◌≤◌, sym, subst, of_z, to_z, arith}
use Rattle.std.specs.Int.{w64}
use Rattle.std.proofs.lemmas.Int.{to_z-of_z}
use Rattle.fee_rate.specs.Limits.{IsFee}
use Rattle.levels.proofs.Oversizing.{have_picks}
use Rattle.levels.proofs.Repriced.{have_fee, kept_repriced, levels_failed, levels_priced, levels_same, levels_stay, live_numbered, one_rate, told_fee}
use Rattle.levels.proofs.Rooms.{work_fits}
use Rattle.levels.proofs.levels.Levels.set_fee.Goals as goal

pub set_fee-requires : goal.set_fee-requires
set_fee-requires g c =
    let narrow : g.row.W ≤ 2 = c.self.invariant.order.narrow in (
      omega arith,
      (
        work_fits g.row.W narrow,
        (
          c.self.invariant.order,
          (
            live_numbered g.row.W c.self.inside.issued c.args.id c.self.inside.shelves c.args.self.now c.self.invariant.order c.self.view_is c.requires.live,
            (
              subst IsFee (sym (to_z-of_z w64 c.args.fee c.ranges.fee)) c.requires.fee,
              one_rate g.row.W c.self.inside.issued c.args.id c.self.inside.shelves c.args.self.now c.self.invariant.order c.self.view_is c.requires.one,
            ),
          ),
        ),
      ),
    )

pub invariant_of-self : goal.invariant_of-self
invariant_of-self g c =
    kept_repriced g.row.W c.self.inside.mains c.self.inside.tops c.self.inside.issued c.args.id (to_z w64 (of_z w64 c.args.fee)) c.self.inside.rings
    c.self.inside.shelves c.set_fee.new.self c.set_fee.result c.set_fee.ensures.order c.set_fee.ensures.fees c.set_fee.ensures.err c.self.invariant

pub returns-clause-fee : goal.returns-clause-fee
returns-clause-fee g c =
    levels_priced g.row.W c.self.inside.issued c.args.id c.self.inside.shelves c.set_fee.new.self c.args.self.now c.self.invariant.order
    c.set_fee.ensures.order c.self.view_is c.args.fee (to_z w64 (of_z w64 c.args.fee)) (to_z-of_z w64 c.args.fee c.ranges.fee) c.set_fee.result
    c.set_fee.ensures.fees

pub returns-clause-still : goal.returns-clause-still
returns-clause-still g c same =
    let stays = c.set_fee.ensures.still (have_fee g.row.W c.self.inside.issued c.args.id c.self.inside.shelves c.args.self.now c.self.invariant.order
    c.self.view_is c.args.fee (to_z w64 (of_z w64 c.args.fee)) (to_z-of_z w64 c.args.fee c.ranges.fee) same) in (
      levels_same g.row.W c.self.inside.issued c.args.id c.self.inside.shelves c.set_fee.new.self c.args.self.now c.self.invariant.order
          c.set_fee.ensures.order c.self.view_is stays.0,
      stays.1,
    )

pub returns-clause-kept : goal.returns-clause-kept
returns-clause-kept g c = (
  have_picks g.row.W c.set_fee.new.self c.set_fee.ensures.order c.self.inside.issued,
  levels_stay g.row.W c.self.inside.issued c.args.id c.self.inside.shelves c.set_fee.new.self c.args.self.now c.self.invariant.order
      c.set_fee.ensures.order c.self.view_is (to_z w64 (of_z w64 c.args.fee)) c.set_fee.result c.set_fee.ensures.fees c.set_fee.ensures.err
      (one_rate g.row.W c.self.inside.issued c.args.id c.self.inside.shelves c.args.self.now c.self.invariant.order c.self.view_is c.requires.one)
      (λ same. (c.set_fee.ensures.still same).0),
)

pub returns-clause-err : goal.returns-clause-err
returns-clause-err g c =
    levels_failed g.row.W c.self.inside.issued c.args.id c.self.inside.shelves c.set_fee.new.self c.args.self.now c.self.invariant.order
    c.set_fee.ensures.order c.self.view_is c.set_fee.result c.set_fee.ensures.err

pub returns-clause-steps : goal.returns-clause-steps
returns-clause-steps g c =
    told_fee g.row.W c.self.inside.issued c.args.id c.self.inside.shelves c.args.self.now c.self.invariant.order c.self.view_is
    c.args.steps.now c.set_fee.new.steps c.requires.live c.set_fee.ensures.shared c.set_fee.ensures.grew c.set_fee.ensures.steps

pub returns-clause-grew : goal.returns-clause-grew
returns-clause-grew g c = c.set_fee.ensures.grew
