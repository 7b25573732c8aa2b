-- A name gets another fee in each level that has it.
use Rattle.std.proofs.Common.{rules, ◌≤◌, ℤ, is_some, refl, sym, ap, ◌∙◌, subst, of_z, to_z, arith, Contains}
use Rattle.std.specs.Int.{w64}
use Rattle.std.proofs.lemmas.Int.{to_z-of_z}
use Rattle.std.proofs.lemmas.Option.{same_Some}
use Rattle.std.proofs.lemmas.Result.{on_ok_weaker}
use Rattle.fee_rate.specs.Limits.{IsFee}
use Rattle.cluster.specs.Clusters.{Cluster}
use Rattle.levels.specs.Moves.{SetsFees}
use Rattle.levels.proofs.Counting.{grows_more, grows_none, steps_counted, steps_shared}
use Rattle.levels.proofs.Fees.{fees_exchanged, fees_same, first_fee, first_there, one_fee, same_bits, same_fee, same_names}
use Rattle.levels.proofs.Rooms.{record_fits, exchange_fits, work_fits}
use Rattle.levels.proofs.shelves.Shelves.set_fee.Goals as goal

pub at-requires : goal.at-requires
at-requires g c =
    let narrow : g.row.W ≤ 2 = c.requires.order.narrow in
    let there = first_there g.row.W c.args.id c.numbers_of-first.result.0 c.numbers_of-first.result.1 c.args.self.now c.requires.order
    c.numbers_of-first.ensures in
    (omega arith, (record_fits g.row.W narrow, ap is_some there.1))

pub rate-requires : goal.rate-requires
rate-requires g c =
    let narrow : g.row.W ≤ 2 = c.requires.order.narrow in
    let there = first_there g.row.W c.args.id c.numbers_of-first.result.0 c.numbers_of-first.result.1 c.args.self.now c.requires.order
    c.numbers_of-first.ensures in (
      record_fits g.row.W narrow,
      subst (λ (d : Cluster). Contains d.names c.args.id) (same_Some there.0 c.at.result.now (sym there.1 ∙ c.at.ensures)) there.2,
    )

pub returns-then-rate-fee-clause-fees : goal.returns-then-rate-fee-clause-fees
returns-then-rate-fee-clause-fees g c =
    fees_same g.row.W c.args.id c.args.fee c.args.self.now c.requires.order
    (one_fee g.row.W c.args.id c.numbers_of-first.result.0 c.numbers_of-first.result.1 c.args.self.now c.requires.order c.numbers_of-first.ensures
    c.requires.one c.at.result.now c.at.ensures c.args.fee
    (same_fee c.rate.result c.at.result.now c.args.id c.args.fee c.rate.ensures (search rules) c.ranges.fee c.if-rate-fee.true))

pub returns-then-rate-fee-clause-shared : goal.returns-then-rate-fee-clause-shared
returns-then-rate-fee-clause-shared g c =
    steps_shared g.row.W c.args.self.now c.requires.order c.args.id c.numbers_of-first.result.0 c.numbers_of-first.result.1 c.numbers_of-first.ensures
    c.args.steps.now c.args.steps.now (grows_none c.numbers_of-first.result.0 c.numbers_of-first.result.1 c.args.self.now c.args.steps.now c.args.steps.now refl)

pub returns-then-rate-fee-clause-steps : goal.returns-then-rate-fee-clause-steps
returns-then-rate-fee-clause-steps g c =
    steps_counted g.row.W c.args.self.now c.requires.order c.args.id c.numbers_of-first.result.0 c.numbers_of-first.result.1 c.numbers_of-first.ensures
    c.args.steps.now c.args.steps.now (grows_none c.numbers_of-first.result.0 c.numbers_of-first.result.1 c.args.self.now c.args.steps.now c.args.steps.now refl)

pub repriced-requires : goal.repriced-requires
repriced-requires g c =
    let narrow : g.row.W ≤ 2 = c.requires.order.narrow in (
      omega arith,
      (
        work_fits g.row.W narrow,
        (
          exchange_fits g.row.W narrow,
          (c.requires.order, (subst IsFee (sym (to_z-of_z w64 c.args.fee c.ranges.fee)) c.requires.fee, c.numbers_of-first.ensures)),
        ),
      ),
    )

pub returns-in_err-exchanged-clause-still : goal.returns-in_err-exchanged-clause-still
returns-in_err-exchanged-clause-still g c same =
    absurd (c.if-rate-fee.false (same_bits c.rate.result c.at.result.now c.args.id c.args.fee c.rate.ensures
    (first_fee g.row.W c.args.id c.numbers_of-first.result.0 c.numbers_of-first.result.1 c.args.self.now c.requires.order c.numbers_of-first.ensures
    c.at.result.now c.at.ensures c.args.fee same)))

pub returns-in_err-exchanged-clause-grew : goal.returns-in_err-exchanged-clause-grew
returns-in_err-exchanged-clause-grew g c =
    grows_more g.row.W c.args.self.now c.requires.order c.args.id c.numbers_of-first.result.0 c.numbers_of-first.result.1 c.numbers_of-first.ensures
    c.args.steps.now c.repriced.new.steps c.repriced.ensures.steps

pub returns-in_err-exchanged-clause-shared : goal.returns-in_err-exchanged-clause-shared
returns-in_err-exchanged-clause-shared g c =
    steps_shared g.row.W c.args.self.now c.requires.order c.args.id c.numbers_of-first.result.0 c.numbers_of-first.result.1 c.numbers_of-first.ensures
    c.args.steps.now c.repriced.new.steps c.repriced.ensures.steps

pub returns-in_err-exchanged-clause-steps : goal.returns-in_err-exchanged-clause-steps
returns-in_err-exchanged-clause-steps g c =
    steps_counted g.row.W c.args.self.now c.requires.order c.args.id c.numbers_of-first.result.0 c.numbers_of-first.result.1 c.numbers_of-first.ensures
    c.args.steps.now c.repriced.new.steps c.repriced.ensures.steps

pub exchange-requires : goal.exchange-requires
exchange-requires g c =
    let narrow : g.row.W ≤ 2 = c.requires.order.narrow in (
      omega arith,
      (
        exchange_fits g.row.W narrow,
        same_names g.row.W c.args.id c.numbers_of-first.result.0 c.numbers_of-first.result.1 (to_z w64 (of_z w64 c.args.fee))
            c.in_ok-exchanged.exchanged.items c.args.self.now c.requires.order c.numbers_of-first.ensures c.in_ok-exchanged.ensures.priced.0
            c.in_ok-exchanged.ensures.priced.1,
      ),
    )

pub returns-clause-fees : goal.returns-clause-fees
returns-clause-fees g c =
    on_ok_weaker c.exchange.result
    (λ x. subst (λ (z : ℤ). SetsFees g.row.W c.args.id z c.args.self.now c.exchange.new.self) (to_z-of_z w64 c.args.fee c.ranges.fee)
    (fees_exchanged g.row.W c.args.id c.numbers_of-first.result.0 c.numbers_of-first.result.1 (to_z w64 (of_z w64 c.args.fee))
    c.in_ok-exchanged.exchanged.items c.args.self.now c.requires.order c.numbers_of-first.ensures c.in_ok-exchanged.ensures.priced.0
    c.in_ok-exchanged.ensures.priced.1 c.exchange.new.self x c.exchange.ensures.numbers)) c.exchange.ensures.exchanged

pub returns-clause-still : goal.returns-clause-still
returns-clause-still g c same =
    absurd (c.if-rate-fee.false (same_bits c.rate.result c.at.result.now c.args.id c.args.fee c.rate.ensures
    (first_fee g.row.W c.args.id c.numbers_of-first.result.0 c.numbers_of-first.result.1 c.args.self.now c.requires.order c.numbers_of-first.ensures
    c.at.result.now c.at.ensures c.args.fee same)))

pub returns-clause-grew : goal.returns-clause-grew
returns-clause-grew g c =
    grows_more g.row.W c.args.self.now c.requires.order c.args.id c.numbers_of-first.result.0 c.numbers_of-first.result.1 c.numbers_of-first.ensures
    c.args.steps.now c.repriced.new.steps c.repriced.ensures.steps

pub returns-clause-shared : goal.returns-clause-shared
returns-clause-shared g c =
    steps_shared g.row.W c.args.self.now c.requires.order c.args.id c.numbers_of-first.result.0 c.numbers_of-first.result.1 c.numbers_of-first.ensures
    c.args.steps.now c.repriced.new.steps c.repriced.ensures.steps

pub returns-clause-steps : goal.returns-clause-steps
returns-clause-steps g c =
    steps_counted g.row.W c.args.self.now c.requires.order c.args.id c.numbers_of-first.result.0 c.numbers_of-first.result.1 c.numbers_of-first.ensures
    c.args.steps.now c.repriced.new.steps c.repriced.ensures.steps
