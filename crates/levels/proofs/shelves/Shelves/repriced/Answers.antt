-- The clusters of one number, or of two, get another fee of a name.
use Rattle.std.proofs.Common.{rules, ◌≡◌, ◌≤◌, ℤ, List, [], ◌∷◌, ◌++◌, map, refl, sym, ap, ap₂, ◌∙◌, subst, subst₂, of_z, to_z, arith}
use Rattle.std.specs.Prelude.{option_to_list}
use Rattle.std.specs.Int.{w64}
use Rattle.std.proofs.lemmas.Int.{to_z-of_z}
use Rattle.fee_rate.specs.Limits.{IsFee}
use Rattle.cluster_store.specs.Stores.{Exchange}
use Rattle.levels.specs.Moves.{ArePriced, GrowsForBoth}
use Rattle.levels.proofs.Counting.{grows_both, grows_first, grows_none}
use Rattle.levels.proofs.Fees.{first_there, priced_one, priced_two, second_there}
use Rattle.levels.proofs.Rooms.{exchange_fits, work_fits}
use Rattle.levels.proofs.shelves.Shelves.repriced.Goals as goal
use Rattle.levels.proofs.shelves.Shelves.repriced.Goals.{in-Some+in_ok-with_fee-in-Some, in-None}

pub with_fee-requires : goal.with_fee-requires
with_fee-requires g c =
    let narrow : g.row.W ≤ 2 = c.requires.order.narrow in (
      omega arith,
      (
        work_fits g.row.W narrow,
        (
          exchange_fits g.row.W narrow,
          (
            c.requires.order,
            (
              subst IsFee (sym (to_z-of_z w64 c.args.fee c.ranges.fee)) c.requires.fee,
              first_there g.row.W c.args.id c.args.first c.args.second c.args.self.now c.requires.order c.requires.numbers,
            ),
          ),
        ),
      ),
    )

pub with_fee-requires-in-Some : goal.with_fee-requires-in-Some
with_fee-requires-in-Some g c =
    let narrow : g.row.W ≤ 2 = c.requires.order.narrow in (
      omega arith,
      (
        work_fits g.row.W narrow,
        (
          exchange_fits g.row.W narrow,
          (
            c.requires.order,
            (
              subst IsFee (sym (to_z-of_z w64 c.args.fee c.ranges.fee)) c.requires.fee,
              second_there g.row.W c.args.id c.args.first c.args.second c.args.self.now c.requires.order c.requires.numbers c.in-Some.number c.in-Some.is,
            ),
          ),
        ),
      ),
    )

pub returns-in_err-list-clause-steps : goal.returns-in_err-list-clause-steps
returns-in_err-list-clause-steps g c = grows_none c.args.first c.args.second c.args.self.now c.args.steps.now c.args.steps.now refl

pub returns-in_err-with_fee-clause-steps : goal.returns-in_err-with_fee-clause-steps
returns-in_err-with_fee-clause-steps g c =
    grows_first c.args.first c.args.self.now c.args.steps.now c.with_fee.new.steps c.with_fee.ensures.steps c.args.second

pub drop-list-requires : goal.drop-list-requires
drop-list-requires g c κs = ((exchange_fits g.row.W c.requires.order.narrow, tt), search rules)

pub push_reserved-requires : goal.push_reserved-requires
push_reserved-requires g c = omega (arith, c.in_ok-list.ensures.len, c.in_ok-list.ensures.capacity)

pub push_reserved-requires-in-Some : goal.push_reserved-requires-in-Some
push_reserved-requires-in-Some g c =
    omega (arith, c.push_reserved.ensures.len, c.push_reserved.ensures.capacity, c.in_ok-list.ensures.len, c.in_ok-list.ensures.capacity)

pub returns-in_err-with_fee-in-Some-clause-steps : goal.returns-in_err-with_fee-in-Some-clause-steps
returns-in_err-with_fee-in-Some-clause-steps g c =
    subst (λ o. GrowsForBoth c.args.first o c.args.self.now c.args.steps.now c.with_fee-in-Some.new.steps) (sym c.in-Some.is)
    (grows_both c.args.first c.in-Some.number c.args.self.now c.args.steps.now c.with_fee.new.steps c.with_fee-in-Some.new.steps
    c.with_fee.ensures.steps c.with_fee-in-Some.ensures.steps)

pub returns-clause-priced : goal.returns-clause-priced
returns-clause-priced g c = elim c.match-second.branch [
  | in-Some+in_ok-with_fee-in-Some w ↦
      let x = c.in_ok-with_fee.field-0 in
      let y = w.in_ok-with_fee-in-Some.field-0 in
      let items : c.match-second.list.items ≡ x ∷ y ∷ [] = (λ i. (w.list-is i).items) ∙ w.push_reserved-in-Some.ensures.items
      ∙ ap (λ (xs : List Exchange). xs ++ y ∷ []) (c.push_reserved.ensures.items ∙ ap (λ (xs : List Exchange). xs ++ x ∷ []) c.in_ok-list.ensures.items) in (
        subst (λ (xs : List Exchange). ArePriced g.row.W c.args.id c.args.fee xs c.args.self.now) (sym items)
            (subst (λ (z : ℤ). ArePriced g.row.W c.args.id z (x ∷ y ∷ []) c.args.self.now) (to_z-of_z w64 c.args.fee c.ranges.fee)
            (priced_two g.row.W c.args.id (to_z w64 (of_z w64 c.args.fee)) c.args.self.now x c.in_ok-with_fee.ensures.priced y
            w.in_ok-with_fee-in-Some.ensures.priced)),
        ap (map (λ (e : Exchange). e.number)) items ∙ ap₂ (λ m n. m ∷ n ∷ []) c.in_ok-with_fee.ensures.number w.in_ok-with_fee-in-Some.ensures.number
            ∙ ap (λ o. c.args.first ∷ option_to_list o) (sym w.in-Some.is),
      )
  | in-None w ↦
      let x = c.in_ok-with_fee.field-0 in
      let items : c.match-second.list.items ≡ x ∷ [] = (λ i. (w.list-is i).items) ∙ c.push_reserved.ensures.items
      ∙ ap (λ (xs : List Exchange). xs ++ x ∷ []) c.in_ok-list.ensures.items in (
        subst (λ (xs : List Exchange). ArePriced g.row.W c.args.id c.args.fee xs c.args.self.now) (sym items)
            (subst (λ (z : ℤ). ArePriced g.row.W c.args.id z (x ∷ []) c.args.self.now) (to_z-of_z w64 c.args.fee c.ranges.fee)
            (priced_one g.row.W c.args.id (to_z w64 (of_z w64 c.args.fee)) c.args.self.now x c.in_ok-with_fee.ensures.priced)),
        ap (map (λ (e : Exchange). e.number)) items ∙ ap (λ m. m ∷ []) c.in_ok-with_fee.ensures.number
            ∙ ap (λ o. c.args.first ∷ option_to_list o) (sym w.in-None.is),
      )
]

pub returns-clause-steps : goal.returns-clause-steps
returns-clause-steps g c = elim c.match-second.branch [
  | in-Some+in_ok-with_fee-in-Some w ↦
      subst₂ (λ o n. GrowsForBoth c.args.first o c.args.self.now c.args.steps.now n) (sym w.in-Some.is) (sym w.steps-is)
      (grows_both c.args.first w.in-Some.number c.args.self.now c.args.steps.now c.with_fee.new.steps w.with_fee-in-Some.new.steps
      c.with_fee.ensures.steps w.with_fee-in-Some.ensures.steps)
  | in-None w ↦
      subst (λ n. GrowsForBoth c.args.first c.args.second c.args.self.now c.args.steps.now n) (sym w.steps-is)
      (grows_first c.args.first c.args.self.now c.args.steps.now c.with_fee.new.steps c.with_fee.ensures.steps c.args.second)
]
