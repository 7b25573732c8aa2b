use Rattle.std.proofs.Common.{arith, ◌+◌, ◌^◌, ◌≤◌, length, take, slice_index_or, sym, pos, ◌∷◌, []}
use Rattle.std.proofs.lemmas.List.{length-take-le, get_or_default}
use Rattle.std.proofs.lemmas.Int.{ints}
use Rattle.std.proofs.lemmas.List.Elements.{All-take}
use Rattle.fee_rate.proofs.Orders.{same_sum}
use Rattle.fee_rate.specs.Limits.{IsRate}
use Rattle.chunking.proofs.Stacks.{last_range, popped, top_range, stack_join, stack_start, end_alone, end_behind}
use Rattle.chunking.specs.Chunkings.{sum_of}
use Rattle.chunking.proofs.chunks.put.Goals as goal
use Rattle.chunking.proofs.chunks.put.Goals.{then-loop-left-test+else-is_below, else-loop-left-test}

pub is_below-requires-clause-a_in : goal.is_below-requires-clause-a_in
is_below-requires-clause-a_in c =
    let fine = All-take IsRate (c.args.at + 1) c.args.rates.now c.requires.in_range in
    let few : length (take (c.args.at + 1) c.args.rates.now) ≤ 2 ^ 20 = omega (arith, length-take-le (c.args.at + 1) c.args.rates.now (omega arith)) in
    (top_range _ _ _ _ fine few (popped _ c.args.out.now c.loop-left.left _ c.loop-left.sum (omega arith) (omega arith) c.loop-left.invariant.1)).here

pub is_below-requires-clause-b_in : goal.is_below-requires-clause-b_in
is_below-requires-clause-b_in c =
    let fine = All-take IsRate (c.args.at + 1) c.args.rates.now c.requires.in_range in
    let few : length (take (c.args.at + 1) c.args.rates.now) ≤ 2 ^ 20 = omega (arith, length-take-le (c.args.at + 1) c.args.rates.now (omega arith)) in
    (last_range _ _ c.loop-left.sum fine few c.loop-left.invariant.1).0

pub is_below-requires-clause-a_some : goal.is_below-requires-clause-a_some
is_below-requires-clause-a_some c =
    let fine = All-take IsRate (c.args.at + 1) c.args.rates.now c.requires.in_range in
    let few : length (take (c.args.at + 1) c.args.rates.now) ≤ 2 ^ 20 = omega (arith, length-take-le (c.args.at + 1) c.args.rates.now (omega arith)) in
    (top_range _ _ _ _ fine few (popped _ c.args.out.now c.loop-left.left _ c.loop-left.sum (omega arith) (omega arith) c.loop-left.invariant.1)).some

pub add-sum-requires-clause-a_in : goal.add-sum-requires-clause-a_in
add-sum-requires-clause-a_in c =
    let fine = All-take IsRate (c.args.at + 1) c.args.rates.now c.requires.in_range in
    let few : length (take (c.args.at + 1) c.args.rates.now) ≤ 2 ^ 20 = omega (arith, length-take-le (c.args.at + 1) c.args.rates.now (omega arith)) in
    (top_range _ _ _ _ fine few (popped _ c.args.out.now c.loop-left.left _ c.loop-left.sum (omega arith) (omega arith) c.loop-left.invariant.1)).here

pub add-sum-requires-clause-b_in : goal.add-sum-requires-clause-b_in
add-sum-requires-clause-b_in c =
    let fine = All-take IsRate (c.args.at + 1) c.args.rates.now c.requires.in_range in
    let few : length (take (c.args.at + 1) c.args.rates.now) ≤ 2 ^ 20 = omega (arith, length-take-le (c.args.at + 1) c.args.rates.now (omega arith)) in
    (last_range _ _ c.loop-left.sum fine few c.loop-left.invariant.1).0

pub add-sum-requires-clause-in_range : goal.add-sum-requires-clause-in_range
add-sum-requires-clause-in_range c =
    let fine = All-take IsRate (c.args.at + 1) c.args.rates.now c.requires.in_range in
    let few : length (take (c.args.at + 1) c.args.rates.now) ≤ 2 ^ 20 = omega (arith, length-take-le (c.args.at + 1) c.args.rates.now (omega arith)) in
    (top_range _ _ _ c.loop-left.sum fine few
    (popped _ c.args.out.now c.loop-left.left _ c.loop-left.sum (omega arith) (omega arith) c.loop-left.invariant.1)).both

pub loop-left-preserved : goal.loop-left-preserved
loop-left-preserved c =
    let fine = All-take IsRate (c.args.at + 1) c.args.rates.now c.requires.in_range in
    let top = popped (take (c.args.at + 1) c.args.rates.now) c.args.out.now c.loop-left.left
    record { end = 0; sum = record { fee = pos 0; size = 0 } } c.loop-left.sum (omega arith) (omega arith) c.loop-left.invariant.1 in
    let new = same_sum c.add-sum.result _ c.add-sum.ensures.fee c.add-sum.ensures.size in
    (omega arith, stack_join _ _ _ _ c.add-sum.result fine top c.if-is_below.ensures new)

pub returns-clause-parts : goal.returns-clause-parts
returns-clause-parts c =
    let end = sym (length-take-le (c.args.at + 1) c.args.rates.now (omega arith)) in
    elim c.loop-left-test.branch [
      | then-loop-left-test+else-is_below w ↦
          end_behind _ c.args.out.now c.loop-left.left _ record { end = 0; sum = record { fee = pos 0; size = 0 } }
          (omega arith) (omega arith) end w.if-is_below.ensures c.loop-left.invariant.1
      | else-loop-left-test w ↦ end_alone _ c.args.out.now c.loop-left.left _ (omega arith) (omega arith) end c.loop-left.invariant.1
    ]

pub loop-left-init : goal.loop-left-init
loop-left-init c =
    let r = slice_index_or c.args.rates.now c.args.at record { fee = pos 0; size = 0 } in
    let new = same_sum c.from-sum.result (sum_of (r ∷ [])) (omega (arith, ints, c.from-sum.ensures.0)) (omega (arith, c.from-sum.ensures.1)) in (
      omega arith,
      stack_start c.args.rates.now c.args.at r _ c.from-sum.result c.requires.at_in
          (get_or_default c.args.rates.now c.args.at _ r c.requires.at_in) new c.requires.parts,
    )
