-- Two of them change places, and the last goes.
use Rattle.std.proofs.Common.{◌<◌, ◌-◌, length, ap, arith, subst}
use Rattle.std.specs.List.Sorted.{IsPermutation}
use Rattle.std.proofs.lemmas.List.Sorted.{IsPermutation-swap}
use Rattle.levels.proofs.left.take_largest.Goals as goal

pub returns : goal.returns
returns g c =
    let same = ap length c.as_slice.ensures.value in
    let place : c.largest-place.result < length c.args.clusters.now.items = omega (arith, c.largest-place.ensures.place, same) in
    let last : c.len-last.result - 1 < length c.args.clusters.now.items = omega (arith, c.len-last.ensures, c.as_slice.ensures.len, same, place) in
    subst (IsPermutation c.args.clusters.now.items) c.pop.ensures.items
    (IsPermutation-swap c.args.clusters.now.items c.swap.new.self.items c.largest-place.result (c.len-last.result - 1) place last c.swap.ensures.items)
