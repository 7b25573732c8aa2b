use Rattle.std.proofs.Common.{◌≡◌, ◌<◌, ℕ, List, length, ap, sym, subst, arith}
use Rattle.std.specs.Prelude.{Contains}
use Rattle.trimming.proofs.room.unmark.Goals as goal

pub index_mut-requires : goal.index_mut-requires
index_mut-requires c =
    let found = c.args.room.now.found.items in
    let same : c.loop-at.room.found.items ≡ found = ap (λ v. v.items) c.loop-at.invariant.found in
    let low : c.loop-at.at < length c.loop-at.room.found.items = omega (arith, ap length same) in
    let here : Contains c.loop-at.room.found.items c.index-place.result.now = (c.loop-at.at, low, sym c.index-place.ensures) in
    let inside = c.requires.marked.within c.index-place.result.now (subst (λ (xs : List ℕ). Contains xs c.index-place.result.now) same here) in
    let sized = c.loop-at.invariant.sized in
    omega arith
