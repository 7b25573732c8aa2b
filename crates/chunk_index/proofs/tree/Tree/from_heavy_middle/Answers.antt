use Rattle.std.proofs.Common.{◌≡◌, ◌+◌, ◌∷◌, length, ap, arith, length-append}
use Rattle.chunk_index.specs.TreeShape.{entry_of}
use Rattle.chunk_index.proofs.tree.Tree.from_heavy_middle.Goals as goal

pub of_parts-left-requires-clause-balanced : goal.of_parts-left-requires-clause-balanced
of_parts-left-requires-clause-balanced c =
    let whole = length-append c.in-Some.before (entry_of c.in-Some.middle.value ∷ c.in-Some.behind) in
    (c.requires.balanced (length c.in-Some.before) (length c.in-Some.behind) (omega (arith, ap length c.in-Some.ensures.parts, whole))
    c.in-Some.ensures.balanced).0

pub of_parts-right-requires-clause-balanced : goal.of_parts-right-requires-clause-balanced
of_parts-right-requires-clause-balanced c =
    let whole = length-append c.in-Some.before (entry_of c.in-Some.middle.value ∷ c.in-Some.behind) in
    (c.requires.balanced (length c.in-Some.before) (length c.in-Some.behind) (omega (arith, ap length c.in-Some.ensures.parts, whole))
    c.in-Some.ensures.balanced).1

pub of_parts-requires-clause-balanced : goal.of_parts-requires-clause-balanced
of_parts-requires-clause-balanced c =
    let whole = length-append c.in-Some.before (entry_of c.in-Some.middle.value ∷ c.in-Some.behind) in
    let left = length-append c.args.first (entry_of c.args.low.value ∷ c.in-Some.before) in
    let right = length-append c.in-Some.behind (entry_of c.args.high.value ∷ c.args.last) in
    let low : length c.of_parts-left.result ≡ length c.args.first + length c.in-Some.before + 1 = omega (arith, ap length c.of_parts-left.ensures, left) in
    let high : length c.of_parts-right.result ≡ length c.in-Some.behind + length c.args.last + 1 = omega (arith, ap length c.of_parts-right.ensures, right) in
    rw (low, high) (c.requires.balanced (length c.in-Some.before) (length c.in-Some.behind)
    (omega (arith, ap length c.in-Some.ensures.parts, whole)) c.in-Some.ensures.balanced).2
