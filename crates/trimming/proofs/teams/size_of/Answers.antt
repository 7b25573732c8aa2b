use Rattle.std.proofs.Common.{rules, ◌≡◌, ◌+◌, ◌*◌, ◌≤◌, ℕ, ℤ, pos, length, get_or, ap, arith}
use Rattle.std.specs.Prelude.{sum_by}
use Rattle.std.proofs.lemmas.List.{get_or_read}
use Rattle.std.proofs.lemmas.List.Elements.{Contains-get_or}
use Rattle.std.proofs.lemmas.List.Sums.{sum_by-take-le}
use Rattle.fee_rate.specs.declared.limits.TheConstants.{MAX_SIZE}
use Rattle.arithmetic.proofs.Sums.{sum_by_within}
use Rattle.trimming.specs.Nets.{size_at}
use Rattle.trimming.proofs.Keys.{sum_next}
use Rattle.trimming.proofs.teams.size_of.Goals as goal

pub index-requires : goal.index-requires
index-requires c =
    let low = c.requires.places _ (Contains-get_or c.args.places.now c.loop-place.place-index 0 c.loop-place-test.true) in
    omega (arith, low)

pub overflow_add-size : goal.overflow_add-size
overflow_add-size c =
    let places = c.args.places.now in
    let k = c.loop-place.place-index in
    let size : ℕ → ℕ = size_at c.args.net.now.txs.items in
    let low = c.requires.places _ (Contains-get_or places k 0 c.loop-place-test.true) in
    let own : c.index.result.now.2 ≡ size (get_or places k 0) =
    ap (λ (tx : ℕ × ℤ × ℕ). tx.2) (get_or_read c.args.net.now.txs.items (get_or places k 0) c.index.result.now low c.index.ensures (0, pos 0, 0)) in
    let next = sum_next size places k c.loop-place-test.true in
    let part = sum_by-take-le size places (k + 1) in
    let most : sum_by size places ≤ MAX_SIZE * length places =
    sum_by_within size MAX_SIZE places (λ x here. (c.requires.net.sizes x (c.requires.places x here)).1) in
    let few = c.requires.count in
    let sum : c.loop-place.size + c.index.result.now.2 ≤ 4000000 * length places = omega (arith, own, next, part, most, c.loop-place.invariant) in
    let fits : c.loop-place.size + c.index.result.now.2 ≤ 512000000 = omega (arith, sum, few) in
    search rules

pub loop-place-preserved : goal.loop-place-preserved
loop-place-preserved c =
    let places = c.args.places.now in
    let k = c.loop-place.place-index in
    let size : ℕ → ℕ = size_at c.args.net.now.txs.items in
    let low = c.requires.places _ (Contains-get_or places k 0 c.loop-place-test.true) in
    let own : c.index.result.now.2 ≡ size (get_or places k 0) =
    ap (λ (tx : ℕ × ℤ × ℕ). tx.2) (get_or_read c.args.net.now.txs.items (get_or places k 0) c.index.result.now low c.index.ensures (0, pos 0, 0)) in
    let next = sum_next size places k c.loop-place-test.true in
    omega (arith, own, next, c.loop-place.invariant)
