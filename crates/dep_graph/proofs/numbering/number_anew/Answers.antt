use Rattle.std.proofs.Common.{rules, true, ◌≡◌, ◌∙◌, ◌+◌, ◌*◌, ◌/◌, ◌^◌, ◌<◌, ◌≤◌, length, ap, subst, arith}
use Rattle.std.proofs.lemmas.Nat.{one_shl, shr-shr}
use Rattle.std.specs.FinSet as fin
use Rattle.bitset.specs.Places.{places}
use Rattle.bitset.specs.Sets.{IsRising-places, Contains-places, len-places}
use Rattle.dep_graph.specs.Changes.{IsRenumbered}
use Rattle.dep_graph.specs.Moves.{ChangesFrom, IsMovedDown, IsMovedUp}
use Rattle.dep_graph.proofs.Gaps.{IsStanding, IsStanding-more, IsStanding-first, power_low, standing_low, standing_up}
use Rattle.dep_graph.proofs.Moving.{ChangesFrom-then, ChangesFrom-same, ChangesFrom-holds}
use Rattle.dep_graph.proofs.numbering.number_anew.Goals as goal

pub loop-left-init : goal.loop-left-init
loop-left-init g c =
    let n = 64 * g.row.W in
    let ps = places n c.args.within.now in (
      ChangesFrom-same (IsStanding ps 0) c.args.first c.args.rows.now (λ i from inside s all.
          IsStanding-first ps (IsRising-places n c.args.within.now) s (λ k f.
          let held : fin.contains c.args.within.now k ≡ true = c.requires.held i k from inside (all k f) in
          Contains-places n c.args.within.now k (c.greatest_gap-left.ensures.within k held) held)),
      omega arith,
    )

pub moving-requires : goal.moving-requires
moving-requires g c =
    let power : c.loop-left.power < 64 =
    power_low (places (64 * g.row.W) c.args.within.now) (IsRising-places (64 * g.row.W) c.args.within.now) c.greatest_gap-left.result c.loop-left.power
    c.greatest_gap-left.type_inv (omega (arith, c.loop-left.invariant.1, c.loop-left-test.true)) in
    (search rules, (power, omega (arith, c.requires.fits)))

pub overflow_shl-power : goal.overflow_shl-power
overflow_shl-power g c =
    power_low (places (64 * g.row.W) c.args.within.now) (IsRising-places (64 * g.row.W) c.args.within.now) c.greatest_gap-left.result c.loop-left.power
    c.greatest_gap-left.type_inv (omega (arith, c.loop-left.invariant.1, c.loop-left-test.true))

pub overflow_add-power : goal.overflow_add-power
overflow_add-power g c =
    let power : c.loop-left.power < 64 =
    power_low (places (64 * g.row.W) c.args.within.now) (IsRising-places (64 * g.row.W) c.args.within.now) c.greatest_gap-left.result c.loop-left.power
    c.greatest_gap-left.type_inv (omega (arith, c.loop-left.invariant.1, c.loop-left-test.true)) in
    search rules

pub loop-left-preserved : goal.loop-left-preserved
loop-left-preserved g c =
    let ps = places (64 * g.row.W) c.args.within.now in
    let rise = IsRising-places (64 * g.row.W) c.args.within.now in
    let power : c.loop-left.power < 64 =
    power_low ps rise c.greatest_gap-left.result c.loop-left.power c.greatest_gap-left.type_inv
    (omega (arith, c.loop-left.invariant.1, c.loop-left-test.true)) in (
      ChangesFrom-then (IsStanding ps c.loop-left.power) (IsMovedDown c.moving.result (2 ^ c.loop-left.power)) (IsStanding ps (c.loop-left.power + 1))
          c.args.first c.args.rows.now c.loop-left.rows c.move_down.new.rows
          (λ s t u stand down. IsStanding-more ps rise c.loop-left.power c.moving.result s t u c.moving.ensures stand down)
          c.loop-left.invariant.0
          (subst (λ by. ChangesFrom (IsMovedDown c.moving.result by) c.args.first c.loop-left.rows c.move_down.new.rows)
          (one_shl c.loop-left.power 64 power) c.move_down.ensures),
      ap (λ x. x / 2) c.loop-left.invariant.1 ∙ shr-shr c.greatest_gap-left.result c.loop-left.power 1,
    )

pub move_up-requires : goal.move_up-requires
move_up-requires g c =
    let ps = places (64 * g.row.W) c.args.within.now in
    let rise = IsRising-places (64 * g.row.W) c.args.within.now in
    let done : c.greatest_gap-left.result / 2 ^ c.loop-left.power ≡ 0 = omega (arith, c.loop-left.invariant.1, c.loop-left-test.false) in (
      search rules,
      λ i p from inside held. ChangesFrom-holds (λ p. p + c.args.first < 2 ^ 64) c.loop-left.invariant.0
          (λ s t stand p f.
          let below : p < length ps = standing_low ps rise c.loop-left.power c.greatest_gap-left.result done c.greatest_gap-left.ensures.most s t stand p f in
          omega (arith, c.requires.fits, len-places (64 * g.row.W) c.args.within.now c.greatest_gap-left.ensures.within))
          i p from (omega (arith, c.loop-left.invariant.0.long)) held,
    )

pub returns : goal.returns
returns g c =
    let n = 64 * g.row.W in
    let ps = places n c.args.within.now in
    let rise = IsRising-places n c.args.within.now in
    let done : c.greatest_gap-left.result / 2 ^ c.loop-left.power ≡ 0 = omega (arith, c.loop-left.invariant.1, c.loop-left-test.false) in
    let room : c.args.first + length ps ≤ n = omega (arith, c.requires.room, len-places n c.args.within.now c.greatest_gap-left.ensures.within) in
    ChangesFrom-then (IsStanding ps c.loop-left.power) (IsMovedUp n c.args.first)
    (IsRenumbered ps c.args.first) c.args.first c.args.rows.now c.loop-left.rows c.move_up.new.rows
    (λ s t u stand up.
    standing_up ps rise c.loop-left.power c.greatest_gap-left.result done c.greatest_gap-left.ensures.most s t stand n c.args.first u room up)
    c.loop-left.invariant.0 c.move_up.ensures
