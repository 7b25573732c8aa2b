use Rattle.std.proofs.Common.{◌≡◌, ℕ, sym, subst, ◌∙◌, ◌*◌, ◌+◌, ◌-◌, ◌≤◌, true, slice_index, w64, arith}
use Rattle.std.specs.Int.{leading_zeros}
use Rattle.std.specs.FinSet as set
use Rattle.bitset.specs.Places.{IsWithin}
use Rattle.bitset.proofs.Operations.{greatest_is, none_is, members_of-within}
use Rattle.bitset.proofs.bits.Bits.greatest.Goals as goal

pub returns-then-word-ne0-clause-there : goal.returns-then-word-ne0-clause-there
returns-then-word-ne0-clause-there g c =
    let i : ℕ = c.loop-i.i - 1 in
    let place : ℕ = 64 * i + (63 - leading_zeros w64 (slice_index c.self.inside.words i)) in
    subst (λ s. set.contains s place ≡ true) c.self.view_is
    (greatest_is g.row.W i c.self.inside.words c.self.invariant (λ k h. c.loop-i.invariant.none k (omega arith)) c.if-word-ne0.true).0

pub returns-then-word-ne0-clause-greatest : goal.returns-then-word-ne0-clause-greatest
returns-then-word-ne0-clause-greatest g c =
    let i : ℕ = c.loop-i.i - 1 in
    let place : ℕ = 64 * i + (63 - leading_zeros w64 (slice_index c.self.inside.words i)) in
    subst (λ s. (q : ℕ) → set.contains s q ≡ true → q ≤ place) c.self.view_is
    (greatest_is g.row.W i c.self.inside.words c.self.invariant (λ k h. c.loop-i.invariant.none k (omega arith)) c.if-word-ne0.true).1

pub returns-then-word-ne0-clause-within : goal.returns-then-word-ne0-clause-within
returns-then-word-ne0-clause-within g c = subst (IsWithin (64 * g.row.W)) c.self.view_is (members_of-within g.row.W c.self.inside.words c.self.told)

pub returns-clause-there : goal.returns-clause-there
returns-clause-there g c =
    sym c.self.view_is ∙ none_is g.row.W c.self.inside.words c.self.told (λ i h. c.loop-i.invariant.none i (omega (arith, c.loop-i-test.false)))

pub returns-clause-within : goal.returns-clause-within
returns-clause-within g c = subst (IsWithin (64 * g.row.W)) c.self.view_is (members_of-within g.row.W c.self.inside.words c.self.told)
