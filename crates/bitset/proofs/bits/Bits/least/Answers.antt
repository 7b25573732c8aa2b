use Rattle.std.proofs.Common.{sym, subst, ◌∙◌, ◌*◌, ◌+◌, slice_index, w64, arith}
use Rattle.std.specs.Int.{trailing_zeros}
use Rattle.bitset.specs.Places.{IsLeast, IsWithin}
use Rattle.bitset.proofs.Operations.{least_is, none_is, members_of-within}
use Rattle.bitset.proofs.bits.Bits.least.Goals as goal

pub returns-then-word-ne0-clause-least : goal.returns-then-word-ne0-clause-least
returns-then-word-ne0-clause-least g c =
    subst (λ s. IsLeast s (64 * c.loop-i.i + trailing_zeros w64 (slice_index c.self.inside.words c.loop-i.i))) c.self.view_is
    (least_is g.row.W c.loop-i.i c.self.inside.words c.self.invariant c.loop-i.invariant c.if-word-ne0.true)

pub returns-then-word-ne0-clause-within : goal.returns-then-word-ne0-clause-within
returns-then-word-ne0-clause-within g c = subst (IsWithin (64 * g.row.W)) c.self.view_is (members_of-within g.row.W c.self.inside.words c.self.told)

pub returns-clause-least : goal.returns-clause-least
returns-clause-least g c =
    sym c.self.view_is ∙ none_is g.row.W c.self.inside.words c.self.told (λ i h. c.loop-i.invariant i (omega (arith, c.loop-i-test.false)))

pub returns-clause-within : goal.returns-clause-within
returns-clause-within g c = subst (IsWithin (64 * g.row.W)) c.self.view_is (members_of-within g.row.W c.self.inside.words c.self.told)
