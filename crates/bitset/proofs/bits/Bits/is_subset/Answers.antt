use Rattle.std.proofs.Common.{rules, sym, ap₂, ◌∙◌, arith}
use Rattle.std.specs.FinSet as fin
use Rattle.bitset.proofs.Operations.{subset_is, not_subset_is}
use Rattle.bitset.proofs.bits.Bits.is_subset.Goals as goal

pub returns-then-self-i-ne0 : goal.returns-then-self-i-ne0
returns-then-self-i-ne0 g c =
    sym (not_subset_is g.row.W c.loop-i.i c.self.inside.words c.other.inside.words c.other.invariant c.if-self-i-ne0.true (search rules))
    ∙ ap₂ fin.is_subset c.self.view_is c.other.view_is

pub returns : goal.returns
returns g c =
    sym (subset_is g.row.W c.self.inside.words c.other.inside.words c.self.invariant c.other.invariant
    (λ i h. c.loop-i.invariant i (omega (arith, c.loop-i-test.false))))
    ∙ ap₂ fin.is_subset c.self.view_is c.other.view_is
