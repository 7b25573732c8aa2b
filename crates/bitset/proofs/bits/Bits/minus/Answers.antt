use Rattle.std.proofs.Common.{ap₂, ◌∙◌, refl}
use Rattle.std.specs.FinSet as fin
use Rattle.bitset.proofs.Operations.{minus_is, without_small, MadeUpTo-more, MadeUpTo-all, MadeUpTo-words, without}
use Rattle.bitset.proofs.bits.Bits.minus.Goals as goal

pub loop-i-preserved : goal.loop-i-preserved
loop-i-preserved g c = MadeUpTo-more without g.row.W _ _ c.loop-i.words c.loop-i.i c.loop-i-test.true c.loop-i.invariant

pub invariant_of-result : goal.invariant_of-result
invariant_of-result g c =
    MadeUpTo-words without refl without_small g.row.W c.loop-i.i _ _ c.loop-i.words c.self.invariant c.other.invariant c.loop-i-test.false c.loop-i.invariant

pub returns : goal.returns
returns g c =
    minus_is g.row.W _ _ c.loop-i.words c.other.invariant
    (MadeUpTo-all without refl g.row.W c.loop-i.i _ _ c.loop-i.words c.self.invariant c.other.invariant c.loop-i-test.false c.loop-i.invariant)
    ∙ ap₂ fin.difference c.self.view_is c.other.view_is
