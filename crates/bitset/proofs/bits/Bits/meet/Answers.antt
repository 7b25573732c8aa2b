use Rattle.std.proofs.Common.{bit_and, ap₂, ◌∙◌, refl}
use Rattle.std.specs.FinSet as fin
use Rattle.bitset.proofs.Operations.{meet_is, and_small, MadeUpTo-more, MadeUpTo-all, MadeUpTo-words}
use Rattle.bitset.proofs.bits.Bits.meet.Goals as goal

pub loop-i-preserved : goal.loop-i-preserved
loop-i-preserved g c = MadeUpTo-more bit_and g.row.W _ _ c.loop-i.words c.loop-i.i c.loop-i-test.true c.loop-i.invariant

pub invariant_of-result : goal.invariant_of-result
invariant_of-result g c =
    MadeUpTo-words bit_and refl and_small g.row.W c.loop-i.i _ _ c.loop-i.words c.self.invariant c.other.invariant c.loop-i-test.false c.loop-i.invariant

pub returns : goal.returns
returns g c =
    meet_is _ _ c.loop-i.words
    (MadeUpTo-all bit_and refl g.row.W c.loop-i.i _ _ c.loop-i.words c.self.invariant c.other.invariant c.loop-i-test.false c.loop-i.invariant)
    ∙ ap₂ fin.intersection c.self.view_is c.other.view_is
