use Rattle.std.proofs.Common.{bit_or, ap₂, ◌∙◌, refl}
use Rattle.std.specs.FinSet as fin
use Rattle.bitset.proofs.Operations.{union_is, or_small, MadeUpTo-more, MadeUpTo-all, MadeUpTo-words}
use Rattle.bitset.proofs.bits.Bits.union.Goals as goal

pub loop-i-preserved : goal.loop-i-preserved
loop-i-preserved g c = MadeUpTo-more bit_or g.row.W _ _ c.loop-i.words c.loop-i.i c.loop-i-test.true c.loop-i.invariant

pub invariant_of-result : goal.invariant_of-result
invariant_of-result g c =
    MadeUpTo-words bit_or refl or_small g.row.W c.loop-i.i _ _ c.loop-i.words c.self.invariant c.other.invariant c.loop-i-test.false c.loop-i.invariant

pub returns : goal.returns
returns g c =
    union_is _ _ c.loop-i.words
    (MadeUpTo-all bit_or refl g.row.W c.loop-i.i _ _ c.loop-i.words c.self.invariant c.other.invariant c.loop-i-test.false c.loop-i.invariant)
    ∙ ap₂ fin.union c.self.view_is c.other.view_is
