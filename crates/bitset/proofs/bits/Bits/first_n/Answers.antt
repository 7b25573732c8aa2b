use Rattle.std.proofs.Common.{rules, arith, nat_lt, le-ltb}
use Rattle.bitset.proofs.Operations.{FilledUpTo-start, FilledUpTo-more, AreWords-filled, first_is}
use Rattle.bitset.proofs.bits.Bits.first_n.Goals as goal

pub loop-i-init : goal.loop-i-init
loop-i-init g c = FilledUpTo-start (λ q. nat_lt q c.args.n) g.row.W 0 (λ q h. absurd (omega arith))

pub loop-i-preserved : goal.loop-i-preserved
loop-i-preserved g c =
    FilledUpTo-more (λ q. nat_lt q c.args.n) g.row.W c.loop-i.words c.loop-i.i _ c.loop-i-test.true (search rules) c.loop-i.invariant c.low_bits.ensures

pub invariant_of-result : goal.invariant_of-result
invariant_of-result g c =
    AreWords-filled (λ q. nat_lt q c.args.n) g.row.W c.loop-i.i c.loop-i.words (λ q far. le-ltb q c.args.n (omega (arith, c.ranges.n.fits))) c.loop-i.invariant

pub returns : goal.returns
returns g c = first_is g.row.W c.loop-i.i c.args.n c.loop-i.words c.requires c.loop-i-test.false c.loop-i.invariant
