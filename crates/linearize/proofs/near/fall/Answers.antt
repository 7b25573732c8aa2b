use Rattle.std.proofs.Common.{arith}
use Rattle.linearize.proofs.Falling.{all_fall, one_more}
use Rattle.linearize.proofs.near.fall.Goals as goal

pub returns : goal.returns
returns c = λ _. all_fall c.args.parts.now (λ i x y low.
    c.loop-at.invariant.1 i x y (let past = c.loop-at-test.false in omega (arith, low, past)))

pub loop-at-preserved : goal.loop-at-preserved
loop-at-preserved c =
    (omega arith, one_more c.args.parts.now c.loop-at.at _ _ c.loop-at.invariant.1 (c.if-is_lower.ensures))
