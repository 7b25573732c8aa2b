use Rattle.std.proofs.Common.{◌≡◌, ◌*◌, ◌+◌, ◌-◌, get_or, drop, suc, drop-cons, ap, ◌∙◌, arith}
use Rattle.wire.specs.Digits.{read_on}
use Rattle.wire.proofs.NumberLemmas.{read_on-le}
use Rattle.wire.proofs.numbers.digits.Goals as goal

pub returns-in-None : goal.returns-in-None
returns-in-None g c digits small =
    let at = c.loop-byte.byte-index in
    let value = g.N.Magnitude.value c.loop-byte.value in
    let next = 10 * value + (get_or c.args.bytes.now at 0 - 48) in
    let is : read_on 0 c.args.bytes.now ≡ read_on next (drop (suc at) c.args.bytes.now) =
    c.loop-byte.invariant.value ∙ ap (read_on value) (drop-cons c.args.bytes.now at 0 c.loop-byte-test.true) in
    c.in-None.ensures (omega (arith, small, is, read_on-le next (drop (suc at) c.args.bytes.now)))
