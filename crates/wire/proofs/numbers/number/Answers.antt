use Rattle.std.proofs.Common.{sym, ◌∙◌, refl, arith}
use Rattle.std.proofs.lemmas.Bool.{false≢true}
use Rattle.wire.proofs.NumberLemmas.{number_reads, plain_big}
use Rattle.wire.proofs.numbers.number.Goals as goal

pub returns-then-is_plain : goal.returns-then-is_plain
returns-then-is_plain g c = number_reads g.N.Magnitude.value g.N.Magnitude.limit c.args.bytes.now c.digits.result
    g.met.N.Magnitude.small (c.if-is_plain.ensures.0 refl) c.digits.ensures

pub returns-else-is_plain : goal.returns-else-is_plain
returns-else-is_plain g c number below is =
    let plain = plain_big c.args.bytes.now (g.N.Magnitude.value number) (omega (arith, below, g.met.N.Magnitude.small)) is in
    false≢true (sym c.if-is_plain.false ∙ c.is_plain.ensures.1 plain)
