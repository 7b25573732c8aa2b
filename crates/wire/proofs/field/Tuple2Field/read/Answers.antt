use Rattle.std.proofs.Common.{sym, ◌∙◌}
use Rattle.wire.proofs.ReadLemmas.{same_split}
use Rattle.wire.proofs.field.Tuple2Field.read.Goals as goal

pub returns-in_err-read : goal.returns-in_err-read
returns-in_err-read g c =
    let first = c.in_ok-first.first in
    let found = c.in_ok-first.ensures.found in
    let one_word = g.met.A.Word.is_one_word in
    rw c.from_residual-in_err-read.ensures (λ value fits is. c.in_err-read.ensures value.1 fits.1
    (same_split (g.A.Field.spelling first) c.in_ok-first.rest.now (g.A.Field.spelling value.0) (g.B.Field.spelling value.1)
    (one_word first found.0) (one_word value.0 fits.0) (sym found.1 ∙ is)).1)
