use Rattle.std.proofs.Common.{sym, ◌∙◌}
use Rattle.wire.proofs.ReadLemmas.{same_split, split_unread}
use Rattle.wire.proofs.field.first_word.Goals as goal

pub returns-in_err-word-clause-none : goal.returns-in_err-word-clause-none
returns-in_err-word-clause-none g c = rw c.from_residual.ensures (λ value rest fits is.
    split_unread c.args.text.now (g.A.Field.spelling value) rest c.in_err-word.ensures.none is)

pub returns-in_err-read-clause-none : goal.returns-in_err-read-clause-none
returns-in_err-read-clause-none g c =
    let cut = c.in_ok-word.ensures.found in
    rw c.from_residual-in_err-read.ensures (λ value rest fits is. c.in_err-read.ensures value fits
    (same_split c.in_ok-word.word.now c.in_ok-word.rest.now (g.A.Field.spelling value) rest cut.1 (g.met.A.Word.is_one_word value fits) (sym cut.0 ∙ is)).0)
