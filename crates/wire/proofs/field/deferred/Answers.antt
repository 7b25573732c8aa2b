use Rattle.std.proofs.Common.{sym, ◌∙◌}
use Rattle.std.proofs.lemmas.Bool.{false≢true}
use Rattle.wire.proofs.DeferLemmas.{other_unread, front_unread, front_read}
use Rattle.wire.proofs.field.deferred.Goals as goal

pub returns-then-not-is_defer : goal.returns-then-not-is_defer
returns-then-not-is_defer c = other_unread c.args.word.now c.args.rest.now c.requires
    (λ is. false≢true (sym c.if-not-is_defer.true ∙ c.is_defer.ensures.1 is))

pub returns-in_err-number : goal.returns-in_err-number
returns-in_err-number c = rw c.from_residual.ensures (front_unread c.args.word.now c.args.rest.now c.requires c.in_err-number.ensures)

pub returns : goal.returns
returns c = front_read c.args.word.now c.args.rest.now _ c.in_ok-number.ensures (c.is_defer.ensures.0 c.if-not-is_defer.false)
