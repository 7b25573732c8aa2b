use Rattle.wire.proofs.NumberLemmas.{no_number, minus_unread, plain_unread}
use Rattle.wire.proofs.numbers.signed_number.Goals as goal

pub returns-in_err-number-in-Some : goal.returns-in_err-number-in-Some
returns-in_err-number-in-Some g c =
    let of_type = g.N.Magnitude in
    let laws = g.met.N.Magnitude in
    let none = no_number of_type.value of_type.limit c.in-Some.rest.now laws.reached c.in_err-number-in-Some.ensures in
    rw c.from_residual.ensures (λ number fits is.
    minus_unread of_type.limit c.args.bytes.now c.in-Some.rest.now laws.small c.in-Some.ensures none
    (of_type.signed_value number) (laws.within number fits) is)

pub returns-in_err-number-in-None : goal.returns-in_err-number-in-None
returns-in_err-number-in-None g c =
    let of_type = g.N.Magnitude in
    let laws = g.met.N.Magnitude in
    let none = no_number of_type.value of_type.limit c.args.bytes.now laws.reached c.in_err-number-in-None.ensures in
    rw c.from_residual-in_err-number-in-None.ensures (λ number fits is.
    plain_unread of_type.limit c.args.bytes.now c.in-None.ensures none (of_type.signed_value number) (laws.within number fits) is)
