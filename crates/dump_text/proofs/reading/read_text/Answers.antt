use Rattle.std.specs.declared.result.Result.TheVariants.{Err}
use Rattle.dump_text.proofs.Spelled.{confirmed_reads, none_spelled}
use Rattle.dump_text.proofs.reading.read_text.Goals as goal

pub returns-in-Ok : goal.returns-in-Ok
returns-in-Ok c =
    confirmed_reads c.args.bytes.now c.in-Ok.text c.confirmed.result c.in-Ok.ensures.text c.in-Ok.ensures.types c.confirmed.ensures

pub returns-in-Err-Syntax : goal.returns-in-Err-Syntax
returns-in-Err-Syntax c = none_spelled c.args.bytes.now (c.in-Err-Syntax.ensures.syntax (λ i. Err (c.in-Err-Syntax.field-0-is i)))
