use Rattle.std.specs.Result.{IfOk}
use Rattle.std.specs.declared.result.Result.{Result}
use Rattle.std.specs.declared.result.Result.TheVariants.{Ok, Err}
use Rattle.outside.specs.declared.errors.NoMemory.{NoMemory}
use Rattle.wire.specs.Drafts.{text_of}
use Rattle.verification.specs.declared.verifying.Said.{Said}
use Rattle.verification.specs.Verdicts.{verification_of, IsSaidOf, IsVerified}
use Rattle.verification.proofs.CheckLemmas.{verified, no_text}
use Rattle.verification.proofs.verifying.verify.Goals as goal

pub returns-in-Ok : goal.returns-in-Ok
returns-in-Ok c = carried c.judge.result c.judge.ensures
  where
    carried : (r : Result Said NoMemory) → IfOk r (IsSaidOf (text_of c.in-Ok.text)) → IfOk r (λ said. IsVerified c.args.bytes.now (verification_of said))
    carried (Ok said) h = verified c.args.bytes.now (text_of c.in-Ok.text) said c.in-Ok.ensures.text h
    carried (Err e) h = tt

pub returns-in-Err-Syntax : goal.returns-in-Err-Syntax
returns-in-Err-Syntax c = no_text c.args.bytes.now (c.in-Err-Syntax.ensures.syntax (λ i. Err (c.in-Err-Syntax.field-0-is i)))
