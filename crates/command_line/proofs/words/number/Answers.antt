use Rattle.std.proofs.Common.{refl}
use Rattle.std.specs.Str.Parse.{ParsesUnsigned, ExplainsUnsignedError, HasUnsignedDigitsIfOk}
use Rattle.clap.specs.Words.{found_of, one_text}
use Rattle.command_line.proofs.AskLemmas.{read_number}
use Rattle.command_line.proofs.words.number.Goals as goal

pub returns : goal.returns
returns c =
    read_number (found_of c.args.given.now) c.args.id.now (λ bs r. ParsesUnsigned 64 10 bs r × ExplainsUnsignedError 10 bs r × HasUnsignedDigitsIfOk bs r) (λ t r gives. gives.0) c.get_one.result (one_text (found_of c.args.given.now) c.args.id.now) refl
    c.get_one.ensures.none c.get_one.ensures.value
