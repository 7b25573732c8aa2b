use Rattle.std.proofs.Common.{rules, ◌≡◌, codes}
use Rattle.std.proofs.lemmas.Result.{IfErr-weaker}
use Rattle.clap.specs.Words.{found_of, rows_of}
use Rattle.command_line.proofs.AskLemmas.{gen_refused}
use Rattle.command_line.proofs.words.named.Goals as goal

pub returns-then-eq-4-clause-refused : goal.returns-then-eq-4-clause-refused
returns-then-eq-4-clause-refused c =
    let is : c.args.name.now ≡ codes "gen" = search rules in
    IfErr-weaker c.generated_by.result _ _
    (λ fault none. gen_refused c.args.name.now (rows_of (found_of c.args.given.now)) c.number-seed.result c.number-count.result is c.number-seed.ensures
    c.number-count.ensures none) c.generated_by.ensures.refused
