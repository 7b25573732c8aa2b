use Rattle.std.proofs.Common.{◌∙◌}
use Rattle.program.proofs.WordLemmas.{all_taken}
use Rattle.program.proofs.words.words.Goals as goal

pub returns-in_ok-collect-in-Ok : goal.returns-in_ok-collect-in-Ok
returns-in_ok-collect-in-Ok c =
    let ran = c.in_ok-collect-in-Ok.ensures.ran in
    let end = ran.1.2 tt in
    rw c.in-Ok.is (ran.2.0 ∙ all_taken c.in-Ok.args ran.0 ran.1.0 end.0 ran.1.1 end.1)
