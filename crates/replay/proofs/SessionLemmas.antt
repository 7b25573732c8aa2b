-- One line of a session.
use Rattle.std.proofs.Common.{ℕ, ◌≤◌, List, length, subst, sym, refl}
use Rattle.graph_model.specs.Lines.{Meaning, Quiet, Says, NoForm, Means, max_line}
use Rattle.graph_model.specs.Runs.{Answer}
use Rattle.reorg.specs.Kept.{Kept, StandsFor}
use Rattle.replay.specs.Answers.{AnswersMeaning}
use Rattle.replay.specs.Requests.{MinesSome}
use Rattle.replay.specs.Sessions.{Answers, Suits}

-- what a line means is answered from every state that the graph stood for
pub meaning_answers : (old new : Kept) (line : List ℕ) (meaning : Meaning) (answer : Answer) → length line ≤ max_line → Means line meaning
    → AnswersMeaning meaning old new answer → Answers old new line answer
meaning_answers old new line Quiet answer short means (is, same) state stands =
    (state, subst (λ (k : Kept). StandsFor k state) (sym same) stands, rw is (short, means, refl))
meaning_answers old new line NoForm answer short means (is, same) state stands =
    (state, subst (λ (k : Kept). StandsFor k state) (sym same) stands, rw is (short, means, refl))
meaning_answers old new line (Says command) answer short means (reply, steps, is) state stands =
    let step = steps state stands in (step.0, step.1, rw is (short, command, means, step.2))

-- and by the line alone
pub meaning_suits : (old new : Kept) (line : List ℕ) (meaning : Meaning) (answer : Answer) → length line ≤ max_line → Means line meaning
    → AnswersMeaning meaning old new answer → Suits line answer
meaning_suits old new line Quiet answer short means (is, same) = rw is (short, means)
meaning_suits old new line NoForm answer short means (is, same) = rw is (short, means)
meaning_suits old new line (Says command) answer short means (reply, steps, is) = rw is (short, command, means)

-- a line that spells `mine` lists some transaction
pub some_mined : (line : List ℕ) (meaning : Meaning) → Means line meaning → MinesSome meaning
some_mined line meaning means is = (subst (Means line) is means).1.1.0 refl
