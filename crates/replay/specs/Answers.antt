-- Answers as the session keeps them.
use Rattle.std.specs.Prelude.{◌≡◌, ℕ, List, IfOk, Ok, Err}
use Rattle.std.specs.declared.option.Option.{Option}
use Rattle.std.specs.declared.result.Result.{Result}
use Rattle.outside.specs.Transfers.{Writes}
use Rattle.graph_model.specs.Commands.{Command}
use Rattle.graph_model.specs.Lines.{Meaning, Quiet, NoForm, Says}
use Rattle.graph_model.specs.declared.names.Refusal.{Refusal}
use Rattle.graph_model.specs.Refusals.{number_of}
use Rattle.graph_model.specs.Replies.{Reply, Refused, Done, Ids, Number, Stands, Compared, Settled, Evicted, Built, Trimmed, Unmined, picked_sum}
use Rattle.graph_model.specs.Runs.{answer_text}
use Rattle.graph_model.specs.Runs as runs
use Rattle.tx_graph.specs.Kept as graphs
use Rattle.reorg.specs.Kept.{Kept, MakesStep}
use Rattle.replay.specs.declared.answer.Answer.{Answer}
use Rattle.replay.specs.declared.answer.Answer.TheVariants as kept
use Rattle.replay.specs.declared.answer.Outcome.{Outcome}
use Rattle.replay.specs.declared.answer.Outcome.TheVariants as outcomes
use Rattle.replay.specs.Requests.{reading_command}

-- the command may be answered so, where the graph goes from the one value to the other
abbrev pub IsStepOf : Kept → Kept → Command → runs.Answer → Type 0
IsStepOf old new command answer = (reply : Reply) × MakesStep old new command reply × (answer ≡ runs.Replies reply)

-- the command may be answered so, and leaves the graph as it is
abbrev pub IsReadOf : Kept → Command → runs.Answer → Type 0
IsReadOf kept = IsStepOf kept kept

-- the same of a graph alone
abbrev pub IsReadOfGraph : graphs.Kept → Command → runs.Answer → Type 0
IsReadOfGraph graph command answer = (reply : Reply) × graphs.MakesStep graph graph command reply × (answer ≡ runs.Replies reply)

-- what a line means is answered so: a command by the reply of a step, and all else without a change of the graph
abbrev pub AnswersMeaning : Meaning → Kept → Kept → runs.Answer → Type 0
AnswersMeaning Quiet old new answer = (answer ≡ runs.Silence) × (new ≡ old)
AnswersMeaning NoForm old new answer = (answer ≡ runs.Unread) × (new ≡ old)
AnswersMeaning (Says command) old new answer = IsStepOf old new command answer

-- the answer to a line, with the graph as it is after the line and the names that were found in it
abbrev pub Tells : Kept → Answer → List ℕ → runs.Answer → Type 0
Tells graph kept.Silence found answer = answer ≡ runs.Silence
Tells graph kept.TooLong found answer = answer ≡ runs.TooLong
Tells graph kept.Unread found answer = answer ≡ runs.Unread
Tells graph (kept.Refused why) found answer = answer ≡ runs.Replies (Refused why)
Tells graph kept.Done found answer = answer ≡ runs.Replies Done
Tells graph kept.Names found answer = answer ≡ runs.Replies (Ids found)
Tells graph (kept.Number n) found answer = answer ≡ runs.Replies (Number n)
Tells graph (kept.Stands place) found answer = answer ≡ runs.Replies (Stands place)
Tells graph (kept.Compared verdict) found answer = answer ≡ runs.Replies (Compared verdict)
Tells graph (kept.Settled verdict) found answer = answer ≡ runs.Replies (Settled verdict)
Tells graph (kept.Evicted picked) found answer = answer ≡ runs.Replies (Evicted (picked_sum picked) picked.ids)
Tells graph (kept.Block picked) found answer = answer ≡ runs.Replies (Built (picked_sum picked) picked.ids)
Tells graph (kept.Trimmed picked) found answer = answer ≡ runs.Replies (Trimmed (picked_sum picked) picked.ids)
Tells graph (kept.Unmined ids) found answer = answer ≡ runs.Replies (Unmined ids)
Tells graph (kept.Reads reading) found answer = IsReadOf graph (reading_command reading) answer

-- the answer where a request may be refused
abbrev pub answer_of : Result Answer Refusal → Answer
answer_of (Ok answer) = answer
answer_of (Err why) = kept.Refused why

-- whatever the answer is, this is so of it
abbrev pub MayTell : Kept → Answer → List ℕ → (runs.Answer → Type 0) → Type 0
MayTell graph kept found IsSo = (answer : runs.Answer) → Tells graph kept found answer → IsSo answer

abbrev pub reply_outcome : Reply → Outcome
reply_outcome (Refused why) = outcomes.Refused (number_of why)
reply_outcome reply = outcomes.Accepted

-- what is told of an answer beside its text
abbrev pub outcome_of : runs.Answer → Outcome
outcome_of runs.Silence = outcomes.Quiet
outcome_of runs.TooLong = outcomes.Refused 1
outcome_of runs.Unread = outcomes.Refused 2
outcome_of (runs.Replies reply) = reply_outcome reply

-- the text of an answer of which this is so was written, and its outcome is told
abbrev pub WritesAnswer : {E : Type 0} → (runs.Answer → Type 0) → Option (List ℕ) → Option (List ℕ) → ℕ → ℕ → Result Outcome E → Type 0
WritesAnswer IsSo old new before now result =
    (answer : runs.Answer) × IsSo answer × Writes old new before now result (answer_text answer) × IfOk result (λ outcome. outcome ≡ outcome_of answer)
