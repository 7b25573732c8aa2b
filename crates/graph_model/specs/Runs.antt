-- Runs over commands, and over lines, from bytes to bytes.
use Rattle.std.specs.Prelude.{◌≡◌, ℕ, ◌<◌, ◌≤◌, List, [], ◌∷◌, flat_map, length, codes}
use Rattle.graph_model.specs.States.{PlainState, Picks, State, start}
use Rattle.graph_model.specs.Words.{line_text}
use Rattle.graph_model.specs.Commands.{Command}
use Rattle.graph_model.specs.Replies.{Reply, text_of}
use Rattle.graph_model.specs.Steps.{PlainStep, Step}
use Rattle.graph_model.specs.Lines.{Quiet, Says, NoForm, Means, max_line}

-- from old, these inputs may get these outputs, one each in their order, by steps that lead to new
abbrev pub RunBy : {S I O : Type 0} → (S → I → O → S → Type 0) → S → List I → List O → S → Type 0
RunBy step old [] [] new = new ≡ old
RunBy {S} step old (i ∷ is) (o ∷ os) new = (next : S) × step old i o next × RunBy step next is os new
RunBy step old [] (o ∷ os) new = ⊥
RunBy step old (i ∷ is) [] new = ⊥

-- commands, one after another
abbrev pub CommandsRun : State → List Command → List Reply → State → Type 0
CommandsRun = RunBy Step

-- a step of the plain state alone, whatever the picks are: one of a command that reads no pick
abbrev pub BuiltStep : PlainState → Command → Reply → PlainState → Type 0
BuiltStep old command reply new = (picks : Picks) → PlainStep picks old command reply new

-- what a line is answered
pub data Answer : Type 0 where
  Silence : Answer
  TooLong : Answer
  Unread : Answer
  Replies : (reply : Reply) → Answer

-- from old, a line may get this answer and lead to new
abbrev pub LineStep : State → List ℕ → Answer → State → Type 0
LineStep old line Silence new = (length line ≤ max_line) × Means line Quiet × (new ≡ old)
LineStep old line TooLong new = (max_line < length line) × (new ≡ old)
LineStep old line Unread new = (length line ≤ max_line) × Means line NoForm × (new ≡ old)
LineStep old line (Replies reply) new =
    (length line ≤ max_line) × (command : Command) × Means line (Says command) × Step old command reply new

-- the text of an answer: nothing, or its lines
abbrev pub answer_text : Answer → List ℕ
answer_text Silence = []
answer_text TooLong = line_text (codes "refused line")
answer_text Unread = line_text (codes "refused syntax")
answer_text (Replies reply) = text_of reply

-- from old, the lines may get these answers, one a line in their order, and lead to new
abbrev pub Run : State → List (List ℕ) → List Answer → State → Type 0
Run = RunBy LineStep

-- the text may be the output of a run over these lines, from the start, where a cluster may be allowed so many names
abbrev pub MayWrite : ℕ → List (List ℕ) → List ℕ → Type 0
MayWrite most lines text = (answers : List Answer) × (end : State) × Run (start most) lines answers end × (text ≡ flat_map answer_text answers)
