-- Replies that gather before a sink.
use Rattle.std.specs.Prelude.{◌≡◌, ℕ, List, ◌++◌, IfOk, OnOk, OnErr}
use Rattle.std.specs.Io.KnownBytes.{Appends}
use Rattle.std.specs.declared.option.Option.{Option}
use Rattle.std.specs.declared.option.Option.TheVariants.{None, Some}
use Rattle.std.specs.declared.result.Result.{Result}
use Rattle.outside.specs.Transfers.{AppendsFront}
use Rattle.graph_model.specs.Runs.{Answer, answer_text}
use Rattle.replay.specs.declared.answer.Outcome.{Outcome}
use Rattle.replay.specs.Answers.{outcome_of}

-- a sink, and what is held before it
pub record Outlet (K : Type 0) : Type 0 where
  pub sink : K
  pub held : List ℕ

-- the known bytes are those at first, and then some
abbrev pub Grows : Option (List ℕ) → Option (List ℕ) → Type 0
Grows first now = (out : List ℕ) × Appends first now out

-- some of what was held went out, and the rest is held
abbrev pub Sends : Option (List ℕ) → Option (List ℕ) → List ℕ → List ℕ → Type 0
Sends old new held left = (out : List ℕ) × (held ≡ out ++ left) × Appends old new out

-- Where the sink tells its bytes: of all these some went out, and the rest is held.
abbrev pub HasSent : Option (List ℕ) → Option (List ℕ) → List ℕ → List ℕ → Type 0
HasSent None new all left = Unit {0}
HasSent (Some x) None all left = ⊥
HasSent (Some x) (Some y) all left = (out : List ℕ) × (all ≡ out ++ left) × (y ≡ x ++ out)

-- What telling a text does: at Ok some of what was held and of the text went out, and the rest is held; at Err a front of them went out.
pub record Gathers {T E : Type 0} (old new : Option (List ℕ)) (held left : List ℕ) (result : Result T E) (text : List ℕ) : Type 0 where
  pub ok : OnOk result (HasSent old new (held ++ text) left)
  pub err : OnErr result (AppendsFront old new (held ++ text))

-- the text of an answer of which this is so gathered, and its outcome is told
abbrev pub GathersAnswer : {E : Type 0} → (Answer → Type 0) → Option (List ℕ) → Option (List ℕ) → List ℕ → List ℕ → Result Outcome E → Type 0
GathersAnswer IsSo old new held left result =
    (answer : Answer) × IsSo answer × Gathers old new held left result (answer_text answer) × IfOk result (λ outcome. outcome ≡ outcome_of answer)
