-- What a write does to the bytes that a sink was given, where the sink tells them.
use Rattle.std.specs.Prelude.{◌≡◌, ℕ, ◌<◌, ◌≤◌, List, ◌++◌, length, IfOk, OnOk, OnErr}
use Rattle.std.specs.Io.KnownBytes.{Appends}
use Rattle.std.specs.declared.option.Option.{Option}
use Rattle.std.specs.declared.result.Result.{Result}
use Rattle.outside.specs.Faults.{CountsFaults}

-- front is how text begins, or all of it
abbrev pub IsFront : List ℕ → List ℕ → Type 0
IsFront front text = (rest : List ℕ) × (front ++ rest ≡ text)

-- at most the whole piece was taken, and some of a piece that isn't empty
abbrev pub TakesSome : {E : Type 0} → Result ℕ E → List ℕ → Type 0
TakesSome result piece = IfOk result (λ count. (count ≤ length piece) × (0 < length piece → 0 < count))

-- the known bytes grew by a front of the text
abbrev pub AppendsFront : Option (List ℕ) → Option (List ℕ) → List ℕ → Type 0
AppendsFront old new text = (front : List ℕ) × IsFront front text × Appends old new front

-- What every writer does: at Ok the whole text was written and the sink's faults are as they were, at Err a front of it,
-- and they rose by one: the writer stops at the first write that fails.
pub record Writes {T E : Type 0} (old new : Option (List ℕ)) (before now : ℕ) (result : Result T E) (text : List ℕ) : Type 0 where
  pub ok : OnOk result (Appends old new text)
  pub err : OnErr result (AppendsFront old new text)
  pub cause : CountsFaults before now result
