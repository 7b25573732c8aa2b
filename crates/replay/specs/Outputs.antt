-- What is written for an input.
use Rattle.std.specs.Prelude.{◌≡◌, ℕ, List, ◌++◌, flat_map, All, ◌⊎◌, Bool, true, false}
use Rattle.std.specs.Io.KnownBytes.{Appends}
use Rattle.std.specs.declared.option.Option.{Option}
use Rattle.outside.specs.Transfers.{AppendsFront}
use Rattle.graph_model.specs.Words.{line_text}
use Rattle.graph_model.specs.Lines.{Cut, IsOneLine, with_last}
use Rattle.graph_model.specs.Runs.{MayWrite}
use Rattle.replay.specs.declared.session.TheConstants.{MOST_NAMES}

-- the lines of an input: the complete ones, and at the end of the source what follows the last line feed
abbrev pub lines_read : Bool → List (List ℕ) → List ℕ → List (List ℕ)
lines_read true lines rest = with_last lines rest
lines_read false lines rest = lines

-- The text is the output of a run over all lines of the input.
pub record IsOutput (ended : Bool) (input text : List ℕ) : Type 0 where
  pub lines : List (List ℕ)
  pub rest : List ℕ
  pub cut : Cut input lines rest
  pub run : MayWrite MOST_NAMES (lines_read ended lines rest) text

-- the input begins with these lines, each ended by a line feed
pub record BeginsWith (input : List ℕ) (lines : List (List ℕ)) : Type 0 where
  pub after : List ℕ
  pub whole : input ≡ flat_map line_text lines ++ after
  pub each : All IsOneLine lines

-- the lines are the first ones of the input
abbrev pub AreFirst : Bool → List ℕ → List (List ℕ) → Type 0
AreFirst false input lines = BeginsWith input lines
AreFirst true input lines = BeginsWith input lines ⊎ ((all : List (List ℕ)) × (rest : List ℕ) × Cut input all rest × (lines ≡ with_last all rest))

-- What was written is a front of the output of a run over the first lines of the input.
pub record WritesFront (ended : Bool) (input : List ℕ) (old new : Option (List ℕ)) : Type 0 where
  pub lines : List (List ℕ)
  pub first : AreFirst ended input lines
  pub text : List ℕ
  pub run : MayWrite MOST_NAMES lines text
  pub front : AppendsFront old new text

-- What was written is the output of a run over all lines of the input.
pub record WritesOutput (ended : Bool) (input : List ℕ) (old new : Option (List ℕ)) : Type 0 where
  pub text : List ℕ
  pub output : IsOutput ended input text
  pub written : Appends old new text
