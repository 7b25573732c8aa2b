-- How bytes are cut into lines, and what a line says.
use Rattle.std.specs.Prelude.{◌≡◌, ◌≢◌, ℕ, Bool, true, false, ◌==◌, if◌then◌else◌, List, [], ◌∷◌, ◌++◌, flat_map, All}
use Rattle.graph_model.specs.Commands.{Command, words_of, HasTypes}
use Rattle.graph_model.specs.Words.{spaced, line_text}
use Rattle.graph_model.specs.declared.limits.TheConstants.{MAX_LINE, MAX_INPUT}

-- no byte is a line feed
abbrev pub IsOneLine : List ℕ → Type 0
IsOneLine bytes = All (λ byte. byte ≢ 10) bytes

-- the bytes are these lines, each ended by a line feed, and then a rest without one
pub record Cut (bytes : List ℕ) (lines : List (List ℕ)) (rest : List ℕ) : Type 0 where
  pub whole : bytes ≡ flat_map line_text lines ++ rest
  pub each : All IsOneLine lines
  pub last : IsOneLine rest

-- at the end of the input a rest that isn't empty is a line too
abbrev pub with_last : List (List ℕ) → List ℕ → List (List ℕ)
with_last lines [] = lines
with_last lines (byte ∷ rest) = lines ++ (byte ∷ rest) ∷ []

-- the most bytes that a line may have, and the most that are read
abbrev pub max_line : ℕ
max_line = MAX_LINE

abbrev pub max_input : ℕ
max_input = MAX_INPUT

-- a line without the carriage return at its end, if it has one there
abbrev pub without_return : List ℕ → List ℕ
without_return [] = []
without_return (byte ∷ []) = if byte == 13 then [] else byte ∷ []
without_return (byte ∷ next ∷ bytes) = byte ∷ without_return (next ∷ bytes)

-- an empty line, or one that begins with `#`
abbrev pub is_quiet : List ℕ → Bool
is_quiet [] = true
is_quiet (byte ∷ bytes) = byte == 35

-- what a line says
pub data Meaning : Type 0 where
  Quiet : Meaning
  Says : (command : Command) → Meaning
  NoForm : Meaning

-- the text is the one spelling of the command
abbrev pub Spells : List ℕ → Command → Type 0
Spells text command = (text ≡ spaced (words_of command)) × HasTypes command

-- a line, without its line feed, means this
abbrev pub Means : List ℕ → Meaning → Type 0
Means line Quiet = is_quiet (without_return line) ≡ true
Means line (Says command) = (is_quiet (without_return line) ≡ false) × Spells (without_return line) command
Means line NoForm = (is_quiet (without_return line) ≡ false) × ((command : Command) → Spells (without_return line) command → ⊥)
