-- The words of the command line.
use Rattle.std.specs.Prelude.{ℕ, ◌^◌, ◌<◌, ◌≤◌, List, [], ◌∷◌, codes, decimal}

-- what the program may be asked for: to answer lines of commands, to check a certificate, to load a graph, or to run generated commands
pub data Asked : Type 0 where
  Replays : Asked
  Checks : Asked
  Loads : Asked
  Generates : (seed count : ℕ) → Asked

-- the words that ask for it in the plainest way, behind the program's name
abbrev pub asked_words : Asked → List (List ℕ)
asked_words Replays = codes "replay" ∷ []
asked_words Checks = codes "check" ∷ []
asked_words Loads = codes "load" ∷ []
asked_words (Generates seed count) = codes "gen" ∷ decimal seed ∷ decimal count ∷ []

-- seeds are below 2^31, and at most a million commands are generated
abbrev pub HasRange : Asked → Type 0
HasRange (Generates seed count) = (seed < 2 ^ 31) × (count ≤ 1000000)
HasRange asked = Unit {0}
