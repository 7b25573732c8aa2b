-- Words and lines, of which commands, replies and certificate texts are made.
use Rattle.std.specs.Prelude.{ℕ, List, [], ◌∷◌, ◌++◌, codes}
use Rattle.graphs.specs.declared.names.Level.{Level}
use Rattle.graphs.specs.declared.names.Level.TheVariants.{Main, Top}

-- words with one space between them
abbrev pub spaced : List (List ℕ) → List ℕ
spaced [] = []
spaced (word ∷ []) = word
spaced (word ∷ next ∷ words) = word ++ 32 ∷ spaced (next ∷ words)

-- a line of text, with its line feed
abbrev pub line_text : List ℕ → List ℕ
line_text bytes = bytes ++ 10 ∷ []

abbrev pub level_word : Level → List ℕ
level_word Main = codes "main"
level_word Top = codes "top"
