-- Lists of numbers that rise.
use Rattle.std.specs.Prelude.{ℕ, ◌<◌, List, [], ◌∷◌}

-- a number is below all of a list
abbrev pub AllAbove : ℕ → List ℕ → Type 0
AllAbove x [] = Unit {0}
AllAbove x (y ∷ ys) = (x < y) × AllAbove x ys

-- each number is below all that follow it
abbrev pub IsRising : List ℕ → Type 0
IsRising [] = Unit {0}
IsRising (x ∷ xs) = AllAbove x xs × IsRising xs
