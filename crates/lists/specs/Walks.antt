-- Walks of any length along a relation, over any type of vertex.
use Rattle.std.specs.Prelude.{◌≡◌, List, [], ◌∷◌, Contains}

-- from a over the vertices of the list, of which the last is b
abbrev pub IsWalk : {V : Type 0} → (V → V → Type 0) → V → List V → V → Type 0
IsWalk step a [] b = a ≡ b
IsWalk step a (v ∷ vs) b = step a v × IsWalk step v vs b

-- some walk leads from a to b; that of length 0 leads from a to itself
abbrev pub Walk : {V : Type 0} → (V → V → Type 0) → V → V → Type 0
Walk {V} step a b = (vs : List V) × IsWalk step a vs b

-- a step along one of the pairs, from its first to its second
abbrev pub Along : {V : Type 0} → List (V × V) → V → V → Type 0
Along pairs a b = Contains pairs (a, b)
