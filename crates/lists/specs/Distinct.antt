-- Lists in which no entry stands twice.
use Rattle.std.specs.Prelude.{List, [], ◌∷◌, Contains}

-- no entry stands again later
abbrev pub AreDistinct : {A : Type 0} → List A → Type 0
AreDistinct [] = Unit {0}
AreDistinct (x ∷ xs) = (Contains xs x → ⊥) × AreDistinct xs
