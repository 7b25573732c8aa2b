-- Why names can't be mined, by the names and ancestors of main.
use Rattle.std.specs.Prelude.{◌≡◌, ℕ, true, false, List, Contains, Option, MatchOption}
use Rattle.graphs.specs.Closures.{Closure, is_member, is_ancestor}
use Rattle.graph_model.specs.declared.names.Refusal.{Refusal}
use Rattle.graph_model.specs.Refusals.{IsFirst, MineRow}
use Rattle.levels.specs.Rings.{Ringed, IsMarked}

-- the name has an ancestor that isn't listed
abbrev pub LacksListed : Closure → List ℕ → ℕ → Type 0
LacksListed g ids id = (a : ℕ) × (is_ancestor g a id ≡ true) × (Contains ids a → ⊥)

-- the refusal that a list of names meets, if any
abbrev pub MineRefusalIs : Closure → List ℕ → Option Refusal → Type 0
MineRefusalIs g ids = MineRow (λ id. is_member g id ≡ false) (LacksListed g ids) ids

-- the first name of a list with a property, if one has it
abbrev pub FindsFirst : (ℕ → Type 0) → List ℕ → Option ℕ → Type 0
FindsFirst P ids found = MatchOption found ((id : ℕ) → Contains ids id → P id → ⊥) (λ id. IsFirst (λ before id. P id) ids id)

-- the name has an ancestor that isn't touched
abbrev pub LacksTouched : Closure → Ringed → ℕ → Type 0
LacksTouched g rings id = (a : ℕ) × (is_ancestor g a id ≡ true) × (IsMarked rings a → ⊥)
