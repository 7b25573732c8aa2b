-- The components that a change leaves as they are, and what their parts are after it.
use Rattle.std.specs.Prelude.{◌≡◌, ◌↔◌, ℕ, true, List, Contains}
use Rattle.graphs.specs.declared.names.Level.{Level}
use Rattle.graphs.specs.Certificates.{Part}
use Rattle.graphs.specs.Closures.{Closure, is_member, is_ancestor, rate_of, AreLinked}
use Rattle.graphs.specs.Merges.{Precedes}
use Rattle.levels.specs.Levels.{HavePicks, Levels, level_at}

-- These names are a component of a graph: they are its members, linked to each other and to no other name.
pub record IsComponent (graph : Closure) (ids : List ℕ) : Type 0 where
  pub members : (id : ℕ) → Contains ids id → is_member graph id ≡ true
  pub linked : (a b : ℕ) → Contains ids a → Contains ids b → AreLinked graph a b
  pub alone : (a b : ℕ) → Contains ids a → AreLinked graph a b → Contains ids b

-- They are one before a change and after it, with the same ancestors among them, and with the same fees and sizes.
pub record IsSameComponent (old new : Closure) (ids : List ℕ) : Type 0 where
  pub before : IsComponent old ids
  pub after : IsComponent new ids
  pub ancestors : (a d : ℕ) → Contains ids a → Contains ids d → is_ancestor new a d ≡ is_ancestor old a d
  pub rates : (id : ℕ) → Contains ids id → rate_of new id ≡ rate_of old id

-- the part has a name of a component that stays
abbrev pub IsOfSameComponent : Closure → Closure → Part → Type 0
IsOfSameComponent old new part = (ids : List ℕ) × (id : ℕ) × IsSameComponent old new ids × Contains ids id × Contains part.ids id

-- Components that stay keep their parts and flows, in their order. A part that has a name of one is among the parts before exactly where it is
-- among those after, with the same fee and size, the same names in their order and the same flows; and of two such parts, of one
-- component or of two, the one that stood first stands first.
pub record KeepsComponents (old : Closure) (before : List Part) (new : Closure) (after : List Part) : Type 0 where
  pub parts : (part : Part) → IsOfSameComponent old new part → Contains before part ↔ Contains after part
  pub in_order : (p q : Part) → IsOfSameComponent old new p → IsOfSameComponent old new q → Precedes before p q → Precedes after p q

-- the same in each level
abbrev pub AllStay : Levels → Levels → Type 0
AllStay old new =
    (level : Level) → KeepsComponents (level_at old level).graph (level_at old level).parts (level_at new level).graph (level_at new level).parts

-- What every change of the levels keeps: the parts of each level that isn't over the limits are a pick of it that can't be cut further, and the
-- components that the change leaves as they are keep their parts and flows, in their order, also where their level is over the limits.
abbrev pub KeepsPicks : Levels → Levels → Type 0
KeepsPicks old new = HavePicks new × AllStay old new
