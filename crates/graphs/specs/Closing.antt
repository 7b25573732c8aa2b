-- Plain graphs and their closures. A closure has no pairs: many plain graphs have the same closure. They have the same names and the same
-- ancestors, and differ in pairs that other pairs imply, and in the order in which they list names and pairs.
use Rattle.std.specs.Prelude.{◌≡◌, ◌↔◌, ℕ, Bool, true, ◌&&◌, List, [], ◌∷◌, ◌++◌, map, filter, Contains}
use Rattle.graphs.specs.Graphs.{Graph, IsAncestor, HasNoCycle}
use Rattle.graphs.specs.Closures.{Closure, is_member, is_ancestor}
use Rattle.graphs.specs.Removals.{IsWithout}
use Rattle.graphs.specs.Certificates.{Part}

-- The relation `above` closes the graph: the names are the members, pairs are of members, there is no cycle, and one member is above
-- another exactly where pairs make it an ancestor. The definition says nothing of what is no member, nor of how often a name or a pair
-- is listed.
pub record Closes (member : ℕ → Bool) (above : ℕ → ℕ → Bool) (graph : Graph) : Type 0 where
  pub names : (id : ℕ) → Contains graph.names id ↔ (member id ≡ true)
  pub ends : (parent child : ℕ) → Contains graph.pairs (parent, child) → (member parent ≡ true) × (member child ≡ true)
  pub acyclic : HasNoCycle graph.pairs
  pub ancestors : (a d : ℕ) → member a ≡ true → member d ≡ true → IsAncestor graph.pairs a d ↔ (above a d ≡ true)

abbrev pub IsClosureOf : Closure → Graph → Type 0
IsClosureOf g graph = Closes (is_member g) (is_ancestor g) graph

-- ---- what is made of plain graphs

abbrev pub with_name : Graph → ℕ → Graph
with_name graph id = record { names = graph.names ++ id ∷ []; pairs = graph.pairs }

abbrev pub with_pair : Graph → ℕ → ℕ → Graph
with_pair graph parent child = record { names = graph.names; pairs = graph.pairs ++ (parent, child) ∷ [] }

-- The names and the pairs of both graphs.
abbrev pub joined : Graph → Graph → Graph
joined first second = record { names = first.names ++ second.names; pairs = first.pairs ++ second.pairs }

-- The names that pass, and the pairs between them.
abbrev pub within : (ℕ → Bool) → Graph → Graph
within keep graph = record { names = filter keep graph.names; pairs = filter (λ pair. keep pair.0 && keep pair.1) graph.pairs }

-- The graph without these names, which are removed one after another.
abbrev pub AreWithout : Graph → List ℕ → Graph → Type 0
AreWithout old [] new = new ≡ old
AreWithout old (id ∷ ids) new = (mid : Graph) × IsWithout old id mid × AreWithout mid ids new

-- What lies between two kept names is kept.
abbrev pub KeepsBetween : (ℕ → Bool) → (ℕ → ℕ → Bool) → Type 0
KeepsBetween keep above = (a b c : ℕ) → keep a ≡ true → keep c ≡ true → above a b ≡ true → above b c ≡ true → keep b ≡ true

-- ---- other names for the same

abbrev pub renamed : (ℕ → ℕ) → Graph → Graph
renamed f graph = record { names = map f graph.names; pairs = map (λ pair. (f pair.0, f pair.1)) graph.pairs }

-- No two of these names become one.
abbrev pub KeepsApart : (ℕ → ℕ) → List ℕ → Type 0
KeepsApart f names = (a b : ℕ) → Contains names a → Contains names b → f a ≡ f b → a ≡ b

-- The names and the pairs are the old ones by their new names. The definition leaves open in which order they are listed.
pub record IsRenamed (f : ℕ → ℕ) (old new : Graph) : Type 0 where
  pub names : (id : ℕ) → Contains new.names id ↔ ((a : ℕ) × Contains old.names a × (f a ≡ id))
  pub pairs : (parent child : ℕ) → Contains new.pairs (parent, child)
      ↔ ((a b : ℕ) × Contains old.pairs (a, b) × (f a ≡ parent) × (f b ≡ child))

-- A part by new names.
abbrev pub renamed_part : (ℕ → ℕ) → Part → Part
renamed_part f part = record {
  rate = part.rate;
  ids = map f part.ids;
  flows = map (λ flow. record { child = f flow.child; parent = f flow.parent; amount = flow.amount }) part.flows;
}
