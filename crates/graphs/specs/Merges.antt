-- A graph of several components, and one order merged of the orders of the components.
use Rattle.std.specs.Prelude.{◌≡◌, ℕ, Bool, true, List, [], ◌∷◌, ◌++◌, map, Contains, ◌↔◌}
use Rattle.lists.specs.Distinct.{AreDistinct}
use Rattle.fee_rate.specs.declared.rates.Sum.{Sum}
use Rattle.fee_rate.specs.Rates.{AtMost}
use Rattle.graphs.specs.Graphs.{Graph, IsAncestor, AreConnected, IsCover, IsGraph}
use Rattle.graphs.specs.Rates.{Falls}
use Rattle.graphs.specs.Certificates.{Part, IsCertificate}

-- x stands before y in the list.
abbrev pub Precedes : {A : Type 0} → List A → A → A → Type 0
Precedes {A} list x y = (front rest : List A) × (list ≡ front ++ y ∷ rest) × Contains front x

-- A list merges others: each of their entries is listed once, and no other, and entries of one list keep their order.
pub record IsMerge {A : Type 0} (lists : List (List A)) (all : List A) : Type 0 where
  pub once : AreDistinct all
  pub exact : (x : A) → Contains all x ↔ ((list : List A) × Contains lists list × Contains list x)
  pub ordered : (list : List A) (x y : A) → Contains lists list → Precedes list x y → Precedes all x y

-- Each entry is before all that follow.
abbrev pub IsSorted : {A : Type 0} → (A → A → Bool) → List A → Type 0
IsSorted before [] = Unit {0}
IsSorted {A} before (x ∷ xs) = ((y : A) → Contains xs y → before x y ≡ true) × IsSorted before xs

-- A graph is the union of components: the names and the pairs are theirs, and no two components have a name in common. Each component comes
-- with something of its own, as the list of its parts.
pub record IsUnion {A : Type 0} (components : List (Graph × A)) (whole : Graph) : Type 0 where
  pub names : (id : ℕ) → Contains whole.names id ↔ ((c : Graph × A) × Contains components c × Contains c.0.names id)
  pub pairs : (a b : ℕ) → Contains whole.pairs (a, b) ↔ ((c : Graph × A) × Contains components c × Contains c.0.pairs (a, b))
  pub apart : (c d : Graph × A) (id : ℕ) → Contains components c → Contains components d → Contains c.0.names id → Contains d.0.names id → c ≡ d
  pub graphs : (c : Graph × A) → Contains components c → IsGraph c.0

-- Graphs without a common name have a union. In the union the names of a component keep their ancestors, their component and their covering
-- pairs. A union that lists names and pairs once is a graph.
pub record KeepsComponents (A : Type 0) : Type 0 where
  pub some : (components : List (Graph × A)) → ((c : Graph × A) → Contains components c → IsGraph c.0)
      → ((c d : Graph × A) (id : ℕ) → Contains components c → Contains components d → Contains c.0.names id → Contains d.0.names id → c ≡ d)
      → (whole : Graph) × IsUnion components whole
  pub ancestors : (components : List (Graph × A)) (whole : Graph) (c : Graph × A) (a b : ℕ) → IsUnion components whole → Contains components c
      → Contains c.0.names b → IsAncestor whole.pairs a b ↔ IsAncestor c.0.pairs a b
  pub connected : (components : List (Graph × A)) (whole : Graph) (c : Graph × A) (a b : ℕ) → IsUnion components whole → Contains components c
      → Contains c.0.names b → AreConnected whole.pairs a b ↔ AreConnected c.0.pairs a b
  pub covers : (components : List (Graph × A)) (whole : Graph) (c : Graph × A) (a b : ℕ) → IsUnion components whole → Contains components c
      → Contains c.0.names b → IsCover whole.pairs a b ↔ IsCover c.0.pairs a b
  pub graph : (components : List (Graph × A)) (whole : Graph) → IsUnion components whole → AreDistinct whole.names → AreDistinct whole.pairs → IsGraph whole

-- The same of components that come with their parts, and of components that come with keys.
pub record UnionsKeepComponents : Type 0 where
  pub by_parts : KeepsComponents (List Part)
  pub by_keys : KeepsComponents (List (ℕ × ℕ))

-- Certificates of the components over their covering pairs, merged by falling rate, are a certificate of the whole graph over its covering
-- pairs. The law speaks of the parts themselves, and of keys (serial, position) under which the parts are found.
pub record MergedPartsAreCertified : Type 0 where
  pub by_parts : (rate : ℕ → Sum) (components : List (Graph × List Part)) (whole : Graph) (parts : List Part) → IsUnion components whole
      → ((c : Graph × List Part) → Contains components c → IsCertificate rate c.0 (IsCover c.0.pairs) c.1)
      → IsMerge (map (λ c. c.1) components) parts → Falls (map (λ part. part.rate) parts) → IsCertificate rate whole (IsCover whole.pairs) parts
  pub by_keys : (rate : ℕ → Sum) (part : ℕ × ℕ → Part) (components : List (Graph × List (ℕ × ℕ))) (whole : Graph) (keys : List (ℕ × ℕ))
      → IsUnion components whole
      → ((c : Graph × List (ℕ × ℕ)) → Contains components c → IsCertificate rate c.0 (IsCover c.0.pairs) (map part c.1))
      → IsMerge (map (λ c. c.1) components) keys → Falls (map (λ key. (part key).rate) keys) → IsCertificate rate whole (IsCover whole.pairs) (map part keys)

-- Lists and a list with their entries, all sorted by one order, which is never both ways: the list merges them. Where what is before
-- has no lower rate, rates fall.
pub record SortedListsMerge : Type 0 where
  pub merges : (before : ℕ × ℕ → ℕ × ℕ → Bool) (lists : List (List (ℕ × ℕ))) (all : List (ℕ × ℕ))
      → ((x y : ℕ × ℕ) → before x y ≡ true → before y x ≡ true → ⊥) → ((list : List (ℕ × ℕ)) → Contains lists list → IsSorted before list)
      → IsSorted before all → ((x : ℕ × ℕ) → Contains all x ↔ ((list : List (ℕ × ℕ)) × Contains lists list × Contains list x)) → IsMerge lists all
  pub falls : (before : ℕ × ℕ → ℕ × ℕ → Bool) (rates : ℕ × ℕ → Sum) (all : List (ℕ × ℕ)) → ((x y : ℕ × ℕ) → before x y ≡ true → AtMost (rates y) (rates x))
      → IsSorted before all → Falls (map rates all)
