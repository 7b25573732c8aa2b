-- Graphs that say the same of their transactions, whatever pairs make the ancestors.
use Rattle.std.specs.Prelude.{◌≡◌, ℕ, ℤ, List, Contains, ◌↔◌}
use Rattle.fee_rate.specs.declared.rates.Sum.{Sum}
use Rattle.graphs.specs.Graphs.{Graph, IsAncestor, AreConnected, IsCover, IsGraph}
use Rattle.graphs.specs.Linearizations.{IsClosedWithin, IsOptimal}
use Rattle.graphs.specs.Certificates.{Part, IsCertificate}
use Rattle.graphs.specs.Diagrams.{AreCorners}

-- The same names, with the same fees and sizes, and the same ancestors.
pub record AreAlike (rate_a : ℕ → Sum) (a : Graph) (rate_b : ℕ → Sum) (b : Graph) : Type 0 where
  pub names : (id : ℕ) → Contains a.names id ↔ Contains b.names id
  pub sums : (id : ℕ) → Contains a.names id → rate_a id ≡ rate_b id
  pub ancestors : (x y : ℕ) → IsAncestor a.pairs x y ↔ IsAncestor b.pairs x y

-- Alike graphs have the same components, covering pairs, closed sets and corners, and the same optimal orders with the same certificates.
pub record AlikeGraphsAgree : Type 0 where
  pub components : (ra rb : ℕ → Sum) (a b : Graph) → AreAlike ra a rb b → (x y : ℕ) → AreConnected a.pairs x y ↔ AreConnected b.pairs x y
  pub covers : (ra rb : ℕ → Sum) (a b : Graph) → AreAlike ra a rb b → (x y : ℕ) → IsCover a.pairs x y ↔ IsCover b.pairs x y
  pub closed : (ra rb : ℕ → Sum) (a b : Graph) → AreAlike ra a rb b → IsGraph a → IsGraph b → (set : List ℕ)
      → IsClosedWithin a.pairs a.names set ↔ IsClosedWithin b.pairs b.names set
  pub corners : (ra rb : ℕ → Sum) (a b : Graph) → AreAlike ra a rb b → IsGraph a → IsGraph b → (points : List (ℕ × ℤ))
      → AreCorners ra a points ↔ AreCorners rb b points
  pub orders : (ra rb : ℕ → Sum) (a b : Graph) → AreAlike ra a rb b → IsGraph a → IsGraph b → (parts : List (List ℕ))
      → IsOptimal ra a parts ↔ IsOptimal rb b parts
  pub certificates : (ra rb : ℕ → Sum) (a b : Graph) → AreAlike ra a rb b → IsGraph a → IsGraph b → (parts : List Part)
      → IsCertificate ra a (IsCover a.pairs) parts ↔ IsCertificate rb b (IsCover b.pairs) parts
