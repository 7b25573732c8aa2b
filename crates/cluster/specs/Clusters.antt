-- A cluster: its names in the order of their places, the graph of these names, and the parts of its picked order.
use Rattle.std.specs.Prelude.{◌≡◌, ℕ, ◌≤◌, ◌↔◌, true, ℤ, List, length, Contains, refl}
use Rattle.std.specs.Coded.{Coded, code_by, coded×, coded_ℕ, coded_ℤ, coded_list}
use Rattle.lists.specs.Distinct.{AreDistinct}
use Rattle.fee_rate.specs.declared.rates.Sum.{Sum}
use Rattle.fee_rate.specs.Limits.{IsRate}
use Rattle.graphs.specs.declared.names.Flow.{Flow}
use Rattle.graphs.specs.Graphs.{Graph}
use Rattle.graphs.specs.Closures.{Closure, closure_code, is_member, is_ancestor, rate_of, IsOrder, AreLinked}
use Rattle.graphs.specs.Closing.{IsClosureOf}
use Rattle.graphs.specs.Certificates.{Part}
use Rattle.graphs.specs.Picks.{IsPick}
use Rattle.graphs.specs.Minimal.{AreMinimal}

pub record Cluster : Type 0 where
  pub names : List ℕ
  pub graph : Closure
  pub parts : List Part

abbrev pub flow_code : Coded Flow
flow_code =
    code_by (ℕ × (ℕ × ℕ)) (coded× coded_ℕ (coded× coded_ℕ coded_ℕ)) (λ f. (f.child, (f.parent, f.amount)))
    (λ p. record { child = p.0; parent = p.1.0; amount = p.1.1 }) (λ _. refl)

abbrev pub part_code : Coded Part
part_code =
    code_by ((ℤ × ℕ) × (List ℕ × List Flow)) (coded× (coded× coded_ℤ coded_ℕ) (coded× (coded_list coded_ℕ) (coded_list flow_code)))
    (λ p. ((p.rate.fee, p.rate.size), (p.ids, p.flows)))
    (λ p. record { rate = record { fee = p.0.0; size = p.0.1 }; ids = p.1.0; flows = p.1.1 }) (λ _. refl)

abbrev pub cluster_code : Coded Cluster
cluster_code =
    code_by (List ℕ × (Closure × List Part)) (coded× (coded_list coded_ℕ) (coded× closure_code (coded_list part_code)))
    (λ c. (c.names, (c.graph, c.parts))) (λ p. record { names = p.0; graph = p.1.0; parts = p.1.1 }) (λ _. refl)

-- the fee and the size of a name, as sums are
abbrev pub sum_at : Closure → ℕ → Sum
sum_at g id = record { fee = (rate_of g id).fee; size = (rate_of g id).size }

-- Parts are a pick of a closure: of every plain graph that it is the closure of.
abbrev pub ArePicked : Closure → List Part → Type 0
ArePicked g parts = (graph : Graph) → IsClosureOf g graph → IsPick (sum_at g) graph parts

-- None of the parts can be cut further: no smaller set that is closed within it has its rate.
abbrev pub AreUncut : Closure → List Part → Type 0
AreUncut g parts = (graph : Graph) → IsClosureOf g graph → AreMinimal (sum_at g) graph.pairs parts

-- What holds of every cluster of at most so many names: it has a name, each name stands once, ancestry is an order on the
-- names, they are one component, fees and sizes are in range, and the parts are a pick, none of which can be cut further.
pub record IsCluster (most : ℕ) (c : Cluster) : Type 0 where
  pub some : 1 ≤ length c.names
  pub few : length c.names ≤ most
  pub once : AreDistinct c.names
  pub members : (id : ℕ) → (is_member c.graph id ≡ true) ↔ Contains c.names id
  pub order : IsOrder (is_member c.graph) (is_ancestor c.graph)
  pub whole : (a b : ℕ) → is_member c.graph a ≡ true → is_member c.graph b ≡ true → AreLinked c.graph a b
  pub rates : (id : ℕ) → is_member c.graph id ≡ true → IsRate (rate_of c.graph id)
  pub picked : ArePicked c.graph c.parts
  pub uncut : AreUncut c.graph c.parts

-- two clusters have no name in common
abbrev pub AreApart : Cluster → Cluster → Type 0
AreApart c d = (id : ℕ) → Contains c.names id → Contains d.names id → ⊥
