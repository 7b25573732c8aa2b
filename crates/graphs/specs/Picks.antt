-- Picks: of all optimal orders of a graph the one that a level keeps, with the flows that certify it. The definition leaves open how parts
-- of equal rate follow each other, and which amounts flow. The law `certified_parts_are_optimal` says why a pick is optimal.
use Rattle.std.specs.Prelude.{◌≡◌, ℕ, List, map, Contains, ◌⊎◌, ◌↔◌}
use Rattle.fee_rate.specs.declared.rates.Sum.{Sum}
use Rattle.graphs.specs.declared.names.Flow.{Flow}
use Rattle.graphs.specs.Graphs.{Graph, IsCover, IsGraph}
use Rattle.graphs.specs.Rates.{HasSizes, Falls}
use Rattle.graphs.specs.Linearizations.{StandsBefore, IsOptimal}
use Rattle.graphs.specs.Certificates.{Part, IsCertificate}
use Rattle.graphs.specs.Alikes.{AreAlike}
use Rattle.graphs.specs.Closing.{KeepsApart, IsRenamed, renamed_part}
use Rattle.graphs.specs.Merges.{Precedes, IsMerge, IsUnion}

-- Links (child, parent) are listed by child, then by parent, as these stand in an order of names.
abbrev pub FollowOrder : List ℕ → List (ℕ × ℕ) → Type 0
FollowOrder order links = (a b : ℕ × ℕ) → Precedes links a b
    → StandsBefore order a.0 b.0 ⊎ ((a.0 ≡ b.0) × StandsBefore order a.1 b.1)

-- The ends (child, parent) of flows.
abbrev pub links_of : List Flow → List (ℕ × ℕ)
links_of flows = map (λ flow. (flow.child, flow.parent)) flows

-- A pick: a certificate over the graph's covering pairs, where each part lists its flows by child, then by parent.
pub record IsPick (rate : ℕ → Sum) (graph : Graph) (parts : List Part) : Type 0 where
  pub certificate : IsCertificate rate graph (IsCover graph.pairs) parts
  pub flows_in_order : (part : Part) → Contains parts part → FollowOrder part.ids (links_of part.flows)

-- A pick is an optimal order. Picks of components that are merged by falling rate are a pick of the whole graph. A pick stays one by other
-- names, where no two names become one, and is a pick of every graph with the same names, sums and ancestors.
pub record PicksAreKept : Type 0 where
  pub optimal : (rate : ℕ → Sum) (graph : Graph) (parts : List Part) → HasSizes rate graph.names → IsPick rate graph parts
      → IsOptimal rate graph (map (λ part. part.ids) parts)
  pub merged : (rate : ℕ → Sum) (part : ℕ × ℕ → Part) (components : List (Graph × List (ℕ × ℕ))) (whole : Graph) (keys : List (ℕ × ℕ))
      → IsUnion components whole → ((c : Graph × List (ℕ × ℕ)) → Contains components c → IsPick rate c.0 (map part c.1))
      → IsMerge (map (λ c. c.1) components) keys → Falls (map (λ key. (part key).rate) keys) → IsPick rate whole (map part keys)
  pub renamed : (f : ℕ → ℕ) (rate rate' : ℕ → Sum) (old new : Graph) (parts : List Part)
      → ((a b : ℕ) → Contains old.pairs (a, b) → Contains old.names a × Contains old.names b) → KeepsApart f old.names → IsRenamed f old new
      → ((id : ℕ) → Contains old.names id → rate' (f id) ≡ rate id) → IsPick rate old parts → IsPick rate' new (map (renamed_part f) parts)
  pub alike : (ra rb : ℕ → Sum) (a b : Graph) → AreAlike ra a rb b → IsGraph a → IsGraph b → (parts : List Part)
      → IsPick ra a parts ↔ IsPick rb b parts
