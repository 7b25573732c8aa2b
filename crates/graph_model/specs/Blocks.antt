-- Blocks: which parts of an order a block of some size takes. After the block builder of Core's `txgraph.h`, of which it is the plain
-- use: a part that doesn't fit skips its component, and no other choice is made.
use Rattle.std.specs.Prelude.{◌≡◌, ◌↔◌, ℕ, ◌+◌, ◌≤◌, Bool, true, List, ◌∷◌, ◌++◌, map, filter, sum_by, Contains}
use Rattle.graphs.specs.Graphs.{Graph, AreConnected}
use Rattle.graphs.specs.Certificates.{Part}

-- the parts that are taken, of parts each with the mark whether it is
abbrev pub taken_of : List (Part × Bool) → List Part
taken_of marked = map (λ entry. entry.0) (filter (λ entry. entry.1) marked)

-- some names of both are connected
abbrev pub ShareComponent : Graph → Part → Part → Type 0
ShareComponent graph p q = (a b : ℕ) × Contains p.ids a × Contains q.ids b × AreConnected graph.pairs a b

-- Each part is taken exactly where each earlier part of its component is taken, and its size is at most what those taken before it leave of
-- the block's size.
pub record IsBlock (graph : Graph) (parts : List Part) (size : ℕ) (taken : List Part) : Type 0 where
  pub marked : List (Part × Bool)
  pub all : map (λ entry. entry.0) marked ≡ parts
  pub result : taken ≡ taken_of marked
  pub marks : (before after : List (Part × Bool)) (part : Part) (mark : Bool) → marked ≡ before ++ (part, mark) ∷ after
      → (mark ≡ true) ↔ (((earlier : Part) (was : Bool) → Contains before (earlier, was) → ShareComponent graph earlier part → was ≡ true)
      × (sum_by (λ p. p.rate.size) (taken_of before) + part.rate.size ≤ size))
