-- Names that come into a graph with pairs of their own, and names that come back into the graph that they were dropped from.
use Rattle.std.proofs.Common.{◌≢◌, ℕ, suc, zero, List, subst, inl, inr, ◌↔◌}
use Rattle.std.specs.Prelude.{Contains}
use Rattle.lists.proofs.Told.{told_number}
use Rattle.graphs.specs.Graphs.{Graph, Walk, IsAncestor, HasNoCycle, IsGraph}
use Rattle.graphs.specs.Drops.{HasParents, DropsNames}
use Rattle.graphs.proofs.WalkLemmas.{walk_of_pair, walk_within, IsAncestor-trans}
use Rattle.graph_model.specs.Changes.{PutsNames}

-- ---- walks

-- where each pair leads to a descendant in another graph, each walk does
pub ancestors_along : (pairs others : List (ℕ × ℕ)) → ((a b : ℕ) → Contains pairs (a, b) → IsAncestor others a b)
    → (a b n : ℕ) → Walk pairs a b n → IsAncestor others a b
ancestors_along pairs others each a b zero same = (0, same)
ancestors_along pairs others each a b (suc n) walk =
    IsAncestor-trans others a walk.0 b (ancestors_along pairs others each a walk.0 n walk.1) (each walk.0 b walk.2)

-- a walk of one pair or more
abbrev pub IsProper : List (ℕ × ℕ) → ℕ → ℕ → Type 0
IsProper pairs a b = (n : ℕ) × Walk pairs a b (suc n)

pub proper_from : (pairs : List (ℕ × ℕ)) (a b n : ℕ) → Walk pairs a b n → a ≢ b → IsProper pairs a b
proper_from pairs a b zero same other = absurd (other same)
proper_from pairs a b (suc n) walk other = (n, walk)

proper_after : (pairs : List (ℕ × ℕ)) (a b c n : ℕ) → IsAncestor pairs a b → Walk pairs b c (suc n) → IsProper pairs a c
proper_after pairs a b c n first walk =
    let most : IsAncestor pairs a walk.0 = IsAncestor-trans pairs a b walk.0 first (n, walk.1) in (most.0, (walk.0, most.1, walk.2))

-- pairs that lead to other descendants make no cycle
pub no_cycle_along : (pairs others : List (ℕ × ℕ)) → HasNoCycle others → ((a b : ℕ) → Contains pairs (a, b) → IsAncestor others a b × (a ≢ b))
    → HasNoCycle pairs
no_cycle_along pairs others none each a n walk =
    let before : IsAncestor others a walk.0 = ancestors_along pairs others (λ x y here. (each x y here).0) a walk.0 n walk.1 in
    let last = each walk.0 a walk.2 in
    let step = proper_from others walk.0 a last.0.0 last.0.1 last.1 in
    let all = proper_after others a walk.0 a step.0 before step.1 in
    none a all.0 all.1

-- ---- new names, with pairs that all begin at them

module _ (old new : Graph) (ids : List ℕ) (more : List (ℕ × ℕ)) (puts : PutsNames old ids more new) (graph : IsGraph old)
    (apart : (id : ℕ) → Contains ids id → Contains old.names id → ⊥) (parents : (a b : ℕ) → Contains more (a, b) → Contains ids a)
    (acyclic : HasNoCycle more) where
  -- a walk that ends at a new name goes along new pairs
  more_walk : (a b n : ℕ) → Contains ids b → Walk new.pairs a b n → Walk more a b n
  more_walk a b zero here same = same
  more_walk a b (suc n) here walk = elim ((puts.pairs walk.0 b).0 walk.2) [
    | inl was ↦ absurd (apart b here (graph.ends walk.0 b was).1)
    | inr put ↦ (walk.0, more_walk a walk.0 n (parents walk.0 b put.0) walk.1, put.0)
  ]

  -- a walk that begins at an old one goes along old pairs
  old_walk : (a b n : ℕ) → Contains old.names a → Walk new.pairs a b n → Contains old.names b × Walk old.pairs a b n
  old_walk a b zero here same = (subst (Contains old.names) same here, same)
  old_walk a b (suc n) here walk =
      let before = old_walk a walk.0 n here walk.1 in
      elim ((puts.pairs walk.0 b).0 walk.2) [
        | inl was ↦ ((graph.ends walk.0 b was).1, (walk.0, before.1, was))
        | inr put ↦ absurd (apart walk.0 (parents walk.0 b put.0) before.0)
      ]

  put_ends : (a b : ℕ) → Contains new.pairs (a, b) → Contains new.names a × Contains new.names b
  put_ends a b pair = elim ((puts.pairs a b).0 pair) [
    | inl was ↦ let both = graph.ends a b was in ((puts.names a).1 (inl both.0), (puts.names b).1 (inl both.1))
    | inr put ↦ ((puts.names a).1 (inr (parents a b put.0)), put.1)
  ]

  pub graph_put : IsGraph new
  graph_put = record {
    names = puts.names_once;
    pairs = puts.pairs_once;
    ends = put_ends;
    acyclic = λ a n walk. elim ((puts.names a).0 (put_ends walk.0 a walk.2).1) [
      | inl was ↦ graph.acyclic a n (old_walk a a (suc n) was walk).1
      | inr put ↦ acyclic a n (more_walk a a (suc n) put walk)
    ];
  }

-- ---- names that come back

module _ (was old new : Graph) (ids : List ℕ) (more : List (ℕ × ℕ)) (graph : IsGraph was) (drops : DropsNames was ids old)
    (up : HasParents was.pairs ids) (inside : (id : ℕ) → Contains ids id → Contains was.names id)
    (kept : (m d : ℕ) → Contains more (m, d) ↔ (Contains ids m × IsAncestor was.pairs m d × (m ≢ d))) (puts : PutsNames old ids more new) where
  pub names_back : (id : ℕ) → Contains was.names id ↔ Contains new.names id
  names_back id = (
    λ here. (puts.names id).1 (elim (told_number ids id) [ inl listed ↦ inr listed | inr none ↦ inl ((drops.names id).1 (here, none)) ]),
    λ here. elim ((puts.names id).0 here) [ inl left ↦ ((drops.names id).0 left).0 | inr listed ↦ inside id listed ],
  )

  apart_pair : (a b : ℕ) → Contains was.pairs (a, b) → a ≢ b
  apart_pair a b pair same = graph.acyclic b 0 (walk_of_pair was.pairs b b (subst (λ x. Contains was.pairs (x, b)) same pair))

  pair_back : (a b : ℕ) → Contains was.pairs (a, b) → Contains new.pairs (a, b)
  pair_back a b pair = (puts.pairs a b).1 (elim (told_number ids a) [
    | inl listed ↦ inr ((kept a b).1 (listed, (1, walk_of_pair was.pairs a b pair), apart_pair a b pair), (names_back b).0 (graph.ends a b pair).1)
    | inr none ↦ inl ((drops.pairs a b).1 (none, λ listed. none (up a b pair listed), pair))
  ])

  new_pair : (a b : ℕ) → Contains new.pairs (a, b) → IsAncestor was.pairs a b
  new_pair a b pair = elim ((puts.pairs a b).0 pair) [
    | inl left ↦ (1, walk_of_pair was.pairs a b ((drops.pairs a b).0 left).2)
    | inr put ↦ ((kept a b).0 put.0).1
  ]

  pub ancestors_back : (a b : ℕ) → IsAncestor was.pairs a b ↔ IsAncestor new.pairs a b
  ancestors_back a b = (
    λ walk. (walk.0, walk_within was.pairs new.pairs pair_back a b walk.0 walk.1),
    λ walk. ancestors_along new.pairs was.pairs new_pair a b walk.0 walk.1,
  )
