-- Blocks of a state, and those that are kept for them.
use Rattle.std.proofs.Common.{◌≡◌, ◌≢◌, ◌↔◌, ◌≤◌, ◌+◌, ◌^◌, ◌<◌, ℕ, ℤ, suc, zero, true, List, [], ◌∷◌, map, length, refl, sym, ap, ◌∙◌, subst, inl, inr, ◌⊎◌, Option, None, Some, is_some, arith}
use Rattle.std.specs.Prelude.{Contains, take}
use Rattle.std.specs.FinMap as finmap
use Rattle.lists.specs.Distinct.{AreDistinct}
use Rattle.lists.proofs.Entries.{Contains-head, Contains-later, Contains-cases, none_in_empty, map_along}
use Rattle.graphs.specs.declared.names.Level.TheVariants.{Main}
use Rattle.graphs.specs.Closures.{Closure, is_member, is_ancestor, rate_of}
use Rattle.graphs.specs.Graphs.{Graph, IsAncestor, HasNoCycle}
use Rattle.graphs.proofs.WalkLemmas.{walk_within}
use Rattle.graph_model.specs.declared.limits.TheConstants.{MAX_BLOCKS}
use Rattle.graph_model.specs.Changes.{IsMinedBlock, ids_of}
use Rattle.graph_model.specs.Commands.{HasTypes, Mine}
use Rattle.graph_model.specs.Refusals.{RefusalIs}
use Rattle.graph_model.specs.SameLaws.{IsSameBlock, AreSameBlocks}
use Rattle.graph_model.specs.States.{MinedBlock, PlainState, State, Table}
use Rattle.graph_model.specs.States as states
use Rattle.graph_model.specs.Validity.{IsKeptBlock, IsValid}
use Rattle.graph_model.proofs.MinedLemmas.{can_mine, mined_ids}
use Rattle.graph_model.proofs.SameMinedLemmas as same_mined
use Rattle.tx_graph.specs.Kept as graphs
use Rattle.tx_graph.specs.Restored.{Meets}
use Rattle.tx_graph.specs.Sound.{IsSound}
use Rattle.tx_graph.proofs.Standing.{named, told}
use Rattle.reorg.specs.Blocks.{AreKept, AreNamesOf, HaveAtMost, IsBlockOf, tx_of}

-- ---- lists

pub same_front : (n : ℕ) (xs ys : List MinedBlock) → AreSameBlocks xs ys → AreSameBlocks (take n xs) (take n ys)
same_front zero xs ys same = tt
same_front (suc n) [] [] same = tt
same_front (suc n) (x ∷ xs) (y ∷ ys) same = (same.0, same_front n xs ys same.1)
same_front (suc n) [] (y ∷ ys) none = absurd none
same_front (suc n) (x ∷ xs) [] none = absurd none

pub in_front : {A : Type 0} (n : ℕ) (xs : List A) (x : A) → Contains (take n xs) x → Contains xs x
in_front zero xs x here = absurd (none_in_empty x here)
in_front (suc n) [] x here = here
in_front (suc n) (y ∷ ys) x here = elim (Contains-cases y x (take n ys) here) [
  | inl same ↦ subst (Contains (y ∷ ys)) same (Contains-head y ys)
  | inr later ↦ Contains-later y x ys (in_front n ys x later)
]

pub front_short : {A : Type 0} (n : ℕ) (xs : List A) → length (take n xs) ≤ n
front_short zero xs = omega arith
front_short (suc n) [] = omega arith
front_short (suc n) (x ∷ xs) = let rest : length (take n xs) ≤ n = front_short n xs in omega arith

-- ---- names that may be mined

-- Names that nothing refuses to mine are names of main.
pub may_mine : (kept : graphs.Kept) (ids : List ℕ) → (state : State) × graphs.StandsFor kept state → Meets kept (Mine ids) None
    → AreNamesOf kept.levels.main.graph ids
may_mine kept ids some row id here =
    let can = can_mine some.0.plain ids (row some.0 some.1) in
    (named kept some.0.plain some.1.plain Main id).0 (can.inside id here)

-- ---- the block of names, in a state

module _ (kept : graphs.Kept) (ids : List ℕ) (block : MinedBlock) (of : IsBlockOf kept.levels.main.graph ids block)
    (names : AreNamesOf kept.levels.main.graph ids) (state : State) (stands : graphs.StandsFor kept state) where
  abbrev main : Closure
  main = kept.levels.main.graph

  tx_told : (id : ℕ) → Contains ids id → tx_of main id ≡ same_mined.tx_of state.plain.table id
  tx_told id here = ap (λ (e : Option states.Entry). (id, (states.sum_in e).fee, (states.sum_in e).size)) (sym (stands.plain.table.names Main id (names id here)))

  -- a name of main is an ancestor of another exactly where the graph tells so
  below : (m d : ℕ) → Contains ids m → IsAncestor state.plain.main.pairs m d ↔ ((m ≡ d) ⊎ (is_ancestor main m d ≡ true))
  below m d here = told kept.levels.main state.plain.main stands.plain.main m d

  pub is_mined : IsMinedBlock state.plain ids block
  is_mined = record {
    txs = of.txs ∙ map_along (tx_of main) (same_mined.tx_of state.plain.table) ids tx_told;
    pairs = λ m d. (
      λ pair. let is = (of.pairs m d).0 pair in (is.0, (below m d is.0).1 (inr is.1.0), is.1.1),
      λ is. (of.pairs m d).1 (
        is.0,
        (elim ((below m d is.0).0 is.1) [ inl same ↦ absurd (is.2 same) | inr up ↦ up ], is.2),
      ),
    );
  }

  -- it is the same as each block of these names
  pub same_block : (other : MinedBlock) → IsMinedBlock state.plain ids other → IsSameBlock block other
  same_block other is = record {
    txs = is_mined.txs ∙ sym is.txs;
    pairs = λ m d. (
      λ pair. (is.pairs m d).1 ((is_mined.pairs m d).0 pair),
      λ pair. (is_mined.pairs m d).1 ((is.pairs m d).0 pair),
    );
  }

-- A block that is the same as one that can be put back can be put back.
pub kept_same : (block other : MinedBlock) → IsSameBlock block other → IsKeptBlock other → IsKeptBlock block
kept_same block other same is = record {
  some = λ none. is.some (sym same.txs ∙ none);
  once = subst (λ txs. AreDistinct (ids_of txs)) (sym same.txs) is.once;
  names = λ id here. is.names id (subst (λ txs. Contains (ids_of txs) id) same.txs here);
  rates = λ id fee size here. is.rates id fee size (subst (λ txs. Contains txs (id, fee, size)) same.txs here);
  parents = λ a b pair. subst (λ txs. Contains (ids_of txs) a) (sym same.txs) (is.parents a b ((same.pairs a b).0 pair));
  acyclic = λ a n walk. is.acyclic a n (walk_within block.pairs other.pairs (λ x y pair. (same.pairs x y).0 pair) a a (suc n) walk);
}
