-- Links that are made of a whole level.
use Rattle.std.proofs.Common.{◌≡◌, ◌↔◌, ℕ, ℤ, suc, zero, true, List, [], ◌∷◌, map, refl, sym, ap, ◌∙◌, subst}
use Rattle.std.specs.Prelude.{Contains}
use Rattle.lists.specs.Distinct.{AreDistinct}
use Rattle.lists.proofs.Entries.{Contains-map, map-Contains}
use Rattle.fee_rate.specs.Limits.{IsFee, IsSize}
use Rattle.graphs.specs.declared.names.Level.TheVariants.{Main}
use Rattle.graphs.specs.Certificates.{Txs}
use Rattle.graphs.specs.Closing.{IsClosureOf}
use Rattle.graphs.specs.Closures.{Closure, is_member, is_ancestor}
use Rattle.graphs.specs.Graphs.{Walk, IsAncestor}
use Rattle.graphs.proofs.WalkLemmas.{walk_within}
use Rattle.graph_model.specs.States.{State}
use Rattle.links.specs.Kept.{names_of}
use Rattle.links.specs.Links.{Links, AreAmong, AreInRange, AreSame}
use Rattle.tx_graph.specs.Kept as graphs
use Rattle.reorg.specs.Blocks.{LinksTell, tx_of}

pub names_told : (graph : Closure) (ids : List ℕ) → names_of (map (tx_of graph) ids) ≡ ids
names_told graph [] = refl
names_told graph (id ∷ ids) = ap (λ ns. id ∷ ns) (names_told graph ids)

module _ (kept : graphs.Kept) (some : (state : State) × graphs.StandsFor kept state) (names : List ℕ)
    (exact : (id : ℕ) → Contains names id ↔ (is_member kept.levels.main.graph id ≡ true)) (pairs : List (ℕ × ℕ))
    (closed : IsClosureOf kept.levels.main.graph (record { names = names; pairs = pairs })) (txs : Txs)
    (listed : txs ≡ map (tx_of kept.levels.main.graph) names) where
  abbrev main : Closure
  main = kept.levels.main.graph

  names_are : names_of txs ≡ names
  names_are = ap names_of listed ∙ names_told main names

  pub each_once : AreDistinct names → AreDistinct (names_of txs)
  each_once once = subst AreDistinct (sym names_are) once

  pub in_range : AreInRange txs
  in_range id fee size here = of (map-Contains (tx_of main) names (id, fee, size) (subst (λ ts. Contains {X = ℕ × ℤ × ℕ} ts (id, fee, size)) listed here))
    where
      of : ((q : ℕ) × Contains names q × (tx_of main q ≡ (id, fee, size))) → IsFee fee × IsSize size
      of (q, there, at) = subst (λ (tx : ℕ × ℤ × ℕ). IsFee tx.1 × IsSize tx.2) at
          (some.1.plain.valid.rates q _ (some.1.plain.table.names Main q ((exact q).0 there)))

  pub among : AreAmong (names_of txs) pairs
  among parent child pair =
      let ends = closed.ends parent child pair in
      (subst (λ ns. Contains ns parent) (sym names_are) ((exact parent).1 ends.0), subst (λ ns. Contains ns child) (sym names_are) ((exact child).1 ends.1))

  -- a walk from a name ends at one
  ends_at : (a d n : ℕ) → is_member main a ≡ true → Walk pairs a d n → is_member main d ≡ true
  ends_at a d zero member same = subst (λ x. is_member main x ≡ true) same member
  ends_at a d (suc n) member walk = (closed.ends walk.0 d walk.2).1

  pub tells : (links : Links) → links.txs ≡ txs → AreSame pairs links.pairs → LinksTell main links
  tells links same_txs same_pairs = record {
    names = λ id member. subst (λ (ts : Txs). Contains (names_of ts) id) (sym same_txs) (subst (λ ns. Contains ns id) (sym names_are) ((exact id).1 member));
    ancestors = λ a d member. (
      λ walk.
          let back = walk_within links.pairs pairs (λ x y here. (same_pairs x y).0 here) a d walk.0 walk.1 in
          (closed.ancestors a d member (ends_at a d walk.0 member back)).0 (walk.0, back),
      λ up.
          let walk = (closed.ancestors a d member (some.1.plain.main.among a d up).1).1 up in
          (walk.0, walk_within pairs links.pairs (λ x y here. (same_pairs x y).1 here) a d walk.0 walk.1),
    );
  }
