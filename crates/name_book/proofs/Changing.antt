-- Nodes of which one ring changes, and nothing else.
use Rattle.std.proofs.Common.{◌≢◌, ℕ, ◌<◌, List, refl, ◌∙◌}
use Rattle.node_pool.specs.declared.pool.Key.{Key}
use Rattle.node_pool.specs.Nodes.{Nodes}
use Rattle.node_pool.specs.Laws.{RingsGoRound}
use Rattle.name_book.specs.Changes.{KeepsRing}
use Rattle.name_book.specs.Tables.{table_of, AreKeys, ChangesRing}
use Rattle.name_book.proofs.Kept.{same-own}
use Rattle.name_book.proofs.Rungs.{kept-rungs}

pub changes-none : (nodes : Nodes ℕ) (r : ℕ) → ChangesRing nodes nodes r
changes-none nodes r = record { values = λ k. refl; counts = (refl, refl, refl); others = λ q below apart x y. (λ ring. ring, λ ring. ring) }

pub changes-more : (old mid new : Nodes ℕ) (r : ℕ) → ChangesRing old mid r → ChangesRing mid new r → ChangesRing old new r
changes-more old mid new r one two = record {
  values = λ k. two.values k ∙ one.values k;
  counts = (two.counts.0 ∙ one.counts.0, two.counts.1 ∙ one.counts.1, two.counts.2 ∙ one.counts.2);
  others = λ q below apart x y.
      let first = one.others q below apart x y in let then = two.others q below apart x y in
      (λ ring. first.0 (then.0 ring), λ ring. then.1 (first.1 ring));
}

-- the rings of the other number stay
pub others-kept : (nodes new : Nodes ℕ) (es : List (ℕ × Key)) (r : ℕ) → ChangesRing nodes new r → AreKeys nodes es → RingsGoRound 2 nodes → RingsGoRound 2 new
    → (spare q : ℕ) → q < 2 → q ≢ r → KeepsRing (table_of nodes es spare) (table_of new es spare) q
others-kept nodes new es r changes own rings round spare q below apart =
    kept-rungs nodes new es own (same-own nodes new es own changes.values) rings round spare spare q below (changes.others q below apart)
