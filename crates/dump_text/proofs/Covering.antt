-- Edges that are covering pairs.
use Rattle.std.proofs.Common.{◌≡◌, ◌↔◌, ℕ, suc, zero, ◌<◌, List, [], ◌∷◌, ◌++◌, length, get_or, append_assoc, append-nil, inl, inr, ◌⊎◌, sym, ap, subst, ◌∙◌}
use Rattle.std.specs.Prelude.{Contains}
use Rattle.std.proofs.lemmas.List.{get_or_default}
use Rattle.std.proofs.lemmas.List.Elements.{Contains-append_right, Contains-get_or, Contains-push_cases}
use Rattle.lists.proofs.Entries.{Contains-head}
use Rattle.graphs.specs.Graphs.{HasNoCycle, IsAncestor, IsCover, IsGraph, Walk}
use Rattle.graphs.specs.Certificates.{graph_of}
use Rattle.graphs.proofs.WalkLemmas.{IsAncestor-trans, walk_of_pair, walk_within}
use Rattle.graph_model.specs.Dumps.{DumpText, IsGraphText}
use Rattle.graph_model.proofs.DumpLemmas.{edges_once}
use Rattle.graph_model.proofs.TrimLemmas.{rising_once}
use Rattle.links.specs.Links.{Links}
use Rattle.dump_text.specs.Testing.{AreCovers, AreLinksOf, StandsAlone}

-- a walk of one edge more leads back
led_back : (edges : List (ℕ × ℕ)) → HasNoCycle edges → (a b : ℕ) → Contains edges (a, b) → IsAncestor edges b a → ⊥
led_back edges none a b edge (n, walk) = none b n (a, walk, edge)

above_back : (edges : List (ℕ × ℕ)) → HasNoCycle edges → (x p n m : ℕ) → Walk edges p x n → Walk edges x p m → x ≡ p
above_back edges none x p n zero up same = same
above_back edges none x p n (suc m) up (c, walk, edge) =
    absurd (led_back edges none c p edge (IsAncestor-trans edges p x c (n, up) (m, walk)))

-- where each edge to a child stands alone, an edge to it is a covering pair
pub cover_from : (edges : List (ℕ × ℕ)) → HasNoCycle edges → (p c : ℕ) → Contains edges (p, c)
    → ((q : ℕ) → Contains edges (q, c) → StandsAlone edges (q, c)) → IsCover edges p c
cover_from edges none p c edge alone = record {
  ancestor = (1, walk_of_pair edges p c edge);
  other = λ same. led_back edges none p c edge (0, sym same);
  between = λ x up down. between x up down.0 down.1;
}
  where
    between : (x : ℕ) → IsAncestor edges p x → (n : ℕ) → Walk edges x c n → (x ≡ p) ⊎ (x ≡ c)
    between x up zero same = inr same
    between x up (suc n) (q, walk, last) =
        let whole : IsAncestor edges p q = IsAncestor-trans edges p x q up (n, walk) in
        let same : p ≡ q = alone q last p whole edge in
        inl (above_back edges none x p up.0 n up.1 (subst (λ (z : ℕ). Walk edges x z n) (sym same) walk))

-- an edge to a child of covering pairs stands alone
pub alone_of : (edges : List (ℕ × ℕ)) → HasNoCycle edges → AreCovers edges → (edge : ℕ × ℕ) → Contains edges edge → StandsAlone edges edge
alone_of edges none covers edge here a up other = elim ((covers a edge.1 other).between edge.0 up (1, walk_of_pair edges edge.0 edge.1 here)) [
  | inl same ↦ sym same
  | inr same ↦ absurd (led_back edges none edge.0 edge.1 here (0, sym same))
]

abbrev pub edge_at : List (ℕ × ℕ) → ℕ → ℕ × ℕ
edge_at edges k = get_or edges k (0, 0)

pub covers_all : (edges : List (ℕ × ℕ)) → HasNoCycle edges → ((k : ℕ) → k < length edges → StandsAlone edges (edge_at edges k)) → AreCovers edges
covers_all edges none alone p c edge = cover_from edges none p c edge (λ q (k, low, is).
    let at : edge_at edges k ≡ (q, c) = get_or_default edges k (0, 0) (q, c) low ∙ is in
    subst (λ (e : ℕ × ℕ). StandsAlone edges e) at (alone k low))

pub not_covers : (edges : List (ℕ × ℕ)) (k : ℕ) → HasNoCycle edges → k < length edges → (StandsAlone edges (edge_at edges k) → ⊥) → AreCovers edges → ⊥
not_covers edges k none low shut covers = shut (alone_of edges none covers (edge_at edges k) (Contains-get_or edges k (0, 0) low))

-- ---- links of the edges

pub above_to : (edges : List (ℕ × ℕ)) (links : Links) → AreLinksOf edges links → (a b : ℕ) → IsAncestor links.pairs a b → IsAncestor edges a b
above_to edges links are a b (n, walk) = (n, walk_within links.pairs edges (λ x y. (are.same x y).0) a b n walk)

pub above_of : (edges : List (ℕ × ℕ)) (links : Links) → AreLinksOf edges links → (a b : ℕ) → IsAncestor edges a b → IsAncestor links.pairs a b
above_of edges links are a b (n, walk) = (n, walk_within edges links.pairs (λ x y. (are.same x y).1) a b n walk)

-- ---- of names with a property, some are seen, and the others are still to come

module _ (P L : ℕ → Type 0) (ys zs : List ℕ) (all : (a : ℕ) → Contains (ys ++ zs) a ↔ P a) (seen : (a : ℕ) → Contains ys a → L a) where
  pub comes : (x : ℕ) (rest : List ℕ) → zs ≡ x ∷ rest → P x
  comes x rest is =
      (all x).0 (subst (λ (xs : List ℕ). Contains (ys ++ xs) x) (sym is) (Contains-append_right ys (x ∷ rest) x (Contains-head x rest)))

  pub all_more : (x : ℕ) (rest : List ℕ) → zs ≡ x ∷ rest → (a : ℕ) → Contains ((ys ++ x ∷ []) ++ rest) a ↔ P a
  all_more x rest is a =
      subst (λ (xs : List ℕ). Contains xs a ↔ P a) (sym (append_assoc ys (x ∷ []) rest ∙ ap (λ (xs : List ℕ). ys ++ xs) (sym is))) (all a)

  pub seen_more : (x : ℕ) → L x → (a : ℕ) → Contains (ys ++ x ∷ []) a → L a
  seen_more x is a here = elim (Contains-push_cases ys x a here) [ inl before ↦ seen a before | inr same ↦ subst L same is ]

  pub all_seen : zs ≡ [] → (a : ℕ) → P a → L a
  all_seen none a here = seen a (subst (λ (xs : List ℕ). Contains xs a) (ap (λ (xs : List ℕ). ys ++ xs) none ∙ append-nil ys) ((all a).1 here))

-- ---- the graph of a text

pub whole : (text : DumpText) → IsGraphText text → IsGraph (graph_of text.txs text.edges)
whole text is = record {
  names = rising_once _ is.names;
  pairs = edges_once text.edges is.rising;
  ends = is.ends;
  acyclic = is.acyclic;
}
