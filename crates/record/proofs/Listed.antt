-- A walk over the ancestors of a name, which looks for one that isn't listed.
use Rattle.std.proofs.Common.{◌≡◌, ◌↔◌, ℕ, true, Bool, zero, suc, List, [], ◌∷◌, ◌++◌, append_assoc, append-nil, Contains, inl, inr, sym, ap, ◌∙◌, subst}
use Rattle.std.proofs.lemmas.List.Elements.{Contains-append_right, Contains-push_cases}
use Rattle.lists.proofs.Entries.{Contains-head}
use Rattle.graphs.specs.Graphs.{Walk, IsAncestor}
use Rattle.graphs.specs.Closures.{is_ancestor}
use Rattle.cluster.specs.Clusters.{Cluster}
use Rattle.links.specs.Links.{Links, AreAmong, AreLinks}
use Rattle.links.specs.Kept.{names_of}
use Rattle.links.proofs.Closed.{ancestors_are}
use Rattle.record.specs.Kept.{unordered}
use Rattle.record.proofs.Keeping.{has_name}

-- ---- of names with a property, some are seen, and the others are still to come

module _ (P L : ℕ → Type 0) (ys zs : List ℕ) (all : (a : ℕ) → Contains (ys ++ zs) a ↔ P a) (listed : (a : ℕ) → Contains ys a → L a) where
  pub comes : (x : ℕ) (rest : List ℕ) → zs ≡ x ∷ rest → P x
  comes x rest is =
      (all x).0 (subst (λ (xs : List ℕ). Contains (ys ++ xs) x) (sym is)
      (Contains-append_right ys (x ∷ rest) x (Contains-head x rest)))

  pub all_more : (x : ℕ) (rest : List ℕ) → zs ≡ x ∷ rest → (a : ℕ) → Contains ((ys ++ x ∷ []) ++ rest) a ↔ P a
  all_more x rest is a =
      subst (λ (xs : List ℕ). Contains xs a ↔ P a) (sym (append_assoc ys (x ∷ []) rest ∙ ap (λ (xs : List ℕ). ys ++ xs) (sym is))) (all a)

  pub listed_more : (x : ℕ) → L x → (a : ℕ) → Contains (ys ++ x ∷ []) a → L a
  listed_more x is a here = elim (Contains-push_cases ys x a here) [
    | inl before ↦ listed a before
    | inr same ↦ subst L same is
  ]

  pub none_lacks : zs ≡ [] → (a : ℕ) × P a × (L a → ⊥) → ⊥
  none_lacks none (a, here, shut) =
      shut (listed a (subst (λ (xs : List ℕ). Contains xs a) (ap (λ (xs : List ℕ). ys ++ xs) none ∙ append-nil ys) ((all a).1 here)))

-- ---- the ancestors of a name are names

walk_above : (names : List ℕ) (pairs : List (ℕ × ℕ)) → AreAmong names pairs → (a b n : ℕ) → Walk pairs a b n → Contains names b → Contains names a
walk_above names pairs among a b zero same here = subst (Contains names) (sym same) here
walk_above names pairs among a b (suc n) (c, walk, pair) here = walk_above names pairs among a c n walk (among c b pair).0

pub above_in : (names : List ℕ) (pairs : List (ℕ × ℕ)) → AreAmong names pairs → (a b : ℕ) → IsAncestor pairs a b → Contains names b → Contains names a
above_in names pairs among a b (n, walk) here = walk_above names pairs among a b n walk here

-- ---- a component with an order

-- ---- links, and what they stand for

module _ (links : Links) (are : AreLinks links) (s : Cluster) (is : unordered links ≡ s) (id : ℕ) (here : Contains s.names id) where
  has : Contains (names_of links.txs) id
  has = has_name links are s is id here

  pub over_above : (a : ℕ) → IsAncestor links.pairs a id → Contains s.names a
  over_above a up =
      subst (λ (c : Cluster). Contains c.names a) is (above_in (names_of links.txs) links.pairs are.graph_is.ends a id up has)

  pub above_to : (a : ℕ) → IsAncestor links.pairs a id → is_ancestor s.graph a id ≡ true
  above_to a up =
      subst (λ (c : Cluster). is_ancestor c.graph a id ≡ true) is
      ((ancestors_are links are a id).1 (above_in (names_of links.txs) links.pairs are.graph_is.ends a id up has, has, up))

  pub above_of : (a : ℕ) → is_ancestor s.graph a id ≡ true → IsAncestor links.pairs a id
  above_of a up = ((ancestors_are links are a id).0 (subst (λ (c : Cluster). is_ancestor c.graph a id ≡ true) (sym is) up)).2

  pub over_lacks : (L : ℕ → Type 0) (answer : Bool) → (answer ≡ true) ↔ ((a : ℕ) × IsAncestor links.pairs a id × (L a → ⊥))
      → (answer ≡ true) ↔ ((a : ℕ) × (is_ancestor s.graph a id ≡ true) × (L a → ⊥))
  over_lacks L answer tells = (
    λ yes. let lacks = tells.0 yes in (lacks.0, above_to lacks.0 lacks.1, lacks.2),
    λ (a, up, shut). tells.1 (a, above_of a up, shut),
  )
