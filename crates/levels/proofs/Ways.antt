-- How two names of the top level stand, and which refusal a pair of them meets.
use Rattle.std.proofs.Common.{◌≡◌, ◌≢◌, ℕ, ◌+◌, true, length, Option, Some, None, is_some, inl, inr, refl, sym, ap, ◌∙◌, subst, Result, Ok, Err, MatchResult, IfOk, true≢false}
use Rattle.std.specs.Prelude.{sum_by}
use Rattle.std.specs.FinMap as finmap
use Rattle.graphs.specs.declared.names.Level.TheVariants.{Top}
use Rattle.graphs.specs.Closures.{Closure, is_member, is_ancestor, rate_of}
use Rattle.graph_model.specs.declared.names.Limits.{Limits}
use Rattle.graph_model.specs.declared.names.Refusal.{Refusal}
use Rattle.graph_model.specs.declared.names.Refusal.TheVariants.{Unknown}
use Rattle.cluster.specs.Clusters.{Cluster}
use Rattle.levels.specs.Shelves.{Shelf, IsInOrder, numbers_at, stored_at, view_of}
use Rattle.levels.specs.Views.{graph_of}
use Rattle.levels.specs.Joins.{DepRefusalIs, SumRefusalIs}
use Rattle.levels.specs.Links.{IsLink, IsWithin}
use Rattle.levels.specs.declared.relation.Link.{Link}
use Rattle.levels.proofs.Graphs.{member-number}
use Rattle.levels.proofs.Pairs.{AreTogether, within_row, cycle_row, between_row}
use Rattle.levels.proofs.Sides.{together, between}
use Rattle.levels.proofs.Under.{live, seen_there}

module _ (limits : Limits) (shelf : Shelf) (p q : ℕ) where
  -- names that aren't live
  dead : (id : ℕ) → finmap.get (numbers_at Top shelf) id ≡ None → is_member (graph_of (view_of Top shelf)) id ≡ true → ⊥
  dead id none member = true≢false (sym member ∙ member-number (view_of Top shelf) id ∙ ap is_some none)

  pub no_parent : finmap.get (numbers_at Top shelf) p ≡ None → DepRefusalIs limits (graph_of (view_of Top shelf)) p q (Some (Unknown p))
  no_parent none = inl (dead p none, refl)

  pub no_child : (number : ℕ) → finmap.get (numbers_at Top shelf) p ≡ Some number → finmap.get (numbers_at Top shelf) q ≡ None
      → DepRefusalIs limits (graph_of (view_of Top shelf)) p q (Some (Unknown q))
  no_child number is none = inr (λ out. out (live Top shelf p number is), inl (dead q none, refl))

-- ---- names of one cluster

module _ (w : ℕ) (shelf : Shelf) (order : IsInOrder w shelf) (p q number : ℕ) (c : Cluster) (p_is : finmap.get (numbers_at Top shelf) p ≡ Some number)
    (q_is : finmap.get (numbers_at Top shelf) q ≡ Some number) (at : stored_at shelf.store.clusters number ≡ Some c) where
  abbrev graph : Closure
  graph = graph_of (view_of Top shelf)

  both : AreTogether graph p q c
  both = together w shelf order p q number c p_is q_is (seen_there w shelf order Top p number p_is c at)

  up : is_ancestor graph q p ≡ is_ancestor c.graph q p
  up = both.cluster.above q p both.cluster.here

  down : is_ancestor graph p q ≡ is_ancestor c.graph p q
  down = both.cluster.below p q both.cluster.here

  pub way_row : (limits : Limits) (result : Result Link Refusal) → IsWithin c number p q result
      → MatchResult result (λ _. DepRefusalIs limits graph p q None) (λ why. DepRefusalIs limits graph p q (Some why))
  way_row limits (Ok link) is = within_row graph p q c both limits (up ∙ is.0)
  way_row limits (Err why) is = subst (λ (r : Refusal). DepRefusalIs limits graph p q (Some r)) (sym is.0) (cycle_row graph p q c both limits (up ∙ is.1))

  pub way_link : (result : Result Link Refusal) → IsWithin c number p q result → IfOk result (IsLink shelf p q)
  way_link (Ok link) is = elim is.1 [
    | inl there ↦ subst (IsLink shelf p q) (sym there.0) (down ∙ there.1)
    | inr near ↦ subst (IsLink shelf p q) (sym near.0) (p_is, q_is, down ∙ near.1, up ∙ is.0)
  ]
  way_link (Err why) is = tt

-- ---- names of two clusters

abbrev pub sizes_in : Cluster → ℕ
sizes_in c = sum_by (λ id. (rate_of c.graph id).size) c.names

pub sum_row : (w : ℕ) (limits : Limits) (shelf : Shelf) (order : IsInOrder w shelf) (p q above below : ℕ) (a b : Cluster) (found : Option Refusal)
    → finmap.get (numbers_at Top shelf) p ≡ Some above → finmap.get (numbers_at Top shelf) q ≡ Some below → above ≢ below
    → stored_at shelf.store.clusters above ≡ Some a → stored_at shelf.store.clusters below ≡ Some b
    → SumRefusalIs limits (length a.names + length b.names) (sizes_in a + sizes_in b) found → DepRefusalIs limits (graph_of (view_of Top shelf)) p q found
sum_row w limits shelf order p q above below a b found p_is q_is apart one two row =
    between_row (graph_of (view_of Top shelf)) p q a b
    (between w shelf order p q above below a b p_is q_is apart
    (seen_there w shelf order Top p above p_is a one) (seen_there w shelf order Top q below q_is b two))
    limits found row
