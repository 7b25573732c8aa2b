-- Rows whose sets have other words: the graph that they keep is the same.
use Rattle.std.proofs.Common.{◌≡◌, ℕ, ◌+◌, ◌*◌, ◌<◌, ◌≤◌, Bool, true, false, cond, ◌&&◌, nat_lt, List, [], ◌∷◌, ◌++◌, None, Some, refl, sym, ap, ap₂, ◌∙◌, subst, arith, lt-ltb, length-append, below_more}
use Rattle.std.proofs.Math.Bool.{and-false}
use Rattle.std.proofs.lemmas.Bool.{and_from}
use Rattle.std.proofs.lemmas.List.{get_or_append_left, get_or_push}
use Rattle.std.specs.Ordering.{nat_cmp}
use Rattle.std.specs.Cmp.{nat_cmp_total}
use Rattle.std.specs.FinSet as fin
use Rattle.std.specs.FinMap as map
use Rattle.graphs.specs.Closures.{Closure}
use Rattle.bitset.specs.Places.{IsWithin}
use Rattle.bitset.specs.Sets.{same_members}
use Rattle.dep_graph.specs.declared.rows.Row.{Row}
use Rattle.dep_graph.specs.Changes.{BothBecome, IsCutAt, AreResized}
use Rattle.dep_graph.specs.Rows.{no_row, row_at, node_of, graph_from, above, IsKept}
use Rattle.dep_graph.proofs.Kept.{Keeps, IsOrder-like, get-graph_from, kept_within}

pub AreResized-more : {W v : ℕ} (i : ℕ) (old : List (Row W)) (new : List (Row v)) (row : Row v) → AreResized v i old new
    → BothBecome (IsCutAt (64 * v)) (row_at old i) row → AreResized v (i + 1) old (new ++ row ∷ [])
AreResized-more {v = v} i old new row so_far here = record {
  long = length-append new (row ∷ []) ∙ omega (arith, so_far.long);
  rows = below_more (λ p. BothBecome (IsCutAt (64 * v)) (row_at old p) (row_at (new ++ row ∷ []) p)) i
      (λ p low. subst (BothBecome (IsCutAt (64 * v)) (row_at old p)) (sym (get_or_append_left new (row ∷ []) no_row p (omega (arith, so_far.long))))
      (so_far.rows p low))
      (subst (BothBecome (IsCutAt (64 * v)) (row_at old i)) (sym (get_or_push new row no_row i so_far.long)) here);
}

-- a test that holds only below n needs no bound
below_alone : (n q : ℕ) (b : Bool) → (b ≡ true → q < n) → (nat_lt q n && b) ≡ b
below_alone n q true low = ap (λ b. b && true) (lt-ltb q n (low refl))
below_alone n q false low = and-false (nat_lt q n)

pub cut_same : (n : ℕ) (s t : fin.FinSet nat_cmp) → IsCutAt n s t → IsWithin n s → t ≡ s
cut_same n s t cut within = same_members t s (λ q. cut q ∙ below_alone n q (fin.contains s q) (within q))

module _ {W n v : ℕ} {members : fin.FinSet nat_cmp} {rows : List (Row W)} {g : Closure} (k : Keeps n members rows g) (within : IsWithin (64 * v) members)
    (count : ℕ) (all : IsWithin count members) (few : count ≤ 64 * v) (new : List (Row v)) (made : AreResized v count rows new) where
  module _ (p : ℕ) (e : fin.contains members p ≡ true) where
    same_ancestors : (row_at new p).ancestors ≡ (row_at rows p).ancestors
    same_ancestors =
        cut_same (64 * v) _ _ (made.rows p (all p e)).ancestors (λ a held. within a (k.kept.order.among a p (and_from _ _ e held)).0)

    same_descendants : (row_at new p).descendants ≡ (row_at rows p).descendants
    same_descendants =
        cut_same (64 * v) _ _ (made.rows p (all p e)).descendants (λ d held. within d (k.kept.order.among p d (sym (k.kept.mirrored p d e) ∙ held)).1)

    same_node : node_of (row_at new p) ≡ node_of (row_at rows p)
    same_node = ap₂ (λ rate ancestors. record { rate = rate; ancestors = ancestors }) (made.rows p (all p e)).rate same_ancestors

  same_above : (a d : ℕ) → above members new a d ≡ above members rows a d
  same_above a d = guarded (fin.contains members d) refl
    where
      guarded : (b : Bool) → fin.contains members d ≡ b → (b && fin.contains (row_at new d).ancestors a) ≡ (b && fin.contains (row_at rows d).ancestors a)
      guarded true e = ap (λ s. fin.contains s a) (same_ancestors d e)
      guarded false e = refl

  pub resized_kept : IsKept (64 * v) members new
  resized_kept = record {
    room = omega (arith, made.long, few);
    there = λ p e. let low : p < count = all p e in omega (arith, made.long);
    order = IsOrder-like _ _ _ _ (λ p. refl) same_above k.kept.order;
    mirrored = λ a d e. ap (λ s. fin.contains s d) (same_descendants a e) ∙ k.kept.mirrored a d e ∙ sym (same_above a d);
  }

  pub resized_same : graph_from (64 * v) members new ≡ g
  resized_same =
      map.same_map nat_cmp_total fin.nat_cmp-IsAntisymmetric _ _ (λ p.
      get-graph_from (64 * v) members new within p ∙ same_entry p (fin.contains members p) refl ∙ sym (get-graph_from n members rows (kept_within n members rows k.kept) p))
      ∙ k.view
    where
      same_entry : (p : ℕ) (b : Bool) → fin.contains members p ≡ b
          → cond b (Some (node_of (row_at new p))) None ≡ cond b (Some (node_of (row_at rows p))) None
      same_entry p true e = ap Some (same_node p e)
      same_entry p false e = refl
