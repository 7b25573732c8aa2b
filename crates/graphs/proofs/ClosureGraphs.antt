-- The graph of all pairs of a closure.
use Rattle.std.proofs.Common.{◌≡◌, ◌≢◌, ℕ, suc, zero, ◌<◌, Bool, true, not, ◌&&◌, nat_eq, List, [], ◌∷◌, sym, refl, subst, ap, inl, inr, ◌⊎◌, arith, ne_eqb}
use Rattle.std.specs.Prelude.{Contains, filter}
use Rattle.std.proofs.lemmas.Bool.{cases_eq, and_parts, and_from}
use Rattle.lists.specs.Distinct.{AreDistinct}
use Rattle.lists.proofs.Cases.{differs}
use Rattle.lists.proofs.Distinct.{distinct-filter}
use Rattle.lists.proofs.Entries.{Contains-head, Contains-later, Contains-cases, none_in_empty, Contains-filter, filter-Contains}
use Rattle.graphs.specs.Graphs.{Graph, Walk, IsGraph}
use Rattle.graphs.specs.Closures.{Closure, is_member, is_ancestor, IsClosed}
use Rattle.graphs.specs.Closing.{IsClosureOf}
use Rattle.graphs.specs.Laws.{ClosuresHaveGraphs}
use Rattle.graphs.proofs.RemovalLemmas.{crossed, crossed_has, crossed_first, crossed_second, distinct_crossed}

below : ℕ → List ℕ
below zero = []
below (suc n) = n ∷ below n

is_below : (n x : ℕ) → Contains (below n) x → x < n
unfolding below
is_below zero x here = absurd (none_in_empty x here)
is_below (suc n) x here = elim (Contains-cases n x (below n) here) [ inl same ↦ omega (arith, same) | inr later ↦ omega (arith, is_below n x later) ]

has_below : (n x : ℕ) → x < n → Contains (below n) x
unfolding below
has_below zero x low = absurd (omega (arith, low))
has_below (suc n) x low = elim (cases_eq n x) [
  | inl same ↦ subst (Contains (n ∷ below n)) same (Contains-head n (below n))
  | inr other ↦ Contains-later n x (below n) (has_below n x (omega arith))
]

distinct_below : (n : ℕ) → AreDistinct (below n)
unfolding below
distinct_below zero = tt
distinct_below (suc n) = (λ here. omega (arith, is_below n n here), distinct_below n)

module _ (n : ℕ) (g : Closure) (closed : IsClosed n g) where
  abbrev members : List ℕ
  members = filter (is_member g) (below n)

  abbrev proper : ℕ × ℕ → Bool
  proper pair = not (nat_eq pair.0 pair.1) && is_ancestor g pair.0 pair.1

  abbrev all_pairs : List (ℕ × ℕ)
  all_pairs = filter proper (crossed members members)

  listed : (p : ℕ) → is_member g p ≡ true → Contains members p
  listed p here = Contains-filter (is_member g) (below n) p here (has_below n p (closed.within p here))

  pair_of : (a b : ℕ) → a ≢ b → is_ancestor g a b ≡ true → Contains all_pairs (a, b)
  pair_of a b other up =
      let both = closed.order.among a b up in
      Contains-filter proper (crossed members members) (a, b) (and_from (not (nat_eq a b)) (is_ancestor g a b) (ap not (ne_eqb a b other)) up)
      (crossed_has members members a b (listed a both.0) (listed b both.1))

  of_pair : (a b : ℕ) → Contains all_pairs (a, b) → (a ≢ b) × (is_ancestor g a b ≡ true)
  of_pair a b pair = let both = and_parts (not (nat_eq a b)) (is_ancestor g a b) (filter-Contains proper (crossed members members) (a, b) pair).0 in
      (differs a b both.0, both.1)

  of_walk : (a b k : ℕ) → Walk all_pairs a b k → (a ≡ b) ⊎ (is_ancestor g a b ≡ true)
  of_walk a b zero same = inl same
  of_walk a b (suc k) walk =
      let last = of_pair walk.0 b walk.2 in
      elim (of_walk a walk.0 k walk.1) [
        | inl same ↦ inr (subst (λ (x : ℕ). is_ancestor g x b ≡ true) (sym same) last.1)
        | inr up ↦ inr (closed.order.transitive a walk.0 b up last.1)
      ]

  abbrev whole : Graph
  whole = record { names = members; pairs = all_pairs }

  no_cycle : (a k : ℕ) → Walk all_pairs a a (suc k) → ⊥
  no_cycle a k walk =
      let last = of_pair walk.0 a walk.2 in
      elim (of_walk a walk.0 k walk.1) [ inl same ↦ last.0 (sym same) | inr up ↦ last.0 (closed.order.antisymmetric walk.0 a last.1 up) ]

  whole_graph : IsGraph whole
  whole_graph = record {
    names = distinct-filter (is_member g) (below n) (distinct_below n);
    pairs = distinct-filter proper (crossed members members) (distinct_crossed members members
        (distinct-filter (is_member g) (below n) (distinct_below n)) (distinct-filter (is_member g) (below n) (distinct_below n)));
    ends = λ a b pair. let found = filter-Contains proper (crossed members members) (a, b) pair in
        (crossed_first members members a b found.1, crossed_second members members a b found.1);
    acyclic = no_cycle;
  }

  whole_closed : IsClosureOf g whole
  whole_closed = record {
    names = λ id. (λ here. (filter-Contains (is_member g) (below n) id here).0, listed id);
    ends = λ a b pair. closed.order.among a b (of_pair a b pair).1;
    acyclic = no_cycle;
    ancestors = λ a d here there. (
      λ walk. elim (of_walk a d walk.0 walk.1) [ inl same ↦ subst (λ (x : ℕ). is_ancestor g a x ≡ true) same (closed.order.reflexive a here) | inr up ↦ up ],
      λ up. elim (cases_eq a d) [ inl same ↦ (0, same) | inr other ↦ (1, (a, refl, pair_of a d other up)) ],
    );
  }

pub closures_have_graphs : ClosuresHaveGraphs
closures_have_graphs n g closed = (whole n g closed, whole_graph n g closed, whole_closed n g closed)
