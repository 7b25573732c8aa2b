-- Plain graphs and their closures, change by change.
use Rattle.std.proofs.Common.{◌≡◌, ◌≢◌, ℕ, suc, zero, Bool, true, false, not, ◌&&◌, ◌||◌, nat_eq, List, [], ◌∷◌, ◌++◌, sym, refl, subst, ap, ap₂, ◌∙◌, inl, inr, ◌⊎◌, ◌↔◌, eqb-true, eq-eqb, ne_eqb, true≢false, append-nil}
use Rattle.std.specs.Prelude.{Contains, filter, map}
use Rattle.std.proofs.lemmas.Bool.{and_parts, and_from, or_cases, or_left, or_right, false_from_ne_true}
use Rattle.std.proofs.Math.Bool.{or_comm}
use Rattle.std.proofs.lemmas.List.Elements.{Contains-append_left, Contains-append_right, Contains-append_cases, Contains-push_cases}
use Rattle.lists.proofs.Cases.{differs, same_test}
use Rattle.lists.proofs.Entries.{Contains-head, Contains-later, Contains-cases, none_in_empty, Contains-filter, filter-Contains, map-Contains, Contains-map}
use Rattle.lists.specs.Walks.{IsWalk}
use Rattle.lists.proofs.Walks.{Walk-push, Walk-back}
use Rattle.graphs.specs.Graphs.{Graph, Walk, IsAncestor, Trail, AreConnected, HasNoCycle}
use Rattle.graphs.specs.Graphs as plain
use Rattle.graphs.specs.Closures.{Closure, is_member, is_ancestor, IsOrder, IsRelated, AreLinked, IsCover}
use Rattle.graphs.specs.Removals.{IsWithout}
use Rattle.graphs.specs.Closing.{Closes, IsClosureOf, with_name, with_pair, joined, within, AreWithout, KeepsBetween, KeepsApart, IsRenamed, renamed}
use Rattle.graphs.proofs.WalkLemmas.{IsAncestor-trans, IsAncestor-itself, AreConnected-trans, AreConnected-sym, AreConnected-itself, walk_connects, walk_within}
use Rattle.graphs.proofs.PairLemmas.{ancestors_through, no_cycle_with_pair}
use Rattle.graphs.proofs.RemovalLemmas.{ancestors_without, no_cycle_left, ends_without}

-- ---- by itself

module _ (m : ℕ → Bool) (r : ℕ → ℕ → Bool) (graph : Graph) (c : Closes m r graph) where
  -- along pairs one stays among the members
  pub walk_stays : (a b n : ℕ) → Walk graph.pairs a b n → m a ≡ true → m b ≡ true
  walk_stays a b zero same here = subst (λ (x : ℕ). m x ≡ true) same here
  walk_stays a b (suc n) walk here = (c.ends walk.0 b walk.2).1

  pub pair_above : (a b : ℕ) → Contains graph.pairs (a, b) → r a b ≡ true
  pair_above a b pair = let both = c.ends a b pair in (c.ancestors a b both.0 both.1).0 (1, (a, refl, pair))

  pub above_itself : (a : ℕ) → m a ≡ true → r a a ≡ true
  above_itself a here = (c.ancestors a a here here).0 (0, refl)

  -- an ancestor is the same name, or both are members
  pub ancestor_cases : (a b n : ℕ) → Walk graph.pairs a b n → (a ≡ b) ⊎ ((m a ≡ true) × (m b ≡ true) × (r a b ≡ true))
  ancestor_cases a b zero same = inl same
  ancestor_cases a b (suc n) walk =
      let last = c.ends walk.0 b walk.2 in
      let first : m a ≡ true = elim (ancestor_cases a walk.0 n walk.1) [ inl same ↦ subst (λ (x : ℕ). m x ≡ true) (sym same) last.0 | inr both ↦ both.0 ] in
      inr (first, last.1, (c.ancestors a b first last.1).0 (suc n, walk))

  -- another relation that says the same of the members
  pub closes_like : (k : ℕ → Bool) (t : ℕ → ℕ → Bool) → ((p : ℕ) → k p ≡ m p) → ((a d : ℕ) → m a ≡ true → m d ≡ true → t a d ≡ r a d) → Closes k t graph
  closes_like k t same alike = record {
    names = λ id. (λ here. same id ∙ (c.names id).0 here, λ member. (c.names id).1 (sym (same id) ∙ member));
    ends = λ p q pair. let both = c.ends p q pair in (same p ∙ both.0, same q ∙ both.1);
    acyclic = c.acyclic;
    ancestors = λ a d here there.
        let one : m a ≡ true = sym (same a) ∙ here in let two : m d ≡ true = sym (same d) ∙ there in
        let law = c.ancestors a d one two in (λ walk. alike a d one two ∙ law.0 walk, λ up. law.1 (sym (alike a d one two) ∙ up));
  }

  -- where only members are related, the relation is an order on them
  pub order_from : ((a d : ℕ) → r a d ≡ true → (m a ≡ true) × (m d ≡ true)) → IsOrder m r
  order_from among = record {
    among = among;
    reflexive = above_itself;
    transitive = λ x y z e f.
        let one = among x y e in let two = among y z f in
        (c.ancestors x z one.0 two.1).0 (IsAncestor-trans graph.pairs x y z ((c.ancestors x y one.0 one.1).1 e) ((c.ancestors y z two.0 two.1).1 f));
    antisymmetric = λ x y e f.
        let one = among x y e in let two = among y x f in
        together x y ((c.ancestors x y one.0 one.1).1 e) ((c.ancestors y x two.0 two.1).1 f);
  }
    where
      together : (x y : ℕ) → IsAncestor graph.pairs x y → IsAncestor graph.pairs y x → x ≡ y
      together x y up (zero, same) = sym same
      together x y up (suc n, (v, walk, pair)) = let before = IsAncestor-trans graph.pairs x y v up (n, walk) in
          absurd (c.acyclic x before.0 (v, before.1, pair))

  -- where the relation is an order on the members, it says who is an ancestor of whom among all numbers
  module _ (order : IsOrder m r) where
    pub ancestors_told : (a b : ℕ) → IsAncestor graph.pairs a b ↔ ((a ≡ b) ⊎ (r a b ≡ true))
    ancestors_told a b = (
      λ walk. elim (ancestor_cases a b walk.0 walk.1) [ inl same ↦ inl same | inr both ↦ inr both.2 ],
      λ above.
          elim above [ inl same ↦ IsAncestor-itself graph.pairs a b same | inr up ↦ let both = order.among a b up in (c.ancestors a b both.0 both.1).1 up ],
    )

-- ---- one more pair

pub closes_pair : (m : ℕ → Bool) (r : ℕ → ℕ → Bool) (graph : Graph) (parent child : ℕ)
    → Closes m r graph → m parent ≡ true → m child ≡ true → r child parent ≡ false
    → Closes m (λ a d. r a d || (r a parent && r child d)) (with_pair graph parent child)
closes_pair m r graph parent child c in_parent in_child apart = record {
  names = c.names;
  ends = λ a b here. elim (Contains-push_cases graph.pairs (parent, child) (a, b) here) [
    | inl old ↦ c.ends a b old
    | inr new ↦ (ap (λ (pair : ℕ × ℕ). m pair.0) (sym new) ∙ in_parent, ap (λ (pair : ℕ × ℕ). m pair.1) (sym new) ∙ in_child)
  ];
  acyclic = (no_cycle_with_pair graph.pairs parent child c.acyclic).1 (λ walk. true≢false (sym ((c.ancestors child parent in_child in_parent).0 walk) ∙ apart));
  ancestors = λ a d here there.
      let law = ancestors_through graph.pairs parent child a d in
      let over = c.ancestors a d here there in let up = c.ancestors a parent here in_parent in let down = c.ancestors child d in_child there in (
        λ walk. elim (law.0 walk) [
          | inl old ↦ or_left (r a d) (r a parent && r child d) (over.0 old)
          | inr both ↦ or_right (r a d) (r a parent && r child d) (and_from (r a parent) (r child d) (up.0 both.0) (down.0 both.1))
        ],
        λ e. law.1 (elim (or_cases (r a d) (r a parent && r child d) e) [
          | inl old ↦ inl (over.1 old)
          | inr across ↦ let both = and_parts (r a parent) (r child d) across in inr (up.1 both.0, down.1 both.1)
        ]),
      );
}

-- ---- two put together

-- pairs of which some are of members of m, and all others are between others
module _ (m : ℕ → Bool) (own all : List (ℕ × ℕ)) (ends : (a b : ℕ) → Contains own (a, b) → m b ≡ true)
    (cases : (a b : ℕ) → Contains all (a, b) → Contains own (a, b) ⊎ (m a ≡ true → ⊥)) where
  pub stays_in : (a b n : ℕ) → m a ≡ true → Walk all a b n → Walk own a b n × (m b ≡ true)
  stays_in a b zero here same = (same, subst (λ (x : ℕ). m x ≡ true) same here)
  stays_in a b (suc n) here walk =
      let before = stays_in a walk.0 n here walk.1 in
      elim (cases walk.0 b walk.2) [ inl mine ↦ ((walk.0, before.0, mine), ends walk.0 b mine) | inr other ↦ absurd (other before.1) ]

module _ (m k : ℕ → Bool) (r : ℕ → ℕ → Bool) (first second : Graph) (one : Closes m r first)
    (two : Closes k r second) (disjoint : (p : ℕ) → m p ≡ true → k p ≡ true → ⊥)
    (apart : (a b : ℕ) → m a ≡ true → k b ≡ true → (r a b ≡ false) × (r b a ≡ false)) where
  abbrev all : List (ℕ × ℕ)
  all = first.pairs ++ second.pairs

  stays_first : (a b n : ℕ) → m a ≡ true → Walk all a b n → Walk first.pairs a b n × (m b ≡ true)
  stays_first = stays_in m first.pairs all (λ a b pair. (one.ends a b pair).1) (λ a b pair. elim (Contains-append_cases first.pairs second.pairs (a, b) pair) [
    | inl mine ↦ inl mine
    | inr other ↦ inr (λ here. disjoint a here (two.ends a b other).0)
  ])

  stays_second : (a b n : ℕ) → k a ≡ true → Walk all a b n → Walk second.pairs a b n × (k b ≡ true)
  stays_second =
      stays_in k second.pairs all (λ a b pair. (two.ends a b pair).1) (λ a b pair. elim (Contains-append_cases first.pairs second.pairs (a, b) pair) [
        | inl other ↦ inr (λ there. disjoint a (one.ends a b other).0 there)
        | inr mine ↦ inl mine
      ])

  in_first : (a b : ℕ) → IsAncestor first.pairs a b → IsAncestor all a b
  in_first a b walk = (walk.0, walk_within first.pairs all (λ p c pair. Contains-append_left first.pairs second.pairs (p, c) pair) a b walk.0 walk.1)

  in_second : (a b : ℕ) → IsAncestor second.pairs a b → IsAncestor all a b
  in_second a b walk = (walk.0, walk_within second.pairs all (λ p c pair. Contains-append_right first.pairs second.pairs (p, c) pair) a b walk.0 walk.1)

  pub closes_both : Closes (λ q. m q || k q) r (joined first second)
  closes_both = record {
    names = λ id. (
      λ here. elim (Contains-append_cases first.names second.names id
          here) [ inl mine ↦ or_left (m id) (k id) ((one.names id).0 mine) | inr other ↦ or_right (m id) (k id) ((two.names id).0 other) ],
      λ member. elim (or_cases (m id) (k id) member) [
        | inl mine ↦ Contains-append_left first.names second.names id ((one.names id).1 mine)
        | inr other ↦ Contains-append_right first.names second.names id ((two.names id).1 other)
      ],
    );
    ends = λ a b pair. elim (Contains-append_cases first.pairs second.pairs (a, b) pair) [
      | inl mine ↦ let both = one.ends a b mine in (or_left (m a) (k a) both.0, or_left (m b) (k b) both.1)
      | inr other ↦ let both = two.ends a b other in (or_right (m a) (k a) both.0, or_right (m b) (k b) both.1)
    ];
    acyclic = λ a n walk. elim (Contains-append_cases first.pairs second.pairs (walk.0, a) walk.2) [
      | inl mine ↦ one.acyclic a n (stays_first a a (suc n) (one.ends walk.0 a mine).1 walk).0
      | inr other ↦ two.acyclic a n (stays_second a a (suc n) (two.ends walk.0 a other).1 walk).0
    ];
    ancestors = λ a d here there. elim (or_cases (m a) (k a) here) [
      | inl from ↦ (
        λ walk. let own = stays_first a d walk.0 from walk.1 in (one.ancestors a d from own.1).0 (walk.0, own.0),
        λ up. elim (or_cases (m d) (k d) there) [
          | inl to ↦ in_first a d ((one.ancestors a d from to).1 up)
          | inr to ↦ absurd (true≢false (sym up ∙ (apart a d from to).0))
        ],
      )
      | inr from ↦ (
        λ walk. let own = stays_second a d walk.0 from walk.1 in (two.ancestors a d from own.1).0 (walk.0, own.0),
        λ up. elim (or_cases (m d) (k d) there) [
          | inl to ↦ absurd (true≢false (sym up ∙ (apart d a to from).1))
          | inr to ↦ in_second a d ((two.ancestors a d from to).1 up)
        ],
      )
    ];
  }

  pub closes_across : (parent child : ℕ) → m parent ≡ true → k child ≡ true
      → Closes (λ q. m q || k q) (λ a d. r a d || (r a parent && r child d)) (with_pair (joined first second) parent child)
  closes_across parent child above below =
      closes_pair (λ q. m q || k q) r (joined first second) parent child closes_both
      (or_left (m parent) (k parent) above) (or_right (m child) (k child) below) (apart parent child above below).1

-- ---- one more name

closes_one : (r : ℕ → ℕ → Bool) (id : ℕ) → r id id ≡ true → Closes (λ q. nat_eq q id) r (record { names = id ∷ []; pairs = [] })
closes_one r id itself = record {
  names = λ q. (
    λ here. elim (Contains-cases id q [] here) [ inl same ↦ eq-eqb q id (sym same) | inr later ↦ absurd (none_in_empty q later) ],
    λ is. subst (Contains (id ∷ [])) (sym (eqb-true q id is)) (Contains-head id []),
  );
  ends = λ a b pair. absurd (none_in_empty (a, b) pair);
  acyclic = λ a n walk. none_in_empty (walk.0, a) walk.2;
  ancestors = λ a d here there. (
    λ _. ap₂ r (eqb-true a id here) (eqb-true d id there) ∙ itself,
    λ _. (0, eqb-true a id here ∙ sym (eqb-true d id there)),
  );
}

closes_name : (m : ℕ → Bool) (r : ℕ → ℕ → Bool) (graph : Graph) (id : ℕ) → Closes m r graph
    → m id ≡ false → r id id ≡ true → ((a : ℕ) → m a ≡ true → (r a id ≡ false) × (r id a ≡ false))
    → Closes (λ q. m q || nat_eq q id) r (with_name graph id)
closes_name m r graph id c new itself apart =
    subst (λ (pairs : List (ℕ × ℕ)). Closes (λ q. m q || nat_eq q id) r (record { names = graph.names ++ id ∷ []; pairs = pairs })) (append-nil graph.pairs)
    (closes_both m (λ q. nat_eq q id) r graph (record { names = id ∷ []; pairs = [] }) c (closes_one r id itself)
    (λ p here same. true≢false (sym here ∙ ap m (eqb-true p id same) ∙ new))
    (λ a b here same. let is : b ≡ id = eqb-true b id same in let none = apart a here in (ap (r a) is ∙ none.0, ap (λ x. r x a) is ∙ none.1)))

module _ (m : ℕ → Bool) (r : ℕ → ℕ → Bool) (graph : Graph) (id : ℕ) (c : Closes m r graph)
    (new : m id ≡ false) (among : (a d : ℕ) → r a d ≡ true → (m a ≡ true) × (m d ≡ true)) where
  abbrev more : ℕ → ℕ → Bool
  more a d = (nat_eq a id && nat_eq d id) || r a d

  other : (a : ℕ) → m a ≡ true → nat_eq a id ≡ false
  other a here = ne_eqb a id (λ same. true≢false (sym here ∙ ap m same ∙ new))

  was : (a d : ℕ) → m a ≡ true → more a d ≡ r a d
  was a d here = ap (λ b. (b && nat_eq d id) || r a d) (other a here)

  pub closes_added : Closes (λ q. nat_eq q id || m q) more (with_name graph id)
  closes_added =
      closes_like (λ q. m q || nat_eq q id) more (with_name graph id)
      (closes_name m more graph id (closes_like m r graph c m more (λ p. refl) (λ a d here there. was a d here)) new
      (or_left (nat_eq id id && nat_eq id id) (r id id) (and_from (nat_eq id id) (nat_eq id id) (eq-eqb id id refl) (eq-eqb id id refl)))
      (λ a here. (
        was a id here ∙ false_from_ne_true (r a id) (λ up. true≢false (sym (among a id up).1 ∙ new)),
        ap (λ b. (nat_eq id id && b) || r id a) (other a here) ∙ ap (λ b. (b && false) || r id a) (eq-eqb id id refl)
            ∙ false_from_ne_true (r id a) (λ up. true≢false (sym (among id a up).0 ∙ new)),
      )))
      (λ q. nat_eq q id || m q) more (λ q. or_comm (nat_eq q id) (m q)) (λ a d here there. refl)

-- ---- names dropped

pub closes_without : (m : ℕ → Bool) (r : ℕ → ℕ → Bool) (old new : Graph) (id : ℕ)
    → Closes m r old → IsWithout old id new → Closes (λ q. not (nat_eq q id) && m q) r new
closes_without m r old new id c without = record {
  names = λ q. (
    λ here. let was = (without.names q).0 here in stays q was.1 ((c.names q).0 was.0),
    λ member. let both = left q member in (without.names q).1 ((c.names q).1 both.1, both.0),
  );
  ends = λ a b pair.
      let there = (without.pairs a b).0 pair in
      let both = ends_without old new id without (λ x. m x ≡ true) c.ends a b pair in
      (stays a there.0 both.0, stays b there.1 both.1);
  acyclic = no_cycle_left old new id without c.acyclic;
  ancestors = λ a d here there.
      let one = left a here in let two = left d there in
      let law = ancestors_without old new id without a d in let was = c.ancestors a d one.1 two.1 in (
        λ walk. elim (law.0 walk) [ inl same ↦ was.0 (0, same) | inr old ↦ was.0 old.2 ],
        λ up. law.1 (inr (one.0, two.0, was.1 up)),
      );
}
  where
    stays : (q : ℕ) → q ≢ id → m q ≡ true → (not (nat_eq q id) && m q) ≡ true
    stays q other here = and_from (not (nat_eq q id)) (m q) (ap not (ne_eqb q id other)) here

    left : (q : ℕ) → (not (nat_eq q id) && m q) ≡ true → (q ≢ id) × (m q ≡ true)
    left q e = let both = and_parts (not (nat_eq q id)) (m q) e in (differs q id both.0, both.1)

pub closes_without_all : (ids : List ℕ) (m : ℕ → Bool) (r : ℕ → ℕ → Bool) (old new : Graph) → Closes m r old → AreWithout old ids new
    → (left : ℕ → Bool) → ((q : ℕ) → (left q ≡ true) ↔ ((m q ≡ true) × (Contains ids q → ⊥))) → Closes left r new
closes_without_all [] m r old new c same left is =
    closes_like m r new (subst (Closes m r) (sym same) c) left r
    (λ q. same_test (left q) (m q) (λ e. ((is q).0 e).0) (λ e. (is q).1 (e, none_in_empty q))) (λ a d here there. refl)
closes_without_all (x ∷ xs) m r old new c without left is =
    closes_without_all xs (λ q. not (nat_eq q x) && m q) r without.0 new (closes_without m r old without.0 x c without.1) without.2 left (λ q. (
      λ e. let was = (is q).0 e in (
        and_from (not (nat_eq q x)) (m q) (ap not (ne_eqb q x (λ same. was.1 (subst (Contains (x ∷ xs)) (sym same) (Contains-head x xs))))) was.0,
        λ later. was.1 (Contains-later x q xs later),
      ),
      λ was. let both = and_parts (not (nat_eq q x)) (m q) was.0 in
          (is q).1 (both.1, λ here. elim (Contains-cases x q xs here) [ inl same ↦ differs q x both.0 (sym same) | inr later ↦ was.1 later ]),
    ))

-- what lies between kept names is kept
module _ (m keep : ℕ → Bool) (r : ℕ → ℕ → Bool) (graph : Graph) (c : Closes m r graph) (between : KeepsBetween keep r) where
  abbrev inner : List (ℕ × ℕ)
  inner = filter (λ pair. keep pair.0 && keep pair.1) graph.pairs

  outer : (a b : ℕ) → Contains inner (a, b) → Contains graph.pairs (a, b)
  outer a b pair = (filter-Contains (λ pair. keep pair.0 && keep pair.1) graph.pairs (a, b) pair).1

  inside : (a b n : ℕ) → m a ≡ true → keep a ≡ true → keep b ≡ true → Walk graph.pairs a b n → Walk inner a b n
  inside a b zero here from to same = same
  inside a b (suc n) here from to walk =
      let before : r a walk.0 ≡ true = (c.ancestors a walk.0 here (c.ends walk.0 b walk.2).0).0 (n, walk.1) in
      let kept : keep walk.0 ≡ true = between a walk.0 b from to before (pair_above m r graph c walk.0 b walk.2) in (
        walk.0,
        inside a walk.0 n here from kept walk.1,
        Contains-filter (λ pair. keep pair.0 && keep pair.1) graph.pairs (walk.0, b)
            (and_from (keep walk.0) (keep b) kept to) walk.2,
      )

  pub closes_within : Closes (λ q. keep q && m q) r (within keep graph)
  closes_within = record {
    names = λ id. (
      λ here. let found = filter-Contains keep graph.names id here in and_from (keep id) (m id) found.0 ((c.names id).0 found.1),
      λ member. let both = and_parts (keep id) (m id) member in Contains-filter keep graph.names id both.0 ((c.names id).1 both.1),
    );
    ends = λ a b pair.
        let found = filter-Contains (λ pair. keep pair.0 && keep pair.1) graph.pairs (a, b) pair in
        let kept = and_parts (keep a) (keep b) found.0 in let both = c.ends a b found.1 in
        (and_from (keep a) (m a) kept.0 both.0, and_from (keep b) (m b) kept.1 both.1);
    acyclic = λ a n walk. c.acyclic a n (walk_within inner graph.pairs outer a a (suc n) walk);
    ancestors = λ a d here there.
        let one = and_parts (keep a) (m a) here in let two = and_parts (keep d) (m d) there in let was = c.ancestors a d one.1 two.1 in (
          λ walk. was.0 (walk.0, walk_within inner graph.pairs outer a d walk.0 walk.1),
          λ up. let walk = was.1 up in (walk.0, inside a d walk.0 one.1 one.0 two.0 walk.1),
        );
  }

-- ---- other names

pub renamed_is : (f : ℕ → ℕ) (graph : Graph) → IsRenamed f graph (renamed f graph)
renamed_is f graph = record {
  names = λ id. (map-Contains f graph.names id, λ there. subst (Contains (map f graph.names)) there.2 (Contains-map f graph.names there.0 there.1));
  pairs = λ parent child. (
    λ here.
        let found = map-Contains (λ (pair : ℕ × ℕ). (f pair.0, f pair.1)) graph.pairs (parent, child) here in
        (found.0.0, found.0.1, found.1, ap (λ (pair : ℕ × ℕ). pair.0) found.2, ap (λ (pair : ℕ × ℕ). pair.1) found.2),
    λ there.
        let one : f there.0 ≡ parent = there.3 in let two : f there.1 ≡ child = there.4 in
        subst (Contains (map (λ (pair : ℕ × ℕ). (f pair.0, f pair.1)) graph.pairs)) (λ i. (one i, two i))
        (Contains-map (λ (pair : ℕ × ℕ). (f pair.0, f pair.1)) graph.pairs (there.0, there.1) there.2),
  );
}

module _ (f : ℕ → ℕ) (old new : Graph) (ends : (a b : ℕ) → Contains old.pairs (a, b) → Contains old.names a × Contains old.names b)
    (apart : KeepsApart f old.names) (is : IsRenamed f old new) where
  pub new_pair : (a b : ℕ) → Contains old.pairs (a, b) → Contains new.pairs (f a, f b)
  new_pair a b pair = (is.pairs (f a) (f b)).1 (a, b, pair, refl, refl)

  pub new_walk : (a b n : ℕ) → Walk old.pairs a b n → Walk new.pairs (f a) (f b) n
  new_walk a b zero same = ap f same
  new_walk a b (suc n) walk = (f walk.0, new_walk a walk.0 n walk.1, new_pair walk.0 b walk.2)

  -- a walk by new names that begins at one of them is one by old names
  pub old_walk : (a y n : ℕ) → Contains old.names a → Walk new.pairs (f a) y n → (b : ℕ) × Contains old.names b × (f b ≡ y) × Walk old.pairs a b n
  old_walk a y zero here same = (a, here, same, refl)
  old_walk a y (suc n) here walk =
      let before = old_walk a walk.0 n here walk.1 in
      let last = (is.pairs walk.0 y).0 walk.2 in
      let both = ends last.0 last.1 last.2 in
      let same : last.0 ≡ before.0 = apart last.0 before.0 both.0 before.1 (last.3 ∙ sym before.2) in
      (last.1, both.1, last.4, (before.0, before.3, subst (λ (x : ℕ). Contains old.pairs (x, last.1)) same last.2))

  pub old_ancestor : (a b : ℕ) → Contains old.names a → Contains old.names b → IsAncestor new.pairs (f a) (f b) → IsAncestor old.pairs a b
  old_ancestor a b here there walk =
      let found = old_walk a (f b) walk.0 here walk.1 in
      (walk.0, subst (λ (x : ℕ). Walk old.pairs a x walk.0) (apart found.0 b found.1 there found.2) found.3)

  pub no_cycle_renamed : HasNoCycle old.pairs → HasNoCycle new.pairs
  no_cycle_renamed none y n walk =
      let last = (is.pairs walk.0 y).0 walk.2 in
      let here = (ends last.0 last.1 last.2).1 in
      let found = old_walk last.1 y (suc n) here (subst (λ (x : ℕ). Walk new.pairs x y (suc n)) (sym last.4) walk) in
      none last.1 n (subst (λ (x : ℕ). Walk old.pairs last.1 x (suc n)) (apart found.0 last.1 found.1 here (found.2 ∙ sym last.4)) found.3)

module _ (f : ℕ → ℕ) (m k : ℕ → Bool) (r t : ℕ → ℕ → Bool) (old new : Graph) (c : Closes m r old) (apart : KeepsApart f old.names) (is : IsRenamed f old new)
    (members : (q : ℕ) → (k q ≡ true) ↔ ((p : ℕ) × (m p ≡ true) × (f p ≡ q))) (alike : (a d : ℕ) → m a ≡ true → m d ≡ true → t (f a) (f d) ≡ r a d) where
  named_ends : (a b : ℕ) → Contains old.pairs (a, b) → Contains old.names a × Contains old.names b
  named_ends a b pair = let both = c.ends a b pair in ((c.names a).1 both.0, (c.names b).1 both.1)

  pub closes_renamed : Closes k t new
  closes_renamed = record {
    names = λ id. (
      λ here. let was = (is.names id).0 here in (members id).1 (was.0, (c.names was.0).0 was.1, was.2),
      λ member. let was = (members id).0 member in (is.names id).1 (was.0, (c.names was.0).1 was.1, was.2),
    );
    ends = λ a b pair.
        let was = (is.pairs a b).0 pair in let both = c.ends was.0 was.1 was.2 in
        ((members a).1 (was.0, both.0, was.3), (members b).1 (was.1, both.1, was.4));
    acyclic = no_cycle_renamed f old new named_ends apart is c.acyclic;
    ancestors = λ x y here there.
        let a = (members x).0 here in let d = (members y).0 there in
        let law = c.ancestors a.0 d.0 a.1 d.1 in
        let same : t x y ≡ r a.0 d.0 = ap₂ t (sym a.2) (sym d.2) ∙ alike a.0 d.0 a.1 d.1 in (
          λ walk.
              let by_old : IsAncestor new.pairs (f a.0) (f d.0) =
              (walk.0, subst (λ (z : ℕ). Walk new.pairs (f a.0) z walk.0) (sym d.2) (subst (λ (z : ℕ). Walk new.pairs z y walk.0) (sym a.2) walk.1)) in
              same ∙ law.0 (old_ancestor f old new named_ends apart is a.0 d.0 ((c.names a.0).1 a.1) ((c.names d.0).1 d.1) by_old),
          λ up.
              let walk = law.1 (sym same ∙ up) in (
                walk.0,
                subst (λ (z : ℕ). Walk new.pairs x z walk.0) d.2
                    (subst (λ (z : ℕ). Walk new.pairs z (f d.0) walk.0) a.2 (new_walk f old new named_ends apart is a.0 d.0 walk.0 walk.1)),
              ),
        );
  }

-- ---- components and covering pairs

pub related_back : (g : Closure) (a b : ℕ) → IsRelated g a b → IsRelated g b a
related_back g a b related = elim related [ inl up ↦ inr up | inr down ↦ inl down ]

pub linked_back : (g : Closure) (a b : ℕ) → AreLinked g a b → AreLinked g b a
linked_back g = Walk-back (IsRelated g) (related_back g)

module _ (g : Closure) (graph : Graph) (order : IsOrder (is_member g) (is_ancestor g)) (c : IsClosureOf g graph) where
  told : (a b : ℕ) → IsAncestor graph.pairs a b ↔ ((a ≡ b) ⊎ (is_ancestor g a b ≡ true))
  told = ancestors_told (is_member g) (is_ancestor g) graph c order

  related_connects : (a b : ℕ) → IsRelated g a b → AreConnected graph.pairs a b
  related_connects a b related = elim related [
    | inl up ↦ let walk = (told a b).1 (inr up) in walk_connects graph.pairs a b walk.0 walk.1
    | inr down ↦ let walk = (told b a).1 (inr down) in AreConnected-sym graph.pairs b a (walk_connects graph.pairs b a walk.0 walk.1)
  ]

  linked_connects : (a b : ℕ) (vs : List ℕ) → IsWalk (IsRelated g) a vs b → AreConnected graph.pairs a b
  linked_connects a b [] same = AreConnected-itself graph.pairs a b same
  linked_connects a b (v ∷ vs) walk = AreConnected-trans graph.pairs a v b (related_connects a v walk.0) (linked_connects v b vs walk.1)

  step_related : (a b : ℕ) → Contains graph.pairs (a, b) ⊎ Contains graph.pairs (b, a) → IsRelated g a b
  step_related a b step = elim step [
    | inl down ↦ inl (pair_above (is_member g) (is_ancestor g) graph c a b down)
    | inr up ↦ inr (pair_above (is_member g) (is_ancestor g) graph c b a up)
  ]

  trail_links : (a b n : ℕ) → Trail graph.pairs a b n → AreLinked g a b
  trail_links a b zero same = ([], same)
  trail_links a b (suc n) trail = Walk-push (IsRelated g) a trail.0 b (trail_links a trail.0 n trail.1) (step_related trail.0 b trail.2)

  pub connected_linked : (a b : ℕ) → AreConnected graph.pairs a b ↔ AreLinked g a b
  connected_linked a b = (λ trail. trail_links a b trail.0 trail.1, λ linked. linked_connects a b linked.0 linked.1)

  up_from : (a b : ℕ) → IsAncestor graph.pairs a b → is_member g b ≡ true → is_ancestor g a b ≡ true
  up_from a b walk here = elim ((told a b).0 walk) [ inl same ↦ subst (λ (x : ℕ). is_ancestor g x b ≡ true) (sym same) (order.reflexive b here) | inr up ↦ up ]

  cover_of : (a d : ℕ) → IsCover g a d → plain.IsCover graph.pairs a d
  cover_of a d cover = record {
    ancestor = (told a d).1 (inr cover.ancestor);
    other = cover.other;
    between = λ m over under.
        let low : is_ancestor g m d ≡ true = up_from m d under (order.among a d cover.ancestor).1 in
        cover.direct m (up_from a m over (order.among m d low).0) low;
  }

  of_cover : (a d : ℕ) → plain.IsCover graph.pairs a d → IsCover g a d
  of_cover a d cover = record {
    ancestor = elim ((told a d).0 cover.ancestor) [ inl same ↦ absurd (cover.other same) | inr up ↦ up ];
    other = cover.other;
    direct = λ m over under. cover.between m ((told a m).1 (inr over)) ((told m d).1 (inr under));
  }

  pub covers_agree : (a d : ℕ) → plain.IsCover graph.pairs a d ↔ IsCover g a d
  covers_agree a d = (of_cover a d, cover_of a d)
