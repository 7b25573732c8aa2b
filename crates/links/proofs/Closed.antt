-- The closure of links.
use Rattle.std.proofs.Common.{◌≡◌, ℕ, ℤ, zero, suc, ◌⊎◌, inl, inr, Bool, true, false, cond, nat_eq, eq-eqb, Option, Some, None, List, [], ◌∷◌, ◌++◌, refl, sym, ap, ◌∙◌, subst, true≢false}
use Rattle.std.specs.Prelude.{Contains, ◌↔◌, ◌||◌, ◌&&◌, is_some}
use Rattle.std.specs.List.{filter, list_any}
use Rattle.std.specs.Ordering.{nat_cmp}
use Rattle.std.specs.Cmp.{nat_cmp_total, unsigned_tied}
use Rattle.std.specs.FinSet as set
use Rattle.std.specs.FinMap as finmap
use Rattle.std.proofs.lemmas.Bool.{eqb-true, and_parts, and_from, or_left, or_right}
use Rattle.std.proofs.lemmas.List.Elements.{Contains-push, Contains-push_cases, Contains-append_left}
use Rattle.lists.specs.Distinct.{AreDistinct}
use Rattle.lists.proofs.Entries.{Contains-head, Contains-later, Contains-cases, Contains-filter, filter-Contains, Contains-map, none_in_empty}
use Rattle.graphs.specs.Graphs.{Walk, IsAncestor, HasNoCycle}
use Rattle.graphs.specs.Certificates.{Txs}
use Rattle.graphs.specs.Closures.{Node, is_member, is_ancestor, ancestors_of, ancestors_in, rate_of, rate_in, IsOrder}
use Rattle.graphs.specs.Closing.{IsClosureOf}
use Rattle.graphs.proofs.PairLemmas.{ancestors_through}
use Rattle.graphs.proofs.WalkLemmas.{walk_within, IsAncestor-trans}
use Rattle.links.specs.Links.{Links, AreLinks, graph}
use Rattle.links.specs.Kept.{names_of}
use Rattle.links.specs.Closing.{leads, node, nodes, closure}

-- ---- what leads

either_way : (b c : Bool) → (b || c) ≡ true → (b ≡ true) ⊎ (c ≡ true)
either_way true c h = inl refl
either_way false c h = inr h

front_back : (pairs : List (ℕ × ℕ)) (p : ℕ × ℕ) (a b : ℕ) → Contains {X = ℕ × ℕ} (p ∷ pairs) (a, b) → Contains {X = ℕ × ℕ} (pairs ++ p ∷ []) (a, b)
front_back pairs p a b here = elim (Contains-cases p (a, b) pairs here) [
  | inl same ↦ subst (λ (x : ℕ × ℕ). Contains (pairs ++ p ∷ []) x) same (Contains-push pairs p)
  | inr later ↦ Contains-append_left pairs (p ∷ []) (a, b) later
]

back_front : (pairs : List (ℕ × ℕ)) (p : ℕ × ℕ) (a b : ℕ) → Contains {X = ℕ × ℕ} (pairs ++ p ∷ []) (a, b) → Contains {X = ℕ × ℕ} (p ∷ pairs) (a, b)
back_front pairs p a b here = elim (Contains-push_cases pairs p (a, b) here) [
  | inl early ↦ Contains-later p (a, b) pairs early
  | inr same ↦ subst (λ (x : ℕ × ℕ). Contains (p ∷ pairs) x) same (Contains-head p pairs)
]

empty_walk : (a b n : ℕ) → Walk [] a b n → a ≡ b
empty_walk a b zero same = same
empty_walk a b (suc n) (c, walk, pair) = absurd (none_in_empty (c, b) pair)

leads_walk : (pairs : List (ℕ × ℕ)) (a d : ℕ) → leads pairs a d ≡ true → IsAncestor pairs a d
unfolding leads
leads_walk [] a d h = (0, eqb-true a d h)
leads_walk (p ∷ pairs) a d h =
    let through : IsAncestor (pairs ++ p ∷ []) a d =
    (ancestors_through pairs p.0 p.1 a d).1 (elim (either_way (leads pairs a d) (leads pairs a p.0 && leads pairs p.1 d) h) [
      | inl old ↦ inl (leads_walk pairs a d old)
      | inr new ↦ let both = and_parts (leads pairs a p.0) (leads pairs p.1 d) new in
          inr (leads_walk pairs a p.0 both.0, leads_walk pairs p.1 d both.1)
    ]) in
    (through.0, walk_within (pairs ++ p ∷ []) (p ∷ pairs) (back_front pairs p) a d through.0 through.1)

walk_leads : (pairs : List (ℕ × ℕ)) (a d : ℕ) → IsAncestor pairs a d → leads pairs a d ≡ true
unfolding leads
walk_leads [] a d walk = eq-eqb a d (empty_walk a d walk.0 walk.1)
walk_leads (p ∷ pairs) a d walk =
    elim ((ancestors_through pairs p.0 p.1 a d).0 (walk.0, walk_within (p ∷ pairs) (pairs ++ p ∷ []) (front_back pairs p) a d walk.0 walk.1)) [
      | inl old ↦ or_left (leads pairs a d) (leads pairs a p.0 && leads pairs p.1 d) (walk_leads pairs a d old)
      | inr both ↦ or_right (leads pairs a d) (leads pairs a p.0 && leads pairs p.1 d)
          (and_from (leads pairs a p.0) (leads pairs p.1 d) (walk_leads pairs a p.0 both.0) (walk_leads pairs p.1 d both.1))
    ]

-- ---- what the closure has

-- the node of a name among transactions
unfoldable pub node_of : List ℕ → List (ℕ × ℕ) → Txs → ℕ → Option Node
node_of names pairs [] q = None
node_of names pairs (tx ∷ txs) q = cond (nat_eq q tx.0) (Some (node names pairs tx)) (node_of names pairs txs q)

pub get_node : (names : List ℕ) (pairs : List (ℕ × ℕ)) (txs : Txs) (q : ℕ) → finmap.get (nodes names pairs txs) q ≡ node_of names pairs txs q
unfolding nodes node_of
get_node names pairs [] q = finmap.get-empty nat_cmp q
get_node names pairs (tx ∷ txs) q =
    finmap.get-insert nat_cmp_total (nodes names pairs txs) tx.0 (node names pairs tx) q
    ∙ ap (λ b. cond b (Some (node names pairs tx)) (finmap.get (nodes names pairs txs) q)) (unsigned_tied q tx.0)
    ∙ ap (cond (nat_eq q tx.0) (Some (node names pairs tx))) (get_node names pairs txs q)

-- a transaction of the name and its node, or none
pub data HasNode (names : List ℕ) (pairs : List (ℕ × ℕ)) (txs : Txs) (q : ℕ) (o : Option Node) : Type 0 where
  Node_of : (tx : ℕ × ℤ × ℕ) → Contains txs tx → tx.0 ≡ q → o ≡ Some (node names pairs tx) → HasNode names pairs txs q o
  No_node : (Contains (names_of txs) q → ⊥) → o ≡ None → HasNode names pairs txs q o

one_node : (names : List ℕ) (pairs : List (ℕ × ℕ)) (tx : ℕ × ℤ × ℕ) (txs : Txs) (q : ℕ) (o : Option Node) (b : Bool) → nat_eq q tx.0 ≡ b
    → HasNode names pairs txs q o → HasNode names pairs (tx ∷ txs) q (cond b (Some (node names pairs tx)) o)
one_node names pairs tx txs q o true is has = Node_of tx (Contains-head tx txs) (sym (eqb-true q tx.0 is)) refl
one_node names pairs tx txs q o false is (Node_of found here same e) = Node_of found (Contains-later tx found txs here) same e
one_node names pairs tx txs q o false is (No_node none e) =
    No_node (λ here. elim (Contains-cases tx.0 q (names_of txs) here) [
      | inl same ↦ true≢false (sym (eq-eqb q tx.0 (sym same)) ∙ is)
      | inr later ↦ none later
    ]) e

has_node : (names : List ℕ) (pairs : List (ℕ × ℕ)) (txs : Txs) (q : ℕ) → HasNode names pairs txs q (node_of names pairs txs q)
unfolding node_of
has_node names pairs [] q = No_node (none_in_empty q) refl
has_node names pairs (tx ∷ txs) q = one_node names pairs tx txs q (node_of names pairs txs q) (nat_eq q tx.0) refl (has_node names pairs txs q)

-- ancestors among the names, as a list
among : (names : List ℕ) (pairs : List (ℕ × ℕ)) (a d : ℕ) → (set.contains (set.from_list {R = nat_cmp} (filter (λ x. leads pairs x d) names)) a ≡ true)
    ↔ (Contains names a × IsAncestor pairs a d)
among names pairs a d =
    let list : List ℕ = filter (λ x. leads pairs x d) names in
    let told : set.contains (set.from_list {R = nat_cmp} list) a ≡ list_any (λ y. nat_eq y a) list = set.contains-from_list_nat list a in (
      (λ h.
          let found = filter-Contains (λ (x : ℕ). leads pairs x d) names a (listed a list (sym told ∙ h)) in
          (found.1, leads_walk pairs a d found.0)),
      (λ both. told ∙ any_listed a list (Contains-filter (λ (x : ℕ). leads pairs x d) names a (walk_leads pairs a d both.1) both.0)),
    )
  where
    listed : (q : ℕ) (xs : List ℕ) → list_any (λ y. nat_eq y q) xs ≡ true → Contains xs q
    listed q [] h = absurd (true≢false (sym h))
    listed q (x ∷ xs) h = elim (either_way (nat_eq x q) (list_any (λ y. nat_eq y q) xs) h) [
      | inl same ↦ subst (λ (z : ℕ). Contains (x ∷ xs) z) (eqb-true x q same) (Contains-head x xs)
      | inr later ↦ Contains-later x q xs (listed q xs later)
    ]

    any_listed : (q : ℕ) (xs : List ℕ) → Contains xs q → list_any (λ y. nat_eq y q) xs ≡ true
    any_listed q [] h = absurd (none_in_empty q h)
    any_listed q (x ∷ xs) h = elim (Contains-cases x q xs h) [
      | inl same ↦ or_left (nat_eq x q) (list_any (λ y. nat_eq y q) xs) (eq-eqb x q same)
      | inr later ↦ or_right (nat_eq x q) (list_any (λ y. nat_eq y q) xs) (any_listed q xs later)
    ]

-- ---- the laws

pub member_is : (names : List ℕ) (pairs : List (ℕ × ℕ)) (txs : Txs) (q : ℕ) → (is_member (nodes names pairs txs) q ≡ true) ↔ Contains (names_of txs) q
unfolding is_member
member_is names pairs txs q =
    let got = get_node names pairs txs q in
    elim (has_node names pairs txs q) [
      | Node_of tx here same e ↦ (
        (λ h. subst (λ (x : ℕ). Contains (names_of txs) x) same (Contains-map (λ (t : ℕ × ℤ × ℕ). t.0) txs tx here)),
        (λ h. ap is_some (got ∙ e)),
      )
      | No_node none e ↦ ((λ h. absurd (true≢false (sym h ∙ ap is_some (got ∙ e)))), (λ h. absurd (none h)))
    ]

pub above_is : (names : List ℕ) (pairs : List (ℕ × ℕ)) (txs : Txs) (a d : ℕ) → (is_ancestor (nodes names pairs txs) a d ≡ true)
    ↔ (Contains names a × Contains (names_of txs) d × IsAncestor pairs a d)
unfolding ancestors_of
above_is names pairs txs a d =
    let got = get_node names pairs txs d in
    elim (has_node names pairs txs d) [
      | Node_of tx here same e ↦
          let is : is_ancestor (nodes names pairs txs) a d ≡ set.contains (set.from_list {R = nat_cmp} (filter (λ x. leads pairs x tx.0) names)) a =
          ap (λ (o : Option Node). set.contains (ancestors_in o) a) (got ∙ e) in (
            (λ h.
                let both = (among names pairs a tx.0).0 (sym is ∙ h) in (
                  both.0,
                  subst (λ (x : ℕ). Contains (names_of txs) x) same (Contains-map (λ (t : ℕ × ℤ × ℕ). t.0) txs tx here),
                  subst (λ (x : ℕ). IsAncestor pairs a x) same both.1,
                )),
            (λ (first, second, walk). is ∙ (among names pairs a tx.0).1 (first, subst (λ (x : ℕ). IsAncestor pairs a x) (sym same) walk)),
          )
      | No_node none e ↦ (
        (λ h. absurd (true≢false (sym h ∙ ap (λ (o : Option Node). set.contains (ancestors_in o) a) (got ∙ e) ∙ set.contains-empty nat_cmp a))),
        (λ (first, second, walk). absurd (none second)),
      )
    ]

pub closes : (links : Links) → AreLinks links → IsClosureOf (closure links) (graph links)
closes links are =
    let names : List ℕ = names_of links.txs in
    let member = member_is names links.pairs links.txs in
    let above = above_is names links.pairs links.txs in
    record {
      names = λ id. ((member id).1, (member id).0);
      ends = λ parent child pair. let ends = are.graph_is.ends parent child pair in ((member parent).1 ends.0, (member child).1 ends.1);
      acyclic = are.graph_is.acyclic;
      ancestors = λ a d first second. (
        (λ walk. (above a d).1 ((member a).0 first, (member d).0 second, walk)),
        (λ h. ((above a d).0 h).2),
      );
    }

-- who is an ancestor of whom, both ways, is one name
both_ways : (pairs : List (ℕ × ℕ)) (a b n m : ℕ) → HasNoCycle pairs → Walk pairs a b n → Walk pairs b a m → a ≡ b
both_ways pairs a b n zero none first same = sym same
both_ways pairs a b n (suc m) none first (c, walk, pair) =
    let round : IsAncestor pairs a c = IsAncestor-trans pairs a b c (n, first) (m, walk) in
    absurd (none a round.0 (c, round.1, pair))

pub orders : (links : Links) → AreLinks links → IsOrder (is_member (closure links)) (is_ancestor (closure links))
orders links are =
    let names : List ℕ = names_of links.txs in
    let member = member_is names links.pairs links.txs in
    let above = above_is names links.pairs links.txs in
    record {
      among = λ a d h. let is = (above a d).0 h in ((member a).1 is.0, (member d).1 is.1);
      reflexive = λ p h. (above p p).1 ((member p).0 h, (member p).0 h, (0, refl));
      transitive = λ a b c first second.
          let one = (above a b).0 first in
          let two = (above b c).0 second in
          (above a c).1 (one.0, two.1, IsAncestor-trans links.pairs a b c one.2 two.2);
      antisymmetric = λ a b first second.
          let one = ((above a b).0 first).2 in
          let two = ((above b a).0 second).2 in
          both_ways links.pairs a b one.0 two.0 are.graph_is.acyclic one.1 two.1;
    }

-- the rate of a name by its only transaction
pub only_one : (txs : Txs) (one two : ℕ × ℤ × ℕ) → AreDistinct (names_of txs) → Contains txs one → Contains txs two → one.0 ≡ two.0 → one ≡ two
only_one [] one two once first second same = absurd (none_in_empty one first)
only_one (tx ∷ txs) one two once first second same = elim (Contains-cases tx one txs first) [
  | inl is ↦ elim (Contains-cases tx two txs second) [
    | inl too ↦ sym is ∙ too
    | inr later ↦ absurd (once.0 (subst (λ (x : ℕ). Contains (names_of txs) x) (sym same ∙ ap (λ (t : ℕ × ℤ × ℕ). t.0) (sym is))
        (Contains-map (λ (t : ℕ × ℤ × ℕ). t.0) txs two later)))
  ]
  | inr early ↦ elim (Contains-cases tx two txs second) [
    | inl too ↦ absurd (once.0 (subst (λ (x : ℕ). Contains (names_of txs) x) (same ∙ ap (λ (t : ℕ × ℤ × ℕ). t.0) (sym too))
        (Contains-map (λ (t : ℕ × ℤ × ℕ). t.0) txs one early)))
    | inr later ↦ only_one txs one two once.1 early later same
  ]
]

pub rates_are : (links : Links) → AreLinks links → (id : ℕ) (fee : ℤ) (size : ℕ) → Contains {X = ℕ × ℤ × ℕ} links.txs (id, fee, size)
    → rate_of (closure links) id ≡ record { fee = fee; size = size }
unfolding rate_of
rates_are links are id fee size here =
    let names : List ℕ = names_of links.txs in
    let got = get_node names links.pairs links.txs id in
    elim (has_node names links.pairs links.txs id) [
      | Node_of tx there same e ↦
          let is : ◌≡◌ {A = ℕ × ℤ × ℕ} tx (id, fee, size) = only_one links.txs tx (id, fee, size) are.graph_is.names there here same in
          ap rate_in (got ∙ e) ∙ ap (λ (t : ℕ × ℤ × ℕ). rate_in (Some (node names links.pairs t))) is
      | No_node none e ↦ absurd (none (Contains-map (λ (t : ℕ × ℤ × ℕ). t.0) links.txs (id, fee, size) here))
    ]

pub ancestors_are : (links : Links) → AreLinks links → (a d : ℕ)
    → (is_ancestor (closure links) a d ≡ true) ↔ (Contains (names_of links.txs) a × Contains (names_of links.txs) d × IsAncestor links.pairs a d)
ancestors_are links are a d = above_is (names_of links.txs) links.pairs links.txs a d
