-- What is made of links, told by closures.
use Rattle.std.proofs.Common.{◌≡◌, ℕ, ℤ, ◌⊎◌, inl, inr, Bool, true, false, cond, not, nat_eq, eq-eqb, List, [], ◌∷◌, ◌++◌, refl, sym, ap, ◌∙◌, subst, true≢false}
use Rattle.std.specs.Prelude.{Contains, ◌↔◌, ◌||◌, ◌&&◌, Option, Some}
use Rattle.std.specs.List.{filter}
use Rattle.std.proofs.lemmas.Bool.{eqb-true, and_parts, and_from, or_left, or_right}
use Rattle.std.proofs.lemmas.List.Elements.{Contains-push, Contains-push_cases, Contains-append_left, Contains-append_right, Contains-append_cases}
use Rattle.lists.proofs.Cases.{same_test}
use Rattle.lists.proofs.Entries.{Contains-head, Contains-later, Contains-cases, filter-Contains, map-Contains, none_in_empty}
use Rattle.graphs.specs.Graphs.{IsAncestor}
use Rattle.graphs.specs.Certificates.{Txs}
use Rattle.graphs.specs.Closures.{Closure, Node, no_rate, is_member, is_ancestor, rate_of, rate_in}
use Rattle.graphs.proofs.PairLemmas.{ancestors_through}
use Rattle.graphs.proofs.WalkLemmas.{walk_within}
use Rattle.fee_rate.specs.declared.rates.FeeRate.{FeeRate}
use Rattle.links.specs.Links.{Links, AreSame}
use Rattle.links.specs.Kept.{names_of}
use Rattle.links.specs.Pairs.{HasMore}
use Rattle.links.specs.Leaving.{goes}
use Rattle.links.specs.Closing.{closure}
use Rattle.links.specs.Laws.{is_above, LinkedAddsPair, JoinedJoins, WithoutDropsPlaces}
use Rattle.links.proofs.Bridging.{names_left, left_names}
use Rattle.links.proofs.Gone.{goes_tells}
use Rattle.links.proofs.Joining.{names_both, walk_one, walk_two}
use Rattle.links.proofs.Closed.{member_is, above_is, get_node, node_of}

-- ---- tests

either_is : (b c : Bool) → (b || c) ≡ true → (b ≡ true) ⊎ (c ≡ true)
either_is true c h = inl refl
either_is false c h = inr h

not_true : (b : Bool) → not b ≡ true → b ≡ false
not_true false h = refl
not_true true h = absurd (true≢false (sym h))

-- ---- rates, by the transactions alone

unfoldable pub rate_tx : Txs → ℕ → FeeRate
rate_tx [] q = no_rate
rate_tx (tx ∷ txs) q = cond (nat_eq q tx.0) (record { fee = tx.1; size = tx.2 }) (rate_tx txs q)

cond_rate : (b : Bool) (n : Node) (o : Option Node) → rate_in (cond b (Some n) o) ≡ cond b n.rate (rate_in o)
cond_rate true n o = refl
cond_rate false n o = refl

node_rate : (names : List ℕ) (pairs : List (ℕ × ℕ)) (txs : Txs) (q : ℕ) → rate_in (node_of names pairs txs q) ≡ rate_tx txs q
unfolding node_of rate_tx
node_rate names pairs [] q = refl
node_rate names pairs (tx ∷ txs) q =
    cond_rate (nat_eq q tx.0) _ (node_of names pairs txs q) ∙ ap (cond (nat_eq q tx.0) (record { fee = tx.1; size = tx.2 })) (node_rate names pairs txs q)

pub rate_is : (links : Links) (q : ℕ) → rate_of (closure links) q ≡ rate_tx links.txs q
unfolding rate_of
rate_is links q = ap rate_in (get_node (names_of links.txs) links.pairs links.txs q) ∙ node_rate (names_of links.txs) links.pairs links.txs q

rate_kept : (keep : Bool) (tx : ℕ × ℤ × ℕ) (txs : Txs) (q : ℕ) (rest : FeeRate) → (keep ≡ false → nat_eq q tx.0 ≡ false) → rate_tx txs q ≡ rest
    → rate_tx (cond keep (tx ∷ txs) txs) q ≡ cond (nat_eq q tx.0) (record { fee = tx.1; size = tx.2 }) rest
unfolding rate_tx
rate_kept true tx txs q rest other same = ap (cond (nat_eq q tx.0) (record { fee = tx.1; size = tx.2 })) same
rate_kept false tx txs q rest other same = same ∙ sym (ap (λ (b : Bool). cond b (record { fee = tx.1; size = tx.2 }) rest) (other refl))

not_false : (b : Bool) → not b ≡ false → b ≡ true
not_false true h = refl
not_false false h = absurd (true≢false h)

told_apart : (b : Bool) → (b ≡ true → ⊥) → b ≡ false
told_apart true never = absurd (never refl)
told_apart false never = refl

rate_left : (has : ℕ → Bool) (txs : Txs) (q : ℕ) → has q ≡ false → rate_tx (filter (λ tx. not (has tx.0)) txs) q ≡ rate_tx txs q
unfolding rate_tx
rate_left has [] q stays = refl
rate_left has (tx ∷ txs) q stays =
    rate_kept (not (has tx.0)) tx (filter (λ tx. not (has tx.0)) txs) q (rate_tx txs q)
    (λ out. told_apart (nat_eq q tx.0) (λ same. true≢false (sym (not_false (has tx.0) out) ∙ ap has (sym (eqb-true q tx.0 same)) ∙ stays)))
    (rate_left has txs q stays)

first_cases : (b : Bool) (tx : ℕ × ℤ × ℕ) (xs ys : Txs) (q : ℕ) → nat_eq q tx.0 ≡ b → Contains (names_of (tx ∷ xs)) q
    → (Contains (names_of xs) q → rate_tx (xs ++ ys) q ≡ rate_tx xs q)
    → cond b (record { fee = tx.1; size = tx.2 }) (rate_tx (xs ++ ys) q) ≡ cond b (record { fee = tx.1; size = tx.2 }) (rate_tx xs q)
first_cases true tx xs ys q is here rest = refl
first_cases false tx xs ys q is here rest = elim (Contains-cases tx.0 q (names_of xs) here) [
  | inl same ↦ absurd (true≢false (sym (eq-eqb q tx.0 (sym same)) ∙ is))
  | inr later ↦ rest later
]

rate_first : (xs ys : Txs) (q : ℕ) → Contains (names_of xs) q → rate_tx (xs ++ ys) q ≡ rate_tx xs q
unfolding rate_tx
rate_first [] ys q here = absurd (none_in_empty q here)
rate_first (tx ∷ xs) ys q here = first_cases (nat_eq q tx.0) tx xs ys q refl here (λ later. rate_first xs ys q later)

rate_second : (xs ys : Txs) (q : ℕ) → (Contains (names_of xs) q → ⊥) → rate_tx (xs ++ ys) q ≡ rate_tx ys q
unfolding rate_tx
rate_second [] ys q none = refl
rate_second (tx ∷ xs) ys q none =
    ap (λ (b : Bool). cond b (record { fee = tx.1; size = tx.2 }) (rate_tx (xs ++ ys) q))
    (told_apart (nat_eq q tx.0) (λ same. none (subst (λ (z : ℕ). Contains (names_of (tx ∷ xs)) z) (sym (eqb-true q tx.0 same)) (Contains-head tx.0 (names_of xs)))))
    ∙ rate_second xs ys q (λ here. none (Contains-later tx.0 q (names_of xs) here))

left_stays : (has : ℕ → Bool) (txs : Txs) (q : ℕ) → Contains (names_of (filter (λ tx. not (has tx.0)) txs)) q → has q ≡ false
left_stays has txs q here =
    let found = map-Contains (λ (tx : ℕ × ℤ × ℕ). tx.0) (filter (λ tx. not (has tx.0)) txs) q here in
    ap has (sym found.2) ∙ not_true (has found.0.0) (filter-Contains (λ (tx : ℕ × ℤ × ℕ). not (has tx.0)) txs found.0 found.1).0

-- ---- members and ancestors of closures

abbrev pub names : Links → List ℕ
names links = names_of links.txs

pub has_member : (links : Links) (q : ℕ) → (is_member (closure links) q ≡ true) ↔ Contains (names links) q
has_member links q = member_is (names links) links.pairs links.txs q

pub has_above : (links : Links) (a d : ℕ) → (is_ancestor (closure links) a d ≡ true) ↔ (Contains (names links) a × Contains (names links) d × IsAncestor links.pairs a d)
has_above links a d = above_is (names links) links.pairs links.txs a d

-- pairs with one more are the old ones and that one
more_same : (old new : List (ℕ × ℕ)) (pair : ℕ × ℕ) → HasMore old new pair → AreSame (old ++ pair ∷ []) new
more_same old new pair more a b = (
  (λ here. elim ((more (a, b)).0 here) [
    | inl was ↦ Contains-append_left old (pair ∷ []) (a, b) was
    | inr is ↦ subst (λ (x : ℕ × ℕ). Contains (old ++ pair ∷ []) x) is (Contains-push old pair)
  ]),
  (λ here. (more (a, b)).1 (Contains-push_cases old pair (a, b) here)),
)

pub same_ancestors : (old new : List (ℕ × ℕ)) → AreSame old new → (a d : ℕ) → IsAncestor new a d ↔ IsAncestor old a d
same_ancestors old new same a d = (
  (λ walk. (walk.0, walk_within new old (λ x y here. (same x y).0 here) a d walk.0 walk.1)),
  (λ walk. (walk.0, walk_within old new (λ x y here. (same x y).1 here) a d walk.0 walk.1)),
)

-- the ancestors with one pair more
more_ancestors : (old new : List (ℕ × ℕ)) (parent child : ℕ) → HasMore old new (parent, child) → (a d : ℕ)
    → IsAncestor new a d ↔ (IsAncestor old a d ⊎ (IsAncestor old a parent × IsAncestor old child d))
more_ancestors old new parent child more a d =
    let same = same_ancestors (old ++ (parent, child) ∷ []) new (more_same old new (parent, child) more) a d in
    let through = ancestors_through old parent child a d in
    ((λ walk. through.0 (same.0 walk)), (λ either. same.1 (through.1 either)))

-- ---- the laws

pub linked_adds : LinkedAddsPair
linked_adds old new parent child are are' txs more in_parent in_child =
    let same_names : names new ≡ names old = ap names_of txs in
    record {
      members = λ p. same_test (is_member (closure new) p) (is_member (closure old) p)
          (λ h. (has_member old p).1 (subst (λ (ns : List ℕ). Contains ns p) same_names ((has_member new p).0 h)))
          (λ h. (has_member new p).1 (subst (λ (ns : List ℕ). Contains ns p) (sym same_names) ((has_member old p).0 h)));
      rates = λ p. rate_is new p ∙ ap (λ (ts : Txs). rate_tx ts p) txs ∙ sym (rate_is old p);
      ancestors = λ a d.
          let above : ℕ → ℕ → Bool = is_ancestor (closure old) in
          same_test (is_ancestor (closure new) a d) (above a d || (above a parent && above child d))
          (λ h.
          let is = (has_above new a d).0 h in
          let first = subst (λ (ns : List ℕ). Contains ns a) same_names is.0 in
          let second = subst (λ (ns : List ℕ). Contains ns d) same_names is.1 in
          elim ((more_ancestors old.pairs new.pairs parent child more a d).0 is.2) [
            | inl walk ↦ or_left (above a d) (above a parent && above child d) ((has_above old a d).1 (first, second, walk))
            | inr walks ↦ or_right (above a d) (above a parent && above child d)
                (and_from (above a parent) (above child d) ((has_above old a parent).1 (first, in_parent, walks.0))
                ((has_above old child d).1 (in_child, second, walks.1)))
          ])
          (λ h.
          let back : (x : ℕ) → Contains (names old) x → Contains (names new) x = λ x here. subst (λ (ns : List ℕ). Contains ns x) (sym same_names) here in
          elim (either_is (above a d) (above a parent && above child d) h) [
            | inl was ↦ let is = (has_above old a d).0 was in
                (has_above new a d).1 (back a is.0, back d is.1, (more_ancestors old.pairs new.pairs parent child more a d).1 (inl is.2))
            | inr both ↦
                let parts = and_parts (above a parent) (above child d) both in
                let up = (has_above old a parent).0 parts.0 in
                let down = (has_above old child d).0 parts.1 in
                (has_above new a d).1 (back a up.0, back d down.1, (more_ancestors old.pairs new.pairs parent child more a d).1 (inr (up.2, down.2)))
          ]);
    }

pub without_drops : WithoutDropsPlaces
without_drops old new gone are are' txs keep =
    let stay : ℕ → Bool = λ q. not (goes gone q) in
    let told = goes_tells gone in
    let new_names : (q : ℕ) → Contains (names new) q ↔ ((goes gone q ≡ false) × Contains (names old) q) = λ q. (
      (λ here.
          let there = subst (λ (ts : Txs). Contains (names_of ts) q) txs here in
          (left_stays (goes gone) old.txs q there, left_names (goes gone) old.txs q there)),
      (λ both. subst (λ (ts : Txs). Contains (names_of ts) q) (sym txs) (names_left (goes gone) old.txs q both.1 both.0)),
    ) in
    record {
      members = λ p. same_test (is_member (closure new) p) (stay p && is_member (closure old) p)
          (λ h. let is = (new_names p).0 ((has_member new p).0 h) in
          and_from (stay p) (is_member (closure old) p) (ap not is.0) ((has_member old p).1 is.1))
          (λ h. let parts = and_parts (stay p) (is_member (closure old) p) h in
          (has_member new p).1 ((new_names p).1 (not_true (goes gone p) parts.0, (has_member old p).0 parts.1)));
      rates = λ p stays. rate_is new p ∙ ap (λ (ts : Txs). rate_tx ts p) txs ∙ rate_left (goes gone) old.txs p stays ∙ sym (rate_is old p);
      ancestors = λ a d.
          let above : Bool = is_ancestor (closure old) a d in
          same_test (is_ancestor (closure new) a d) (stay a && (stay d && above))
          (λ h.
          let is = (has_above new a d).0 h in
          let first = (new_names a).0 is.0 in
          let second = (new_names d).0 is.1 in
          let walk : IsAncestor old.pairs a d = elim ((keep a d).0 is.2) [ inl same ↦ (0, same) | inr kept ↦ kept.2 ] in
          and_from (stay a) (stay d && above) (ap not first.0)
          (and_from (stay d) above (ap not second.0) ((has_above old a d).1 (first.1, second.1, walk))))
          (λ h.
          let one = and_parts (stay a) (stay d && above) h in
          let two = and_parts (stay d) above one.1 in
          let from = not_true (goes gone a) one.0 in
          let to = not_true (goes gone d) two.0 in
          let is = (has_above old a d).0 two.1 in
          (has_above new a d).1 (
            (new_names a).1 (from, is.0),
            (new_names d).1 (to, is.1),
            (keep a d).1 (inr ((λ here. true≢false (sym ((told a).1 here) ∙ from)), (λ here. true≢false (sym ((told d).1 here) ∙ to)), is.2)),
          ));
    }

-- a walk in two sets of pairs is one in the first or in the second, by the name that it ends with
pub joined_joins : JoinedJoins
joined_joins one two new parent child are are' are'' apart across txs more =
    let f : Closure = closure one in
    let g : Closure = closure two in
    let both_names : names new ≡ names one ++ names two = ap names_of txs ∙ names_both one.txs two.txs in
    let pairs : List (ℕ × ℕ) = one.pairs ++ two.pairs in
    let split : (q : ℕ) → Contains (names new) q ↔ (Contains (names one) q ⊎ Contains (names two) q) = λ q. (
      (λ here. Contains-append_cases (names one) (names two) q (subst (λ (ns : List ℕ). Contains ns q) both_names here)),
      (λ either. subst (λ (ns : List ℕ). Contains ns q) (sym both_names) (elim either [
        | inl here ↦ Contains-append_left (names one) (names two) q here
        | inr here ↦ Contains-append_right (names one) (names two) q here
      ])),
    ) in
    let p = are.graph_is.ends in
    let q = are'.graph_is.ends in
    -- above in one of the two, or along the pairs of both
    let along : (a d : ℕ) → (is_above f g a d ≡ true) ↔ (Contains (names new) a × Contains (names new) d × IsAncestor pairs a d) = λ a d. (
      (λ h. elim (either_is (is_ancestor f a d) (is_ancestor g a d) h) [
        | inl own ↦ let is = (has_above one a d).0 own in (
          (split a).1 (inl is.0),
          (split d).1 (inl is.1),
          (is.2.0, walk_within one.pairs pairs (λ x y here. Contains-append_left one.pairs two.pairs (x, y) here) a d is.2.0 is.2.1),
        )
        | inr own ↦ let is = (has_above two a d).0 own in (
          (split a).1 (inr is.0),
          (split d).1 (inr is.1),
          (is.2.0, walk_within two.pairs pairs (λ x y here. Contains-append_right one.pairs two.pairs (x, y) here) a d is.2.0 is.2.1),
        )
      ]),
      (λ (first, second, walk). elim ((split d).0 second) [
        | inl here ↦
            let side = walk_one (names one) (names two) one.pairs two.pairs p q apart a d walk.0 here walk.1 in
            or_left (is_ancestor f a d) (is_ancestor g a d) ((has_above one a d).1 (side.1, here, (walk.0, side.0)))
        | inr here ↦
            let side = walk_two (names one) (names two) one.pairs two.pairs p q apart a d walk.0 here walk.1 in
            or_right (is_ancestor f a d) (is_ancestor g a d) ((has_above two a d).1 (side.1, here, (walk.0, side.0)))
      ]),
    ) in
    let ends : Contains (names new) parent × Contains (names new) child = elim across [
      | inl sides ↦ ((split parent).1 (inl sides.0), (split child).1 (inr sides.1))
      | inr sides ↦ ((split parent).1 (inr sides.0), (split child).1 (inl sides.1))
    ] in
    record {
      members = λ id. same_test (is_member (closure new) id) (is_member f id || is_member g id)
          (λ h. elim ((split id).0 ((has_member new id).0 h)) [
            | inl here ↦ or_left (is_member f id) (is_member g id) ((has_member one id).1 here)
            | inr here ↦ or_right (is_member f id) (is_member g id) ((has_member two id).1 here)
          ])
          (λ h. (has_member new id).1 ((split id).1 (elim (either_is (is_member f id) (is_member g id) h) [
            | inl here ↦ inl ((has_member one id).0 here)
            | inr here ↦ inr ((has_member two id).0 here)
          ])));
      first_rates = λ id here. rate_is new id ∙ ap (λ (ts : Txs). rate_tx ts id) txs ∙ rate_first one.txs two.txs id ((has_member one id).0 here) ∙ sym (rate_is one id);
      second_rates = λ id here. rate_is new id ∙ ap (λ (ts : Txs). rate_tx ts id) txs
          ∙ rate_second one.txs two.txs id (λ other. apart id other ((has_member two id).0 here)) ∙ sym (rate_is two id);
      ancestors = λ a d. same_test (is_ancestor (closure new) a d) (is_above f g a d || (is_above f g a parent && is_above f g child d))
          (λ h.
          let is = (has_above new a d).0 h in
          elim ((more_ancestors pairs new.pairs parent child more a d).0 is.2) [
            | inl walk ↦ or_left (is_above f g a d) (is_above f g a parent && is_above f g child d) ((along a d).1 (is.0, is.1, walk))
            | inr walks ↦ or_right (is_above f g a d) (is_above f g a parent && is_above f g child d)
                (and_from (is_above f g a parent) (is_above f g child d) ((along a parent).1 (is.0, ends.0, walks.0)) ((along child d).1 (ends.1, is.1, walks.1)))
          ])
          (λ h. elim (either_is (is_above f g a d) (is_above f g a parent && is_above f g child d) h) [
            | inl was ↦ let is = (along a d).0 was in
                (has_above new a d).1 (is.0, is.1, (more_ancestors pairs new.pairs parent child more a d).1 (inl is.2))
            | inr both ↦
                let parts = and_parts (is_above f g a parent) (is_above f g child d) both in
                let up = (along a parent).0 parts.0 in
                let down = (along child d).0 parts.1 in
                (has_above new a d).1 (up.0, down.1, (more_ancestors pairs new.pairs parent child more a d).1 (inr (up.2, down.2)))
          ]);
    }
