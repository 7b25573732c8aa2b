-- The places of a set in an order, parents first.
use Rattle.std.proofs.Common.{◌≡◌, ℕ, ◌+◌, ◌<◌, ◌≤◌, ◌≢◌, inl, inr, true, List, [], ◌∷◌, ◌++◌, length, sym, ap, ◌∙◌, subst, arith, append_assoc, length-append}
use Rattle.std.specs.Prelude.{Contains, ◌↔◌}
use Rattle.std.proofs.lemmas.Bool.{cases_eq}
use Rattle.std.proofs.lemmas.List.Elements.{Contains-append_left, Contains-append_cases, Contains-push}
use Rattle.std.specs.Ordering.{nat_cmp}
use Rattle.std.specs.FinSet as fin
use Rattle.bitset.specs.Members.{from_meet, to_meet, from_remove, to_remove, empty_has_none}
use Rattle.lists.proofs.Distinct.{distinct_push}
use Rattle.graphs.specs.Closures.{Closure, is_ancestor, ancestors_of, IsClosed}
use Rattle.lists.proofs.Entries.{Contains-cases, none_in_empty}
use Rattle.lists.specs.Distinct.{AreDistinct}
use Rattle.lists.proofs.Keys.{set_drop, set_within}
use Rattle.bitset.specs.Places.{IsWithin}
use Rattle.graphs.specs.Linearizations.{StandsBefore}
use Rattle.linearize.specs.Orders.{IsOrderOf}

-- another ancestor in a set has fewer ancestors in it
pub higher : (n : ℕ) (dep : Closure) (left : fin.FinSet nat_cmp) (p q : ℕ) → IsClosed n dep → fin.contains left p ≡ true
    → fin.contains (fin.remove (fin.intersection (ancestors_of dep p) left) p) q ≡ true
    → fin.len (fin.intersection (ancestors_of dep q) left) < fin.len (fin.intersection (ancestors_of dep p) left)
higher n dep left p q closed here m =
    let order = closed.order in
    let r : (q ≡ p → ⊥) × (fin.contains (fin.intersection (ancestors_of dep p) left) q ≡ true) = from_remove _ p q m in
    let both : (is_ancestor dep q p ≡ true) × (fin.contains left q ≡ true) = from_meet _ _ q r.1 in
    let own : fin.contains (fin.intersection (ancestors_of dep p) left) p ≡ true = to_meet _ _ p (order.reflexive p (order.among q p both.0).1) here in
    let within : IsWithin n (fin.intersection (ancestors_of dep p) left) =
    λ k h. closed.within k (order.among k p (from_meet (ancestors_of dep p) left k h).0).0 in
    let fewer : fin.len (fin.intersection (ancestors_of dep q) left) ≤ fin.len (fin.remove (fin.intersection (ancestors_of dep p) left) p) =
    set_within _ _ (λ k h. (let part : (is_ancestor dep k q ≡ true) × (fin.contains left k ≡ true) = from_meet (ancestors_of dep q) left k h in
    to_remove _ p k (λ e. r.0 (order.antisymmetric q p both.0 (subst (λ (j : ℕ). is_ancestor dep j q ≡ true) e part.0)))
    (to_meet _ _ k (order.transitive k q p part.0 both.0) part.1))) in
    omega (arith, fewer, set_drop _ p own)

-- where nothing else is above it in a set
pub is_top : (dep : Closure) (left above : fin.FinSet nat_cmp) (p : ℕ) → above ≡ fin.remove (fin.intersection (ancestors_of dep p) left) p → above ≡ fin.empty
    → (q : ℕ) → is_ancestor dep q p ≡ true → fin.contains left q ≡ true → q ≡ p
is_top dep left above p is none q a m = elim (cases_eq q p) as (λ _. q ≡ p) [
  | inl same ↦ same
  | inr other ↦ absurd (empty_has_none above q (ap (λ s. fin.contains s q) is ∙ to_remove _ p q other (to_meet _ _ q a m)) none)
]

-- ---- the loop that puts the places of a set
-- some are put, each behind its ancestors of the set, and the others are left
pub record Placing (n : ℕ) (dep : Closure) (s left : fin.FinSet nat_cmp) (ids : List ℕ) : Type 0 where
  pub inside : (k : ℕ) → fin.contains left k ≡ true → fin.contains s k ≡ true
  pub once : AreDistinct ids
  pub exact : (k : ℕ) → Contains ids k ↔ ((fin.contains s k ≡ true) × (fin.contains left k ≡ true → ⊥))
  pub above : (a k : ℕ) → is_ancestor dep a k ≡ true → a ≢ k → fin.contains s a ≡ true → Contains ids k → StandsBefore ids a k
  pub count : length ids + fin.len left ≡ fin.len s

pub before_push : (xs : List ℕ) (x a b : ℕ) → StandsBefore xs a b → StandsBefore (xs ++ x ∷ []) a b
before_push xs x a b h = (h.0, h.1 ++ x ∷ [], ap (λ ys. ys ++ x ∷ []) h.2 ∙ append_assoc h.0 (b ∷ h.1) (x ∷ []), h.3)

pub placing_more : (n : ℕ) (dep : Closure) (s left rest : fin.FinSet nat_cmp) (ids : List ℕ) (p : ℕ) → IsWithin n s → Placing n dep s left ids
    → fin.contains left p ≡ true
    → ((q : ℕ) → is_ancestor dep q p ≡ true → fin.contains left q ≡ true → q ≡ p) → rest ≡ fin.remove left p → Placing n dep s rest (ids ++ p ∷ [])
placing_more n dep s left rest ids p within h m top is =
    let stays : (k : ℕ) → fin.contains rest k ≡ true
    → (k ≡ p → ⊥) × (fin.contains left k ≡ true) = λ k r. from_remove left p k (subst (λ t. fin.contains t k ≡ true) is r) in
    record {
      inside = λ k r. h.inside k (stays k r).1;
      once = distinct_push ids p h.once (λ at. ((h.exact p).0 at).1 m);
      exact = λ k. (
        λ at. elim (Contains-append_cases ids (p ∷ []) k at) [
          | inl before ↦ (((h.exact k).0 before).0, λ r. ((h.exact k).0 before).1 (stays k r).1)
          | inr here ↦ elim (Contains-cases p k [] here) [
            | inl same ↦ (subst (λ (j : ℕ). fin.contains s j ≡ true) same (h.inside p m), λ r. (stays k r).0 (sym same))
            | inr none ↦ absurd (none_in_empty k none)
          ]
        ],
        λ out. elim (cases_eq k p) as (λ _. Contains (ids ++ p ∷ []) k) [
          | inl same ↦ subst (λ (j : ℕ). Contains (ids ++ p ∷ []) j) (sym same) (Contains-push ids p)
          | inr other ↦ Contains-append_left ids (p ∷ []) k
              ((h.exact k).1 (out.0, λ l. out.1 (subst (λ t. fin.contains t k ≡ true) (sym is) (to_remove left p k other l))))
        ],
      );
      above = λ a k e ne a_in at. elim (Contains-append_cases ids (p ∷ []) k at) [
        | inl before ↦ before_push ids p a k (h.above a k e ne a_in before)
        | inr here ↦ elim (Contains-cases p k [] here) [
          | inl same ↦ (
            ids,
            [],
            ap (λ (j : ℕ). ids ++ j ∷ []) same,
            (h.exact a).1 (a_in, λ l. ne (top a (subst (λ (j : ℕ). is_ancestor dep a j ≡ true) (sym same) e) l ∙ same)),
          )
          | inr none ↦ absurd (none_in_empty k none)
        ]
      ];
      count = (let long = length-append ids (p ∷ []) in let one = set_drop left p m in let len_ =
          ap (λ t. fin.len t) is in omega (arith, long, one, len_, h.count));
    }

pub placing_all : (n : ℕ) (dep : Closure) (s left : fin.FinSet nat_cmp) (ids : List ℕ) → Placing n dep s left ids → left ≡ fin.empty
    → IsOrderOf dep s ids × (length ids ≡ fin.len s)
placing_all n dep s left ids h none =
    let all : (k : ℕ) → fin.contains s k ≡ true → Contains ids k = λ k m. (h.exact k).1 (m, λ l. empty_has_none left k l none) in (
      record {
        once = h.once;
        exact = λ k. (λ at. ((h.exact k).0 at).0, all k);
        parents_first = λ p c cover p_in c_in. h.above p c cover.ancestor cover.other p_in (all c c_in);
      },
      (let zero_ : fin.len left ≡ 0 = ap (λ t. fin.len t) none ∙ fin.len-empty nat_cmp in omega (arith, zero_, h.count)),
    )
