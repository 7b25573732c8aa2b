-- The search that finds a component.
use Rattle.std.proofs.Common.{◌≡◌, ℕ, ◌-◌, ◌<◌, Bool, true, false, cond, not, ◌&&◌, ◌||◌, ◌⊎◌, ◌↔◌, nat_eq, [], ◌∷◌, inl, inr, refl}
use Rattle.std.proofs.Common.{sym, ap, ap₂, ◌∙◌, subst, arith, eqb-true, true≢false, Option, Some, None, MatchOption}
use Rattle.std.proofs.lemmas.Bool.{cases_eq, cases_Bool, and_parts, and_from, or_cases, or_left, or_right}
use Rattle.std.specs.Ordering.{nat_cmp}
use Rattle.std.specs.Cmp.{nat_cmp_total}
use Rattle.std.specs.FinSet as fin
use Rattle.lists.proofs.Cases.{false_from_not}
use Rattle.graphs.specs.Closures.{Closure, is_member, is_ancestor, ancestors_of, descendants_of, IsClosed, IsNear, IsRelated, HoldsMembers}
use Rattle.lists.specs.Walks.{Walk}
use Rattle.lists.proofs.Walks.{Walk-push, Walk-keeps}
use Rattle.bitset.specs.Places.{IsLeast}
use Rattle.bitset.specs.Sets.{same_members, contains-insert, contains-remove, contains-union, contains-intersection, contains-difference, contains-empty}
use Rattle.dep_graph.proofs.Kept.{contains-descendants_of}

-- what was reached from the place, and of this what was looked at: its near places were reached too
pub record Searched (near : ℕ → ℕ → Type 0) (within : fin.FinSet nat_cmp) (place : ℕ) (reached done : fin.FinSet nat_cmp) : Type 0 where
  pub start : fin.contains reached place ≡ true
  pub inside : (p : ℕ) → fin.contains reached p ≡ true → fin.contains within p ≡ true
  pub walked : (p : ℕ) → fin.contains reached p ≡ true → Walk near place p
  pub finished : (p q : ℕ) → fin.contains done p ≡ true → near p q → fin.contains reached q ≡ true

-- the places left to look at
pub left_there : {near : ℕ → ℕ → Type 0} {within : fin.FinSet nat_cmp} {place : ℕ} {reached done left : fin.FinSet nat_cmp} (p : ℕ)
    → Searched near within place reached done → left ≡ fin.difference reached done → fin.contains left p ≡ true
    → (fin.contains reached p ≡ true) × (fin.contains done p ≡ false) × (fin.contains within p ≡ true)
left_there {near} {within} {place} {reached} {done} {left} p s is e =
    let both : (fin.contains reached p ≡ true) × (not (fin.contains done p) ≡ true) =
    and_parts (fin.contains reached p) (not (fin.contains done p)) (sym (ap (λ s. fin.contains s p) is ∙ contains-difference reached done p) ∙ e) in
    (both.0, false_from_not (fin.contains done p) both.1, s.inside p both.0)

-- each place is looked at once
pub fewer_left : (within done done' : fin.FinSet nat_cmp) (p : ℕ) → fin.contains within p ≡ true → fin.contains done p ≡ false → done' ≡ fin.insert done p
    → fin.len (fin.difference within done') < fin.len (fin.difference within done)
fewer_left within done done' p there fresh is =
    let gone : fin.difference within done' ≡ fin.remove (fin.difference within done) p = same_members _ _ (λ q.
    contains-difference within done' q ∙ ap (λ b. fin.contains within q && not b) (ap (λ s. fin.contains s q) is ∙ contains-insert done p q)
    ∙ apart (fin.contains within q) (nat_eq q p) (fin.contains done q)
    ∙ sym (contains-remove (fin.difference within done) p q ∙ ap (λ b. not (nat_eq q p) && b) (contains-difference within done q))) in
    let held : fin.contains (fin.difference within done) p ≡ true = contains-difference within done p ∙ ap₂ (λ a b. a && not b) there fresh in
    let less : fin.len (fin.difference within done') ≡ fin.len (fin.difference within done) - 1 =
    ap fin.len gone ∙ fin.len-remove nat_cmp_total (fin.difference within done) p
    ∙ ap (λ b. cond b (fin.len (fin.difference within done) - 1) (fin.len (fin.difference within done))) held in
    elim (cases_eq (fin.len (fin.difference within done)) 0) as (λ _. fin.len (fin.difference within done') < fin.len (fin.difference within done)) [
      | inl none ↦ absurd (true≢false (sym held ∙ ap (λ s. fin.contains s p) (fin.empty_of_len (fin.difference within done) none) ∙ contains-empty p))
      | inr some ↦ omega arith
    ]
  where
    apart : (w e d : Bool) → (w && not (e || d)) ≡ (not e && (w && not d))
    apart true true d = refl
    apart true false d = refl
    apart false true d = refl
    apart false false d = refl

-- `least` found none
pub none_left : (r : Option ℕ) (s : fin.FinSet nat_cmp) → MatchOption r (s ≡ fin.empty) (IsLeast s) → ((p : ℕ) → r ≡ Some p → ⊥) → s ≡ fin.empty
none_left None s none e = none
none_left (Some p) s least e = absurd (e p refl)

-- whether q stands in one of the sets of p
abbrev pub beside : Closure → ℕ → ℕ → Bool
beside g p q = fin.contains (ancestors_of g p) q || fin.contains (descendants_of g p) q

-- what stands there is related to the member, and nothing else is
related : (g : Closure) (p q : ℕ) → beside g p q ≡ true → IsRelated g p q
related g p q e = elim (or_cases (fin.contains (ancestors_of g p) q) (fin.contains (descendants_of g p) q) e) as (λ _. IsRelated g p q) [
  | inl f ↦ inr f
  | inr f ↦ inl (and_parts (is_member g q) (is_ancestor g p q) (sym (contains-descendants_of g p q) ∙ f)).1
]

stands : {n : ℕ} {g : Closure} → IsClosed n g → (p q : ℕ) → IsRelated g p q → beside g p q ≡ true
stands {n} {g} closed p q near = elim near as (λ _. beside g p q ≡ true) [
  | inl f ↦ or_right (fin.contains (ancestors_of g p) q) (fin.contains (descendants_of g p) q)
      (contains-descendants_of g p q ∙ and_from (is_member g q) (is_ancestor g p q) (closed.order.among p q f).1 f)
  | inr f ↦ or_left (fin.contains (ancestors_of g p) q) (fin.contains (descendants_of g p) q) f
]

module _ {n : ℕ} {g : Closure} (closed : IsClosed n g) (within : fin.FinSet nat_cmp) (place : ℕ) where
  pub Searched-start : (reached done : fin.FinSet nat_cmp) → HoldsMembers g within → fin.contains within place ≡ true
      → reached ≡ fin.intersection (ancestors_of g place) within → done ≡ fin.empty → Searched (IsNear g within) within place reached done
  Searched-start reached done holds there is none = record {
    start = tells place ∙ and_from (is_ancestor g place place) (fin.contains within place) (closed.order.reflexive place (holds place there)) there;
    inside = λ p e. (parts p e).1;
    walked = λ p e. (p ∷ [], (record { from_within = there; to_within = (parts p e).1; related = inr (parts p e).0 }, refl));
    finished = λ p q e. absurd (true≢false (sym e ∙ ap (λ s. fin.contains s p) none ∙ contains-empty p));
  }
    where
      tells : (p : ℕ) → fin.contains reached p ≡ (is_ancestor g p place && fin.contains within p)
      tells p = ap (λ s. fin.contains s p) is ∙ contains-intersection (ancestors_of g place) within p

      parts : (p : ℕ) → fin.contains reached p ≡ true → (is_ancestor g p place ≡ true) × (fin.contains within p ≡ true)
      parts p e = and_parts (is_ancestor g p place) (fin.contains within p) (sym (tells p) ∙ e)

  module _ (p : ℕ) {reached done left : fin.FinSet nat_cmp} (s : Searched (IsNear g within) within place reached done)
      (left_is : left ≡ fin.difference reached done) (e : fin.contains left p ≡ true)
      (reached' done' near : fin.FinSet nat_cmp) (done_is : done' ≡ fin.insert done p)
      (near_is : near ≡ fin.intersection (fin.union (ancestors_of g p) (descendants_of g p)) within) (reached_is : reached' ≡ fin.union reached near) where
    here : (fin.contains reached p ≡ true) × (fin.contains done p ≡ false) × (fin.contains within p ≡ true)
    here = left_there p s left_is e

    contains-reached : (q : ℕ) → fin.contains reached' q ≡ (fin.contains reached q || (beside g p q && fin.contains within q))
    contains-reached q =
        ap (λ s. fin.contains s q) reached_is ∙ contains-union reached near q
        ∙ ap (λ b. fin.contains reached q || b) (
        ap (λ s. fin.contains s q) near_is
        ∙ contains-intersection (fin.union (ancestors_of g p) (descendants_of g p)) within q
        ∙ ap (λ b. b && fin.contains within q) (contains-union (ancestors_of g p) (descendants_of g p) q))

    still : (q : ℕ) → fin.contains reached q ≡ true → fin.contains reached' q ≡ true
    still q f = contains-reached q ∙ or_left (fin.contains reached q) _ f

    new : (q : ℕ) → fin.contains reached' q ≡ true → (fin.contains reached q ≡ true) ⊎ IsNear g within p q
    new q f =
        elim (or_cases (fin.contains reached q) (beside g p q && fin.contains within q) (sym (contains-reached q) ∙ f))
        as (λ _. (fin.contains reached q ≡ true) ⊎ IsNear g within p q) [
          | inl old ↦ inl old
          | inr fresh ↦
              let both : (beside g p q ≡ true) × (fin.contains within q ≡ true) = and_parts (beside g p q) (fin.contains within q) fresh in
              inr (record { from_within = here.2; to_within = both.1; related = related g p q both.0 })
        ]

    pub Searched-more : Searched (IsNear g within) within place reached' done'
    Searched-more = record {
      start = still place s.start;
      inside = λ q f. elim (new q f) as (λ _. fin.contains within q ≡ true) [ inl old ↦ s.inside q old | inr near ↦ near.to_within ];
      walked = λ q f. elim (new q f) as (λ _. Walk (IsNear g within) place q) [
        | inl old ↦ s.walked q old
        | inr near ↦ Walk-push (IsNear g within) place p q (s.walked p here.0) near
      ];
      finished = λ a q f step.
          elim (or_cases (nat_eq a p) (fin.contains done a) (sym (ap (λ s. fin.contains s a) done_is ∙ contains-insert done p a) ∙ f))
          as (λ _. fin.contains reached' q ≡ true) [
            | inl same ↦
                let from_p : IsNear g within p q = subst (λ a. IsNear g within a q) (eqb-true a p same) step in
                contains-reached q ∙ or_right (fin.contains reached q) _
                (and_from (beside g p q) (fin.contains within q) (stands closed p q from_p.related) step.to_within)
            | inr old ↦ still q (s.finished a q old step)
          ];
    }

  pub Searched-all : {reached done left : fin.FinSet nat_cmp} → Searched (IsNear g within) within place reached done → left ≡ fin.difference reached done
      → left ≡ fin.empty
      → (p : ℕ) → (fin.contains reached p ≡ true) ↔ Walk (IsNear g within) place p
  Searched-all {reached} {done} {left} s is none p = (
    s.walked p,
    λ walk. Walk-keeps (IsNear g within) (λ q. fin.contains reached q ≡ true)
        (λ a b step e. s.finished a b (looked_at a e) step) place p walk s.start,
  )
    where
      looked_at : (a : ℕ) → fin.contains reached a ≡ true → fin.contains done a ≡ true
      looked_at a e = elim (cases_Bool (fin.contains done a)) as (λ _. fin.contains done a ≡ true) [
        | inl f ↦ f
        | inr f ↦ absurd (true≢false (
            sym (ap (λ s. fin.contains s a) is ∙ contains-difference reached done a ∙ ap₂ (λ x y. x && not y) e f)
            ∙ ap (λ s. fin.contains s a) none ∙ contains-empty a))
      ]
