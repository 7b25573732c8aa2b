-- The covering pairs of an order lead from each member to each that it is an ancestor of.
use Rattle.std.proofs.Common.{◌≡◌, ◌↔◌, ◌⊎◌, ℕ, suc, zero, ◌+◌, ◌<◌, ◌≤◌, Bool, true, false, ◌&&◌, not, nat_eq, List, [], ◌∷◌, length, refl, sym, ap, ◌∙◌, subst, inl, inr, true≢false, arith}
use Rattle.std.specs.Prelude.{Contains, filter}
use Rattle.std.proofs.lemmas.Bool.{and_from, and_parts, cases_eq, eq-eqb, ne_eqb}
use Rattle.lists.specs.Distinct.{AreDistinct}
use Rattle.lists.proofs.Distinct.{distinct-filter, distinct_within}
use Rattle.lists.proofs.Entries.{Contains-cases, Contains-filter, filter-Contains, none_in_empty}
use Rattle.graphs.specs.Graphs.{Walk, IsAncestor, HasNoCycle}
use Rattle.graphs.specs.Closures.{Closure, is_member, is_ancestor, IsOrder, IsCover}
use Rattle.graphs.proofs.WalkLemmas.{walk_of_pair, IsAncestor-trans}

-- some entry passes a test, or none does
found_or_none : (test : ℕ → Bool) (xs : List ℕ) → ((x : ℕ) × (test x ≡ true)) ⊎ ((x : ℕ) → Contains xs x → test x ≡ true → ⊥)
found_or_none test [] = inr (λ x here. absurd (none_in_empty x here))
found_or_none test (y ∷ ys) = passes (test y) refl (found_or_none test ys)
  where
    passes : (b : Bool) → test y ≡ b → ((x : ℕ) × (test x ≡ true)) ⊎ ((x : ℕ) → Contains ys x → test x ≡ true → ⊥)
        → ((x : ℕ) × (test x ≡ true)) ⊎ ((x : ℕ) → Contains (y ∷ ys) x → test x ≡ true → ⊥)
    passes true e rest = inl (y, e)
    passes false e rest = elim rest [
      | inl found ↦ inl found
      | inr none ↦ inr (λ x here holds. elim (Contains-cases y x ys here) [
        | inl same ↦ true≢false (sym holds ∙ ap test (sym same) ∙ e)
        | inr later ↦ none x later holds
      ])
    ]

module _ (g : Closure) (names : List ℕ) (once : AreDistinct names) (members : (id : ℕ) → (is_member g id ≡ true) ↔ Contains names id)
    (order : IsOrder (is_member g) (is_ancestor g)) where
  -- how many names are above one
  rank : ℕ → ℕ
  rank b = length (filter (λ a. is_ancestor g a b) names)

  rank_rises : (a b : ℕ) → is_ancestor g a b ≡ true → (a ≡ b → ⊥) → rank a < rank b
  unfolding rank
  rank_rises a b up other =
      let apart : AreDistinct (b ∷ filter (λ c. is_ancestor g c a) names) =
      ((λ here. other (order.antisymmetric a b up (filter-Contains (λ c. is_ancestor g c a) names b here).0)), distinct-filter (λ c. is_ancestor g c a) names once) in
      let inside : (x : ℕ) → Contains (b ∷ filter (λ c. is_ancestor g c a) names) x → Contains (filter (λ c. is_ancestor g c b) names) x =
      λ x here. elim (Contains-cases b x (filter (λ c. is_ancestor g c a) names) here) [
        | inl same ↦
            let below : is_member g b ≡ true = (order.among a b up).1 in
            subst (λ (y : ℕ). Contains (filter (λ c. is_ancestor g c b) names) y) same
            (Contains-filter (λ c. is_ancestor g c b) names b (order.reflexive b below) ((members b).0 below))
        | inr later ↦
            let above = filter-Contains (λ c. is_ancestor g c a) names x later in
            Contains-filter (λ c. is_ancestor g c b) names x (order.transitive x a b above.0 up) above.1
      ] in
      (distinct_within (λ x. 0) (b ∷ filter (λ c. is_ancestor g c a) names) (filter (λ c. is_ancestor g c b) names) apart inside).0

  between : ℕ → ℕ → ℕ → Bool
  between a b c = (is_ancestor g a c && is_ancestor g c b) && (not (nat_eq c a) && not (nat_eq c b))

  between_from : (a b c : ℕ) → between a b c ≡ true → ((is_ancestor g a c ≡ true) × (is_ancestor g c b ≡ true)) × ((c ≡ a → ⊥) × (c ≡ b → ⊥))
  unfolding between
  between_from a b c e =
      let halves = and_parts (is_ancestor g a c && is_ancestor g c b) (not (nat_eq c a) && not (nat_eq c b)) e in
      let apart = and_parts (not (nat_eq c a)) (not (nat_eq c b)) halves.1 in (
        and_parts (is_ancestor g a c) (is_ancestor g c b) halves.0,
        (λ same. true≢false (sym apart.0 ∙ ap not (eq-eqb c a same)), λ same. true≢false (sym apart.1 ∙ ap not (eq-eqb c b same))),
      )

  between_to : (a b c : ℕ) → is_ancestor g a c ≡ true → is_ancestor g c b ≡ true → (c ≡ a → ⊥) → (c ≡ b → ⊥) → between a b c ≡ true
  unfolding between
  between_to a b c above below not_a not_b =
      and_from (is_ancestor g a c && is_ancestor g c b) (not (nat_eq c a) && not (nat_eq c b))
      (and_from (is_ancestor g a c) (is_ancestor g c b) above below)
      (and_from (not (nat_eq c a)) (not (nat_eq c b)) (ap not (ne_eqb c a not_a)) (ap not (ne_eqb c b not_b)))

  -- pairs of ancestors and others
  module _ (pairs : List (ℕ × ℕ)) (sound : (a d : ℕ) → Contains {X = ℕ × ℕ} pairs (a, d) → (is_ancestor g a d ≡ true) × (a ≡ d → ⊥)) where
    pub above_along : (a b n : ℕ) → is_member g a ≡ true → Walk pairs a b n → is_ancestor g a b ≡ true
    above_along a b zero here same = subst (λ (x : ℕ). is_ancestor g a x ≡ true) same (order.reflexive a here)
    above_along a b (suc n) here (c, walk, pair) = order.transitive a c b (above_along a c n here walk) (sound c b pair).0

    pub acyclic_pairs : HasNoCycle pairs
    acyclic_pairs a n (c, walk, pair) =
        let last = sound c a pair in
        let up : is_ancestor g a c ≡ true = above_along a c n (order.among c a last.0).1 walk in
        last.1 (order.antisymmetric c a last.0 up)

  module _ (pairs : List (ℕ × ℕ)) (exact : (a d : ℕ) → Contains {X = ℕ × ℕ} pairs (a, d) ↔ IsCover g a d) where
    -- every ancestor is reached along covering pairs
    reached : (d a b : ℕ) → is_ancestor g a b ≡ true → rank b ≤ rank a + d → IsAncestor pairs a b
    reached zero a b up near = elim (cases_eq a b) [
      | inl same ↦ (0, same)
      | inr other ↦ absurd (let below : rank a < rank b = rank_rises a b up other in omega (arith, below, near))
    ]
    reached (suc d) a b up near = elim (cases_eq a b) [
      | inl same ↦ (0, same)
      | inr other ↦ elim (found_or_none (between a b) names) [
        | inl (c, here) ↦
            let mid = between_from a b c here in
            let one : rank a < rank c = rank_rises a c mid.0.0 (λ e. mid.1.0 (sym e)) in
            let two : rank c < rank b = rank_rises c b mid.0.1 mid.1.1 in
            IsAncestor-trans pairs a c b (reached d a c mid.0.0 (omega (arith, one, two, near))) (reached d c b mid.0.1 (omega (arith, one, two, near)))
        | inr none ↦
            let cover : IsCover g a b = record {
              ancestor = up;
              other = other;
              direct = λ m above below. elim (cases_eq m a) [
                | inl first ↦ inl first
                | inr not_a ↦ elim (cases_eq m b) [
                  | inl last ↦ inr last
                  | inr not_b ↦ absurd (none m ((members m).0 (order.among a m above).1) (between_to a b m above below not_a not_b))
                ]
              ];
            } in
            (1, walk_of_pair pairs a b ((exact a b).1 cover))
      ]
    ]

    covers_sound : (a d : ℕ) → Contains {X = ℕ × ℕ} pairs (a, d) → (is_ancestor g a d ≡ true) × (a ≡ d → ⊥)
    covers_sound a d here = let cover = (exact a d).0 here in (cover.ancestor, cover.other)

    pub cover_ancestors : (a b : ℕ) → is_member g a ≡ true → IsAncestor pairs a b ↔ (is_ancestor g a b ≡ true)
    cover_ancestors a b here = (
      (λ walk. above_along pairs covers_sound a b walk.0 here walk.1),
      (λ up. reached (rank b) a b up (omega arith)),
    )

    pub covers_acyclic : HasNoCycle pairs
    covers_acyclic = acyclic_pairs pairs covers_sound
