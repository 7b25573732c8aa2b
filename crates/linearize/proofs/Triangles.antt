-- Covering pairs are few: m places have at most m · m / 4, since no three places are pairwise joined (Mantel, 1907).
use Rattle.std.proofs.Common.{◌≡◌, ℕ, zero, suc, ◌+◌, ◌*◌, ◌≤◌, ◌⊎◌, inl, inr, Bool, true, false, cond, not, ◌||◌}
use Rattle.std.proofs.Common.{nat_eq, List, [], ◌∷◌, length, map, filter, refl, sym, ap, ◌∙◌, subst, arith, eq-eqb}
use Rattle.std.proofs.Common.{ne_eqb}
use Rattle.std.specs.Prelude.{Contains}
use Rattle.std.proofs.lemmas.Bool.{cases_eq, cases_Bool}
use Rattle.std.proofs.lemmas.List.{length-map}
use Rattle.std.proofs.lemmas.List.Filters.{length-filter_both}
use Rattle.std.specs.Ordering.{nat_cmp}
use Rattle.std.specs.FinSet as fin
use Rattle.lists.proofs.Cases.{or_true}
use Rattle.bitset.specs.Members.{from_remove, to_remove}
use Rattle.lists.proofs.Distinct.{distinct-filter, distinct_map}
use Rattle.graphs.specs.Closures.{Closure, IsCover, IsClosed}
use Rattle.lists.proofs.Entries.{map-Contains, Contains-head, Contains-later, filter-Contains}
use Rattle.lists.specs.Distinct.{AreDistinct}
use Rattle.lists.proofs.Keys.{set_drop}
use Rattle.bitset.specs.Places.{IsWithin}

-- distinct members of a set are at most as many as it has
pub length_inside : (n : ℕ) (s : fin.FinSet nat_cmp) (xs : List ℕ) → IsWithin n s → AreDistinct xs → ((x : ℕ) → Contains xs x → fin.contains s x ≡ true)
    → length xs ≤ fin.len s
length_inside n s [] within d inside = omega arith
length_inside n s (x ∷ xs) within d inside =
    let rest : length xs ≤ fin.len (fin.remove s x) =
    length_inside n (fin.remove s x) xs (λ k m. within k (from_remove s x k m).1) d.1
    (λ y h. to_remove s x y (λ e. d.0 (subst (λ (k : ℕ). Contains xs k) e h)) (inside y (Contains-later x y xs h))) in
    omega (arith, rest, set_drop s x (inside x (Contains-head x xs)))

-- ---- entries that pass a test

module _ (n : ℕ) (dep : Closure) (closed : IsClosed n dep) where
  both_ways : (x y : ℕ) → IsCover dep x y → IsCover dep y x → ⊥
  both_ways x y a b = a.other (closed.order.antisymmetric x y a.ancestor b.ancestor)

  between : (x y z : ℕ) → IsCover dep x y → IsCover dep y z → IsCover dep x z → ⊥
  between x y z a b c = elim (c.direct y a.ancestor b.ancestor) [ inl same ↦ a.other (sym same) | inr same ↦ b.other same ]

  round : (x y z : ℕ) → IsCover dep x y → IsCover dep y z → IsCover dep z x → ⊥
  round x y z a b c = c.other (closed.order.antisymmetric z x c.ancestor (closed.order.transitive x y z a.ancestor b.ancestor))

  -- one of two places covers the other
  abbrev Join : ℕ → ℕ → Type 0
  Join x y = IsCover dep x y ⊎ IsCover dep y x

  no_triangle : (x y z : ℕ) → Join x y → Join y z → Join x z → ⊥
  no_triangle x y z (inl a) (inl b) (inl c) = between x y z a b c
  no_triangle x y z (inl a) (inl b) (inr c) = round x y z a b c
  no_triangle x y z (inl a) (inr b) (inl c) = between x z y c b a
  no_triangle x y z (inl a) (inr b) (inr c) = between z x y c a b
  no_triangle x y z (inr a) (inl b) (inl c) = between y x z a c b
  no_triangle x y z (inr a) (inl b) (inr c) = between y z x b c a
  no_triangle x y z (inr a) (inr b) (inl c) = round x z y c b a
  no_triangle x y z (inr a) (inr b) (inr c) = between z y x b a c

  -- pairs of a child and a covering parent in a set, each once
  pub record Pairs (s : fin.FinSet nat_cmp) (pairs : List (ℕ × ℕ)) : Type 0 where
    pub once : AreDistinct {A = ℕ × ℕ} pairs
    pub cover : (c p : ℕ) → Contains pairs (c, p) → IsCover dep p c
    pub child : (c p : ℕ) → Contains pairs (c, p) → fin.contains s c ≡ true
    pub parent : (c p : ℕ) → Contains pairs (c, p) → fin.contains s p ≡ true

  -- ---- the pairs at one of two joined places
  module _ (a b : ℕ) (first : IsCover dep b a) where
    is_end : ℕ → Bool
    is_end x = nat_eq x a || nat_eq x b

    end_of : (x : ℕ) → is_end x ≡ true → (x ≡ a) ⊎ (x ≡ b)
    unfolding is_end
    end_of x e = elim (cases_eq x a) as (λ _. (x ≡ a) ⊎ (x ≡ b)) [
      | inl same ↦ inl same
      | inr other ↦ elim (cases_eq x b) as (λ _. (x ≡ a) ⊎ (x ≡ b)) [
        | inl same ↦ inr same
        | inr apart ↦ absurd (let f : false ≡ true = sym (ap (λ (t : Bool). t || nat_eq x b) (ne_eqb x a other) ∙ ne_eqb x b apart) ∙ e in cc)
      ]
    ]

    no_end : (x : ℕ) → is_end x ≡ false → (x ≡ a → ⊥) × (x ≡ b → ⊥)
    unfolding is_end
    no_end x e = (
      λ same. (let f : true ≡ false = sym (ap (λ (t : Bool). t || nat_eq x b) (eq-eqb x a same)) ∙ e in cc),
      λ same. (let f : true ≡ false = sym (ap (λ (t : Bool). nat_eq x a || t) (eq-eqb x b same) ∙ or_true (nat_eq x a)) ∙ e in cc),
    )

    touches : ℕ × ℕ → Bool
    touches e = is_end e.0 || is_end e.1

    other : ℕ × ℕ → ℕ
    other e = cond (is_end e.0) e.1 e.0

    -- the pair joins x and one of the two
    record Ties (x : ℕ) (e : ℕ × ℕ) : Type 0 where
      at : ℕ
      is : (at ≡ a) ⊎ (at ≡ b)
      way : (e ≡ (at, x)) ⊎ (e ≡ (x, at))

    ties : (e : ℕ × ℕ) → touches e ≡ true → Ties (other e) e
    unfolding touches other
    ties e t = elim (cases_Bool (is_end e.0)) [
      | inl at ↦ record { at = e.0; is = end_of e.0 at; way = inl (λ i. (e.0, ap (λ (k : Bool). cond k e.1 e.0) (sym at) i)) }
      | inr out ↦ record {
        at = e.1;
        is = end_of e.1 (sym (ap (λ (k : Bool). k || is_end e.1) out) ∙ t);
        way = inr (λ i. (ap (λ (k : Bool). cond k e.1 e.0) (sym out) i, e.1));
      }
    ]

    -- the other place of such a pair is neither of the two
    apart : (x : ℕ) (e : ℕ × ℕ) → (e ≡ (a, b) → ⊥) → IsCover dep e.1 e.0 → Ties x e → (x ≡ a → ⊥) × (x ≡ b → ⊥)
    apart x e new cover t = (
      λ same. elim t.is [
        | inl at ↦ loop e cover (flat (at ∙ sym same))
        | inr at ↦ elim t.way [
          | inl way ↦ turn (subst (λ (d : ℕ × ℕ). IsCover dep d.1 d.0) (way ∙ (λ i. (at i, same i))) cover)
          | inr way ↦ new (way ∙ (λ i. (same i, at i)))
        ]
      ],
      λ same. elim t.is [
        | inl at ↦ elim t.way [
          | inl way ↦ new (way ∙ (λ i. (at i, same i)))
          | inr way ↦ turn (subst (λ (d : ℕ × ℕ). IsCover dep d.1 d.0) (way ∙ (λ i. (same i, at i))) cover)
        ]
        | inr at ↦ loop e cover (flat (at ∙ sym same))
      ],
    )
      where
        -- a pair of a place with itself is no covering pair
        loop : (d : ℕ × ℕ) → IsCover dep d.1 d.0 → d.0 ≡ d.1 → ⊥
        loop d c same = c.other (sym same)

        turn : IsCover dep a b → ⊥
        turn c = both_ways a b c first

        flat : t.at ≡ x → e.0 ≡ e.1
        flat same = elim t.way [
          | inl way ↦ ap (λ (d : ℕ × ℕ). d.0) way ∙ same ∙ sym (ap (λ (d : ℕ × ℕ). d.1) way)
          | inr way ↦ ap (λ (d : ℕ × ℕ). d.0) way ∙ sym same ∙ sym (ap (λ (d : ℕ × ℕ). d.1) way)
        ]

    joins : (x : ℕ) (e : ℕ × ℕ) → IsCover dep e.1 e.0 → (t : Ties x e) → Join x t.at
    joins x e cover t = elim t.way [
      | inl way ↦ inl (subst (λ (d : ℕ × ℕ). IsCover dep d.1 d.0) way cover)
      | inr way ↦ inr (subst (λ (d : ℕ × ℕ). IsCover dep d.1 d.0) way cover)
    ]

    -- two that join the same place to one of the two are the same pair
    one_tie : (x : ℕ) (d e : ℕ × ℕ) → IsCover dep d.1 d.0 → IsCover dep e.1 e.0 → Ties x d → Ties x e → d ≡ e
    one_tie x d e cd ce s t = elim s.is [
      | inl sa ↦ elim t.is [
        | inl ta ↦ same (sa ∙ sym ta)
        | inr tb ↦ absurd (no_triangle x a b (subst (λ (k : ℕ). Join x k) sa (joins x d cd s)) (inr first) (subst (λ (k : ℕ). Join x k) tb (joins x e ce t)))
      ]
      | inr sb ↦ elim t.is [
        | inl ta ↦ absurd (no_triangle x a b (subst (λ (k : ℕ). Join x k) ta (joins x e ce t)) (inr first) (subst (λ (k : ℕ). Join x k) sb (joins x d cd s)))
        | inr tb ↦ same (sb ∙ sym tb)
      ]
    ]
      where
        same : s.at ≡ t.at → d ≡ e
        same at = elim s.way [
          | inl sw ↦ elim t.way [
            | inl tw ↦ sw ∙ (λ i. (at i, x)) ∙ sym tw
            | inr tw ↦ absurd (both_ways x s.at (subst (λ (k : ℕ × ℕ). IsCover dep k.1 k.0) sw cd)
                (subst (λ (k : ℕ × ℕ). IsCover dep k.1 k.0) (tw ∙ (λ i. (x, sym at i))) ce))
          ]
          | inr sw ↦ elim t.way [
            | inl tw ↦ absurd (both_ways x s.at (subst (λ (k : ℕ × ℕ). IsCover dep k.1 k.0) (tw ∙ (λ i. (sym at i, x))) ce)
                (subst (λ (k : ℕ × ℕ). IsCover dep k.1 k.0) sw cd))
            | inr tw ↦ sw ∙ (λ i. (x, at i)) ∙ sym tw
          ]
        ]

    -- the pairs that touch neither lie among the other places, and each that touches one has a place of its own there
    module _ (s : fin.FinSet nat_cmp) (within : IsWithin n s) (es : List (ℕ × ℕ)) (pairs : Pairs s ((a, b) ∷ es)) where
      others : fin.FinSet nat_cmp
      others = fin.remove (fin.remove s a) b

      to_others : (x : ℕ) → (x ≡ a → ⊥) × (x ≡ b → ⊥) → fin.contains s x ≡ true → fin.contains others x ≡ true
      unfolding others
      to_others x ne m = to_remove (fin.remove s a) b x ne.1 (to_remove s a x ne.0 m)

      others_within : IsWithin n others
      unfolding others
      others_within x m = within x (from_remove s a x (from_remove (fin.remove s a) b x m).1).1

      two_more : fin.len s ≡ 2 + fin.len others
      unfolding others
      two_more =
          let a_in : fin.contains s a ≡ true = pairs.child a b (Contains-head (a, b) es) in
          let b_in : fin.contains (fin.remove s a) b ≡ true = to_remove s a b first.other (pairs.parent a b (Contains-head (a, b) es)) in
          omega (arith, set_drop s a a_in, set_drop (fin.remove s a) b b_in)

      of_tail : (e : ℕ × ℕ) → Contains es e → (e ≡ (a, b) → ⊥) × IsCover dep e.1 e.0
      of_tail e h = (λ same. pairs.once.0 (subst (λ (d : ℕ × ℕ). Contains es d) same h), pairs.cover e.0 e.1 (Contains-later (a, b) e es h))

      other_in : (e : ℕ × ℕ) → Contains es e → touches e ≡ true → fin.contains others (other e) ≡ true
      other_in e h t =
          let tie = ties e t in
          let tail = of_tail e h in
          to_others (other e) (apart (other e) e tail.0 tail.1 tie) (elim tie.way [
            | inl way ↦ subst (λ (d : ℕ × ℕ). fin.contains s d.1 ≡ true) way (pairs.parent e.0 e.1 (Contains-later (a, b) e es h))
            | inr way ↦ subst (λ (d : ℕ × ℕ). fin.contains s d.0 ≡ true) way (pairs.child e.0 e.1 (Contains-later (a, b) e es h))
          ])

      few_touch : length (filter touches es) ≤ fin.len others
      few_touch =
          let d : AreDistinct (map other (filter touches es)) =
          distinct_map other (filter touches es) (distinct-filter touches es pairs.once.1) (λ x y hx hy same.
          (let fx = filter-Contains touches es x hx in
          let fy = filter-Contains touches es y hy in
          one_tie (other x) x y (of_tail x fx.1).1 (of_tail y fy.1).1 (ties x fx.0) (subst (λ (k : ℕ). Ties k y) (sym same) (ties y fy.0)))) in
          let inside : length (map other (filter touches es)) ≤ fin.len others = length_inside n others (map other (filter touches es)) others_within d (λ x h.
          (let found = map-Contains other (filter touches es) x h in
          let f = filter-Contains touches es found.0 found.1 in
          subst (λ (k : ℕ). fin.contains others k ≡ true) found.2 (other_in found.0 f.1 f.0))) in
          omega (arith, inside, length-map (filter touches es) other)

      misses : ℕ × ℕ → Bool
      misses e = not (touches e)

      ends_of_miss : (e : ℕ × ℕ) → misses e ≡ true → (is_end e.0 ≡ false) × (is_end e.1 ≡ false)
      unfolding misses touches
      ends_of_miss e h = split (is_end e.0) (is_end e.1) h
        where
          split : (x y : Bool) → not (x || y) ≡ true → (x ≡ false) × (y ≡ false)
          split true y f = absurd (let g : false ≡ true = f in cc)
          split false true f = absurd (let g : false ≡ true = f in cc)
          split false false f = (refl, refl)

      rest_pairs : Pairs others (filter misses es)
      rest_pairs = record {
        once = distinct-filter misses es pairs.once.1;
        cover = λ c p h. pairs.cover c p (Contains-later (a, b) (c, p) es (filter-Contains misses es (c, p) h).1);
        child = λ c p h. (let f = filter-Contains misses es (c, p) h in
            to_others c (no_end c (ends_of_miss (c, p) f.0).0) (pairs.child c p (Contains-later (a, b) (c, p) es f.1)));
        parent = λ c p h. (let f = filter-Contains misses es (c, p) h in
            to_others p (no_end p (ends_of_miss (c, p) f.0).1) (pairs.parent c p (Contains-later (a, b) (c, p) es f.1)));
      }

      shared : length (filter touches es) + length (filter misses es) ≡ length es
      unfolding misses
      shared = length-filter_both touches (λ e. not (touches e)) (λ e. refl) es

      fewer : 4 * length (filter misses es) ≤ fin.len others * fin.len others → 4 * length ((a, b) ∷ es) ≤ fin.len s * fin.len s
      fewer rest =
          let all : fin.len s * fin.len s ≡ (2 + fin.len others) * (2 + fin.len others) = ap (λ (k : ℕ). k * k) two_more in
          let one : length ((a, b) ∷ es) ≡ suc (length es) = refl in
          omega (arith, all, one, few_touch, shared, rest)

  few_by : (k : ℕ) (s : fin.FinSet nat_cmp) (pairs : List (ℕ × ℕ)) → IsWithin n s → Pairs s pairs → length pairs ≤ k → 4 * length pairs ≤ fin.len s * fin.len s
  few_by k s [] within h short = omega arith
  few_by zero s (e ∷ es) within h short = absurd (omega (arith, short))
  few_by (suc k) s (e ∷ es) within h short =
      let first : IsCover dep e.1 e.0 = h.cover e.0 e.1 (Contains-head e es) in
      fewer e.0 e.1 first s within es h
      (few_by k (others e.0 e.1 first s within es h) (filter (misses e.0 e.1 first s within es h) es) (others_within e.0 e.1 first s within es h)
      (rest_pairs e.0 e.1 first s within es h)
      (omega (arith, short, shared e.0 e.1 first s within es h)))

  pub few_pairs : (s : fin.FinSet nat_cmp) (pairs : List (ℕ × ℕ)) → IsWithin n s → Pairs s pairs → 4 * length pairs ≤ fin.len s * fin.len s
  few_pairs s pairs within h = few_by (length pairs) s pairs within h (omega arith)
