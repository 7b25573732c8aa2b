-- The flows of a balanced set certify it.
use Rattle.std.proofs.Common.{◌≡◌, ℕ, ◌+◌, ◌<◌, ◌≤◌, inl, inr, Bool, true, false, cond, nat_eq, List, [], ◌∷◌, ◌++◌}
use Rattle.std.proofs.Common.{map, sum_by, ℤ, pos, refl, sym, ap, ◌∙◌, subst, arith}
use Rattle.std.specs.Prelude.{Contains}
use Rattle.std.proofs.lemmas.Int.{ints}
use Rattle.std.proofs.lemmas.Bool.{cases_lt, cases_Bool}
use Rattle.std.proofs.lemmas.List.{map-append}
use Rattle.std.proofs.lemmas.List.Sums.{sum_by-cons, sum_by-append}
use Rattle.std.proofs.lemmas.List.Elements.{Contains-append_cases}
use Rattle.std.specs.List.{range_with_len}
use Rattle.std.specs.Ordering.{nat_cmp}
use Rattle.std.specs.FinSet as fin
use Rattle.bitset.specs.Members.{from_meet, to_meet}
use Rattle.lists.proofs.Entries.{map-Contains, Contains-head, Contains-later, Contains-cases, none_in_empty}
use Rattle.lists.proofs.Distinct.{distinct_joined}
use Rattle.lists.specs.Distinct.{AreDistinct}
use Rattle.arithmetic.proofs.Sums.{sum_by_along, total-filter_cond, total_same, total-pos}
use Rattle.bitset.specs.Places.{places, IsWithin}
use Rattle.bitset.specs.Sets.{Contains-places, places-Contains}
use Rattle.closure_flow.specs.Closures.{parents_at}
use Rattle.graphs.specs.declared.names.Flow.{Flow}
use Rattle.graphs.specs.Certificates.{given, gotten}
use Rattle.linearize.specs.Orders.{flows_from, flows_of, parents_within}
use Rattle.linearize.proofs.FlowLists.{from_append, from_one, from_none, from_nil, of_append, of_one, of_nil}
use Rattle.linearize.proofs.Lists.{distinct_places, pick, pick_in, pick_out}

-- ---- what each place sends and gets
given_joined : (xs ys : List Flow) (id : ℕ) → given (xs ++ ys) id ≡ given xs id + given ys id
given_joined xs ys id = sum_by-append (λ flow. cond (nat_eq flow.child id) flow.amount 0) xs ys

gotten_joined : (xs ys : List Flow) (id : ℕ) → gotten (xs ++ ys) id ≡ gotten xs id + gotten ys id
gotten_joined xs ys id = sum_by-append (λ flow. cond (nat_eq flow.parent id) flow.amount 0) xs ys

cond_add : (b : Bool) (x y : ℕ) → cond b x 0 + cond b y 0 ≡ cond b (x + y) 0
cond_add true x y = refl
cond_add false x y = refl

cond_zero : (b : Bool) → ◌≡◌ {A = ℕ} (cond b 0 0) 0
cond_zero true = refl
cond_zero false = refl

given_one : (flow : ℕ → ℕ → ℕ) (c p id : ℕ) → given (flows_from flow c (p ∷ [])) id ≡ cond (nat_eq c id) (flow c p) 0
given_one flow c p id = elim (cases_lt 0 (flow c p)) as (λ _. given (flows_from flow c (p ∷ [])) id ≡ cond (nat_eq c id) (flow c p) 0) [
  | inl some ↦ ap (λ fs. given fs id) (from_one flow c p some)
      ∙ (let one = sum_by-cons (λ (f : Flow). cond (nat_eq f.child id) f.amount 0) (record { child = c; parent = p; amount = flow c p }) [] in
      omega (arith, one))
  | inr none ↦ ap (λ fs. given fs id) (from_none flow c p none)
      ∙ (let zero_ : flow c p ≡ 0 = omega (arith, none) in sym (ap (λ (k : ℕ). cond (nat_eq c id) k 0) zero_ ∙ cond_zero (nat_eq c id)))
]

gotten_one : (flow : ℕ → ℕ → ℕ) (c p id : ℕ) → gotten (flows_from flow c (p ∷ [])) id ≡ cond (nat_eq p id) (flow c p) 0
gotten_one flow c p id = elim (cases_lt 0 (flow c p)) as (λ _. gotten (flows_from flow c (p ∷ [])) id ≡ cond (nat_eq p id) (flow c p) 0) [
  | inl some ↦ ap (λ fs. gotten fs id) (from_one flow c p some)
      ∙ (let one = sum_by-cons (λ (f : Flow). cond (nat_eq f.parent id) f.amount 0) (record { child = c; parent = p; amount = flow c p }) [] in
      omega (arith, one))
  | inr none ↦ ap (λ fs. gotten fs id) (from_none flow c p none)
      ∙ (let zero_ : flow c p ≡ 0 = omega (arith, none) in sym (ap (λ (k : ℕ). cond (nat_eq p id) k 0) zero_ ∙ cond_zero (nat_eq p id)))
]

given_from : (flow : ℕ → ℕ → ℕ) (c id : ℕ) (ps : List ℕ) → given (flows_from flow c ps) id ≡ cond (nat_eq c id) (sum_by (flow c) ps) 0
given_from flow c id [] = ap (λ fs. given fs id) (from_nil flow c) ∙ sym (cond_zero (nat_eq c id))
given_from flow c id (p ∷ ps) =
    ap (λ fs. given fs id) (from_append flow c (p ∷ []) ps) ∙ given_joined (flows_from flow c (p ∷ [])) (flows_from flow c ps) id
    ∙ ap (λ (k : ℕ). k + given (flows_from flow c ps) id) (given_one flow c p id)
    ∙ ap (λ (k : ℕ). cond (nat_eq c id) (flow c p) 0 + k) (given_from flow c id ps)
    ∙ cond_add (nat_eq c id) (flow c p) (sum_by (flow c) ps) ∙ ap (λ (k : ℕ). cond (nat_eq c id) k 0) (sym (sum_by-cons (flow c) p ps))

gotten_from : (flow : ℕ → ℕ → ℕ) (c id : ℕ) (ps : List ℕ) → gotten (flows_from flow c ps) id ≡ sum_by (pick id (flow c)) ps
gotten_from flow c id [] = ap (λ fs. gotten fs id) (from_nil flow c)
gotten_from flow c id (p ∷ ps) =
    ap (λ fs. gotten fs id) (from_append flow c (p ∷ []) ps) ∙ gotten_joined (flows_from flow c (p ∷ [])) (flows_from flow c ps) id
    ∙ ap (λ (k : ℕ). k + gotten (flows_from flow c ps) id) (gotten_one flow c p id)
    ∙ ap (λ (k : ℕ). cond (nat_eq p id) (flow c p) 0 + k) (gotten_from flow c id ps)
    ∙ sym (sum_by-cons (λ q. cond (nat_eq q id) (flow c q) 0) p ps)

module _ (n : ℕ) (parents : List (fin.FinSet nat_cmp)) (s : fin.FinSet nat_cmp) (flow : ℕ → ℕ → ℕ) where
  of_cons : (c : ℕ) (cs : List ℕ) → flows_of n parents s flow (c ∷ cs) ≡ flows_from flow c (parents_within n parents s c) ++ flows_of n parents s flow cs
  of_cons c cs = of_append n parents s flow (c ∷ []) cs ∙ ap (λ fs. fs ++ flows_of n parents s flow cs) (of_one n parents s flow c)

  given_of : (id : ℕ) (cs : List ℕ) → given (flows_of n parents s flow cs) id ≡ sum_by (pick id (λ c. sum_by (flow c) (parents_within n parents s c))) cs
  given_of id [] = ap (λ fs. given fs id) (of_nil n parents s flow)
  given_of id (c ∷ cs) =
      ap (λ fs. given fs id) (of_cons c cs) ∙ given_joined (flows_from flow c (parents_within n parents s c)) (flows_of n parents s flow cs) id
      ∙ ap (λ (k : ℕ). k + given (flows_of n parents s flow cs) id) (given_from flow c id (parents_within n parents s c))
      ∙ ap (λ (k : ℕ). cond (nat_eq c id) (sum_by (flow c) (parents_within n parents s c)) 0 + k) (given_of id cs)
      ∙ sym (sum_by-cons (λ d. cond (nat_eq d id) (sum_by (flow d) (parents_within n parents s d)) 0) c cs)

  gotten_of : (id : ℕ) (cs : List ℕ) → gotten (flows_of n parents s flow cs) id ≡ sum_by (λ c. sum_by (pick id (flow c)) (parents_within n parents s c)) cs
  gotten_of id [] = ap (λ fs. gotten fs id) (of_nil n parents s flow)
  gotten_of id (c ∷ cs) =
      ap (λ fs. gotten fs id) (of_cons c cs) ∙ gotten_joined (flows_from flow c (parents_within n parents s c)) (flows_of n parents s flow cs) id
      ∙ ap (λ (k : ℕ). k + gotten (flows_of n parents s flow cs) id) (gotten_from flow c id (parents_within n parents s c))
      ∙ ap (λ (k : ℕ). sum_by (pick id (flow c)) (parents_within n parents s c) + k) (gotten_of id cs)
      ∙ sym (sum_by-cons (λ d. sum_by (pick id (flow d)) (parents_within n parents s d)) c cs)

  -- ---- the flow stands on the pairs within the set
  module _ (within : IsWithin n s) (pair : (c p : ℕ) → 0 < flow c p → fin.contains (parents_at parents c) p ≡ true) where
    zero_else : (c p : ℕ) → fin.contains s p ≡ true → fin.contains (fin.intersection (parents_at parents c) s) p ≡ false → flow c p ≡ 0
    zero_else c p m out = elim (cases_lt 0 (flow c p)) as (λ _. flow c p ≡ 0) [
      | inl some ↦ absurd (let in' : true ≡ false = sym (to_meet (parents_at parents c) s p (pair c p some) m) ∙ out in cc)
      | inr none ↦ omega (arith, none)
    ]

    term : (k m : Bool) (x : ℤ) → (k ≡ true → m ≡ true) → (m ≡ true → k ≡ false → x ≡ pos 0) → cond k x (pos 0) ≡ cond m x (pos 0)
    term true m x inside none = ap (λ (b : Bool). cond b x (pos 0)) (sym (inside refl))
    term false true x inside none = sym (none refl refl)
    term false false x inside none = refl

    sent_within : (c : ℕ) → sum_by (flow c) (parents_within n parents s c) ≡ sum_by (flow c) (places n s)
    sent_within c =
        let one = total-filter_cond (λ p. pos (flow c p)) (fin.contains (fin.intersection (parents_at parents c) s)) (range_with_len 0 n) in
        let two = total-filter_cond (λ p. pos (flow c p)) (fin.contains s) (range_with_len 0 n) in
        let each = total_same (λ p. cond (fin.contains (fin.intersection (parents_at parents c) s) p) (pos (flow c p)) (pos 0))
        (λ p. cond (fin.contains s p) (pos (flow c p)) (pos 0)) (range_with_len 0 n)
        (λ p. term (fin.contains (fin.intersection (parents_at parents c) s) p) (fin.contains s p) (pos (flow c p))
        (λ m. (from_meet (parents_at parents c) s p m).1) (λ m out. ap pos (zero_else c p m out))) in
        omega (arith, ints, one, two, each, total-pos (flow c) (parents_within n parents s c), total-pos (flow c) (places n s))

    got_from : (c id : ℕ) → fin.contains s id ≡ true → sum_by (pick id (flow c)) (parents_within n parents s c) ≡ flow c id
    got_from c id m = elim (cases_Bool (fin.contains (fin.intersection (parents_at parents c) s) id)) as
        (λ _. sum_by (pick id (flow c)) (parents_within n parents s c) ≡ flow c id) [
          | inl here ↦ pick_in id (flow c) (parents_within n parents s c) (distinct_places n _) (Contains-places n _ id (within id m) here)
          | inr out ↦
              pick_out id (flow c) (parents_within n parents s c) (λ h. (let g : true ≡ false = sym (places-Contains n _ id h).1 ∙ out in cc))
              ∙ sym (zero_else c id m out)
        ]

    pub given_is : (id : ℕ) → fin.contains s id ≡ true → given (flows_of n parents s flow (places n s)) id ≡ sum_by (flow id) (places n s)
    given_is id m =
        given_of id (places n s)
        ∙ pick_in id (λ c. sum_by (flow c) (parents_within n parents s c)) (places n s) (distinct_places n s) (Contains-places n s id (within id m) m)
        ∙ sent_within id

    pub gotten_is : (id : ℕ) → fin.contains s id ≡ true → gotten (flows_of n parents s flow (places n s)) id ≡ sum_by (λ c. flow c id) (places n s)
    gotten_is id m = gotten_of id (places n s)
        ∙ sum_by_along (λ c. sum_by (pick id (flow c)) (parents_within n parents s c)) (λ c. flow c id) (places n s) (λ c _. got_from c id m)

  -- ---- what is in the list
  pub record Sent (cs : List ℕ) (f : Flow) : Type 0 where
    pub child : Contains cs f.child
    pub parent : Contains (parents_within n parents s f.child) f.parent
    pub some : 1 ≤ f.amount

  in_from : (c : ℕ) (ps : List ℕ) (f : Flow) → Contains (flows_from flow c ps) f → (f.child ≡ c) × Contains ps f.parent × (1 ≤ f.amount)
  in_from c [] f h = absurd (none_in_empty f (subst (λ fs. Contains fs f) (from_nil flow c) h))
  in_from c (p ∷ ps) f h =
      elim (Contains-append_cases (flows_from flow c (p ∷ [])) (flows_from flow c ps) f (subst (λ fs. Contains fs f) (from_append flow c (p ∷ []) ps) h)) [
        | inl here ↦ elim (cases_lt 0 (flow c p)) as (λ _. (f.child ≡ c) × Contains (p ∷ ps) f.parent × (1 ≤ f.amount)) [
          | inl some ↦ elim (Contains-cases _ f [] (subst (λ fs. Contains fs f) (from_one flow c p some) here)) [
            | inl same ↦ (
              ap (λ (x : Flow). x.child) (sym same),
              subst (λ (x : Flow). Contains (p ∷ ps) x.parent) same (Contains-head p ps),
              subst (λ (x : Flow). 1 ≤ x.amount) same (omega (arith, some)),
            )
            | inr none ↦ absurd (none_in_empty f none)
          ]
          | inr none ↦ absurd (none_in_empty f (subst (λ fs. Contains fs f) (from_none flow c p none) here))
        ]
        | inr later ↦ let rest = in_from c ps f later in (rest.0, Contains-later p f.parent ps rest.1, rest.2)
      ]

  pub in_of : (cs : List ℕ) (f : Flow) → Contains (flows_of n parents s flow cs) f → Sent cs f
  in_of [] f h = absurd (none_in_empty f (subst (λ fs. Contains fs f) (of_nil n parents s flow) h))
  in_of (c ∷ cs) f h =
      elim (Contains-append_cases (flows_from flow c (parents_within n parents s c)) (flows_of n parents s flow cs) f
      (subst (λ fs. Contains fs f) (of_cons c cs) h)) [
        | inl here ↦
            let found = in_from c (parents_within n parents s c) f here in
            record {
              child = subst (λ (k : ℕ). Contains (c ∷ cs) k) (sym found.0) (Contains-head c cs);
              parent = subst (λ (k : ℕ). Contains (parents_within n parents s k) f.parent) (sym found.0) found.1;
              some = found.2;
            }
        | inr later ↦ let rest = in_of cs f later in record { child = Contains-later c f.child cs rest.child; parent = rest.parent; some = rest.some }
      ]

  ends : Flow → ℕ × ℕ
  ends f = (f.child, f.parent)

  ends_from : (c : ℕ) (ps : List ℕ) → AreDistinct ps → AreDistinct {A = ℕ × ℕ} (map (λ f. (f.child, f.parent)) (flows_from flow c ps))
  ends_from c [] d = subst (λ fs. AreDistinct {A = ℕ × ℕ} (map (λ f. (f.child, f.parent)) fs)) (sym (from_nil flow c)) tt
  ends_from c (p ∷ ps) d =
      let rest = ends_from c ps d.1 in
      elim (cases_lt 0 (flow c p)) as (λ _. AreDistinct {A = ℕ × ℕ} (map (λ f. (f.child, f.parent)) (flows_from flow c (p ∷ ps)))) [
        | inl some ↦
            subst (λ fs. AreDistinct {A = ℕ × ℕ} (map (λ f. (f.child, f.parent)) fs))
            (sym (from_append flow c (p ∷ []) ps ∙ ap (λ fs. fs ++ flows_from flow c ps) (from_one flow c p some))) (
              λ h. (let found = map-Contains (λ f. (f.child, f.parent)) (flows_from flow c ps) (c, p) h in
                  let at = in_from c ps found.0 found.1 in
                  d.0 (subst (λ (k : ℕ). Contains ps k) (ap (λ (e : ℕ × ℕ). e.1) found.2) at.1)),
              rest,
            )
        | inr none ↦
            subst (λ fs. AreDistinct {A = ℕ × ℕ} (map (λ f. (f.child, f.parent)) fs))
            (sym (from_append flow c (p ∷ []) ps ∙ ap (λ fs. fs ++ flows_from flow c ps) (from_none flow c p none))) rest
      ]

  pub ends_of : (cs : List ℕ) → AreDistinct cs → AreDistinct {A = ℕ × ℕ} (map (λ f. (f.child, f.parent)) (flows_of n parents s flow cs))
  ends_of [] d = subst (λ fs. AreDistinct {A = ℕ × ℕ} (map (λ f. (f.child, f.parent)) fs)) (sym (of_nil n parents s flow)) tt
  ends_of (c ∷ cs) d =
      subst (λ es. AreDistinct {A = ℕ × ℕ} es)
      (sym (ap (map (λ (f : Flow). (f.child, f.parent))) (of_cons c cs)
      ∙ map-append (λ (f : Flow). (f.child, f.parent)) (flows_from flow c (parents_within n parents s c)) (flows_of n parents s flow cs)))
      (distinct_joined _ _ (ends_from c (parents_within n parents s c) (distinct_places n _)) (ends_of cs d.1) (λ e one two.
      (let a = map-Contains (λ f. (f.child, f.parent)) (flows_from flow c (parents_within n parents s c)) e one in
      let b = map-Contains (λ f. (f.child, f.parent)) (flows_of n parents s flow cs) e two in
      let here = in_from c (parents_within n parents s c) a.0 a.1 in
      let there = in_of cs b.0 b.1 in
      d.0 (subst (λ (k : ℕ). Contains cs k) (ap (λ (x : ℕ × ℕ). x.0) (b.2 ∙ sym a.2) ∙ here.0) there.child))))
