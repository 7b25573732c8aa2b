-- Lists in which no entry stands twice.
use Rattle.std.proofs.Common.{◌≡◌, ℕ, zero, suc, ◌<◌, ◌≤◌, List, [], ◌∷◌, ◌++◌, Bool, true, false, cond, length, get_or, take, length-append, sym, ap, ◌∙◌, subst, inl, inr, arith}
use Rattle.std.specs.Prelude.{Contains, map, sum_by}
use Rattle.std.specs.List.{filter}
use Rattle.std.proofs.lemmas.List.Elements.{Contains-append_left, Contains-append_right, Contains-append_cases, Contains-push_cases}
use Rattle.std.proofs.lemmas.List.{get_or_default, get_or-take, length-take-le}
use Rattle.std.proofs.lemmas.List.Sums.{sum_by-append, sum_by-cons}
use Rattle.std.proofs.lemmas.Bool.{cases_eq, cases_lt}
use Rattle.lists.specs.Distinct.{AreDistinct}
use Rattle.lists.proofs.Entries.{Contains-head, Contains-later, Contains-cases, Contains-between, Contains-splits, none_in_empty, filter-Contains, map-Contains}

pub distinct-append_left : {A : Type 0} (xs ys : List A) → AreDistinct (xs ++ ys) → AreDistinct xs
distinct-append_left [] ys d = tt
distinct-append_left (x ∷ xs) ys d = (λ h. d.0 (Contains-append_left xs ys x h), distinct-append_left xs ys d.1)

pub distinct-append_right : {A : Type 0} (xs ys : List A) → AreDistinct (xs ++ ys) → AreDistinct ys
distinct-append_right [] ys d = d
distinct-append_right (x ∷ xs) ys d = distinct-append_right xs ys d.1

-- two lists that follow each other have no entry in common
pub distinct_apart : {A : Type 0} (xs ys : List A) (x : A) → AreDistinct (xs ++ ys) → Contains xs x → Contains ys x → ⊥
distinct_apart [] ys x d here there = none_in_empty x here
distinct_apart (a ∷ xs) ys x d here there = elim (Contains-cases a x xs here) [
  | inl same ↦ d.0 (subst (λ z. Contains (xs ++ ys) z) (sym same) (Contains-append_right xs ys x there))
  | inr later ↦ distinct_apart xs ys x d.1 later there
]

pub distinct_joined : {A : Type 0} (xs ys : List A) → AreDistinct xs → AreDistinct ys → ((x : A) → Contains xs x → Contains ys x → ⊥) → AreDistinct (xs ++ ys)
distinct_joined [] ys d e apart = e
distinct_joined (a ∷ xs) ys d e apart = (
  λ h. elim (Contains-append_cases xs ys a h) [ inl left ↦ d.0 left | inr right ↦ apart a (Contains-head a xs) right ],
  distinct_joined xs ys d.1 e (λ x left right. apart x (Contains-later a x xs left) right),
)

pub distinct_kept : {A : Type 0} (b : Bool) (x : A) (xs : List A) → (Contains xs x → ⊥) → AreDistinct xs → AreDistinct (cond b (x ∷ xs) xs)
distinct_kept true x xs new d = (new, d)
distinct_kept false x xs new d = d

pub distinct-filter : {A : Type 0} (p : A → Bool) (xs : List A) → AreDistinct xs → AreDistinct (filter p xs)
distinct-filter p [] d = tt
distinct-filter p (x ∷ xs) d = distinct_kept (p x) x (filter p xs) (λ h. d.0 (filter-Contains p xs x h).1) (distinct-filter p xs d.1)

-- without one entry the others are still distinct, and that one isn't among them
pub distinct_without : {A : Type 0} (before after : List A) (x : A) → AreDistinct (before ++ x ∷ after)
    → AreDistinct (before ++ after) × (Contains (before ++ after) x → ⊥)
distinct_without [] after x d = (d.1, d.0)
distinct_without (a ∷ before) after x d =
    let rest = distinct_without before after x d.1 in
    let new : Contains (before ++ after) a → ⊥ = λ h. d.0 (elim (Contains-append_cases before after a h) [
      | inl left ↦ Contains-append_left before (x ∷ after) a left
      | inr right ↦ Contains-append_right before (x ∷ after) a (Contains-later x a after right)
    ]) in
    let other : Contains (a ∷ (before ++ after)) x → ⊥ = λ h. elim (Contains-cases a x (before ++ after) h) [
      | inl same ↦ d.0 (subst (λ z. Contains (before ++ x ∷ after) z) (sym same) (Contains-append_right before (x ∷ after) x (Contains-head x after)))
      | inr later ↦ rest.1 later
    ] in
    ((new, rest.0), other)

-- a list without repeats, of entries of another, is no longer and has no greater sum
pub distinct_within : {A : Type 0} (f : A → ℕ) (xs ys : List A) → AreDistinct xs → ((x : A) → Contains xs x → Contains ys x)
    → (length xs ≤ length ys) × (sum_by f xs ≤ sum_by f ys)
distinct_within f [] ys once inside = (omega arith, omega arith)
distinct_within f (x ∷ xs) ys once inside =
    let cut = Contains-splits ys x (inside x (Contains-head x xs)) in
    let rest = distinct_within f xs (cut.0 ++ cut.1) once.1
    (λ y here. elim (Contains-between cut.0 cut.1 x y (subst (λ zs. Contains zs y) cut.2 (inside y (Contains-later x y xs here)))) [
      | inl same ↦ absurd (once.0 (subst (Contains xs) (sym same) here))
      | inr there ↦ there
    ]) in (
      omega (arith, rest.0, ap length cut.2, length-append cut.0 (x ∷ cut.1), length-append cut.0 cut.1),
      omega (
        arith,
        rest.1,
        ap (sum_by f) cut.2,
        sum_by-append f cut.0 (x ∷ cut.1),
        sum_by-append f cut.0 cut.1,
        sum_by-cons f x cut.1,
        sum_by-cons f x xs,
      ),
    )

-- What stands before an entry of a front stands in that front.
pub stays_before : {A : Type 0} (before after front rest : List A) (a b : A) → before ++ b ∷ after ≡ front ++ rest
    → AreDistinct (front ++ rest) → Contains front b → Contains before a → Contains front a
stays_before before after [] rest a b e d here h = absurd (none_in_empty b here)
stays_before [] after (c ∷ front) rest a b e d here h = absurd (none_in_empty a h)
stays_before (x ∷ before) after (c ∷ front) rest a b e d here h =
    let tails : before ++ b ∷ after ≡ front ++ rest = cc in
    let heads : x ≡ c = cc in
    elim (Contains-cases x a before h) [
      | inl same ↦ subst (λ z. Contains (c ∷ front) z) (sym heads ∙ same) (Contains-head c front)
      | inr later ↦ elim (Contains-cases c b front here) [
        | inl first ↦ absurd (d.0 (subst (λ zs. Contains zs c) tails
            (Contains-append_right before (b ∷ after) c (subst (λ z. Contains (b ∷ after) z) (sym first) (Contains-head b after)))))
        | inr there ↦ Contains-later c a front (stays_before before after front rest a b tails d.1 there later)
      ]
    ]

-- what is made of different entries, where no two become one
pub distinct_map : {A B : Type 0} (f : A → B) (xs : List A) → AreDistinct xs
    → ((x y : A) → Contains xs x → Contains xs y → f x ≡ f y → x ≡ y) → AreDistinct (map f xs)
distinct_map f [] once apart = tt
distinct_map {A = A} f (x ∷ xs) once apart = (
  λ here.
      let found = map-Contains f xs (f x) here in
      once.0 (subst (λ (z : A). Contains xs z) (apart found.0 x (Contains-later x found.0 xs found.1) (Contains-head x xs) found.2) found.1),
  distinct_map f xs once.1 (λ a b here there. apart a b (Contains-later x a xs here) (Contains-later x b xs there)),
)

-- ---- by places

-- an entry doesn't stand at two places
pub places_apart : {A : Type 0} (xs : List A) (i j : ℕ) (d : A) → AreDistinct xs → i < j → j < length xs → get_or xs i d ≡ get_or xs j d → ⊥
places_apart [] i j d h less in' e = omega arith
places_apart (x ∷ xs) i zero d h less in' e = omega arith
places_apart (x ∷ xs) zero (suc j) d h less in' e =
    let k : j < length xs = omega arith in
    h.0 (j, k, get_or_default xs j x d k ∙ sym e)
places_apart (x ∷ xs) (suc i) (suc j) d h less in' e = places_apart xs i j d h.1 (omega arith) (omega arith) e

-- so equal entries stand at one place
pub one_place : {A : Type 0} (xs : List A) (i j : ℕ) (d : A) → AreDistinct xs → i < length xs → j < length xs → get_or xs i d ≡ get_or xs j d → i ≡ j
one_place xs i j d h a b e =
    elim (cases_lt i j) [
      | inl less ↦ absurd (places_apart xs i j d h less b e)
      | inr more ↦ elim (cases_eq i j) [ inl same ↦ same | inr other ↦ absurd (places_apart xs j i d h (omega arith) a (sym e)) ]
    ]

first : {A : Type 0} (x : A) (xs : List A)
    → ((i j : ℕ) (d : A) → i < j → j < length (x ∷ xs) → get_or (x ∷ xs) i d ≡ get_or (x ∷ xs) j d → ⊥) → Contains xs x → ⊥
first x xs h (k, in', e) = h 0 (suc k) x (omega arith) (omega arith) (sym e)

pub distinct_from_places : {A : Type 0} (xs : List A) → ((i j : ℕ) (d : A) → i < j → j < length xs → get_or xs i d ≡ get_or xs j d → ⊥) → AreDistinct xs
distinct_from_places [] h = tt
distinct_from_places (x ∷ xs) h = (first x xs h, distinct_from_places xs (λ i j d less in' e. h (suc i) (suc j) d (omega arith) (omega arith) e))

-- one more entry
pub distinct_push : {A : Type 0} (xs : List A) (x : A) → AreDistinct xs → (Contains xs x → ⊥) → AreDistinct (xs ++ (x ∷ []))
distinct_push [] x d n = ((λ h. omega (arith, h.1)), tt)
distinct_push (y ∷ xs) x d n = (
  (λ h. elim (Contains-push_cases xs x y h) [ inl there ↦ d.0 there | inr same ↦ n (0, omega arith, sym same) ]),
  distinct_push xs x d.1 (λ h. n (Contains-later y x xs h)),
)

-- an entry that stands again
pub repeated : {A : Type 0} (xs : List A) (k : ℕ) (x d : A) → k < length xs → get_or xs k d ≡ x → Contains (take k xs) x → AreDistinct xs → ⊥
repeated xs k x d in' e (i, a, at) h =
    let less : i < k = omega (arith, length-take-le k xs (omega arith)) in
    places_apart xs i k d h less in' (sym (get_or-take k xs i d less) ∙ get_or_default (take k xs) i d x a ∙ at ∙ sym e)
