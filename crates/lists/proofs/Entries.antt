-- What lists hold.
use Rattle.std.proofs.Common.{◌≡◌, ◌≤◌, zero, suc, List, [], ◌∷◌, ◌++◌, Bool, true, false, cond, length, refl, sym, ap, ◌∙◌, subst, inl, inr, ◌⊎◌, arith, length-append}
use Rattle.std.specs.Prelude.{Contains, All, map}
use Rattle.std.proofs.lemmas.List.Elements.{All-nil, All-cons, All-head, All-tail}
use Rattle.std.specs.List.{filter}

pub Contains-head : {X : Type 0} (x : X) (xs : List X) → Contains (x ∷ xs) x
Contains-head x xs = (0, omega arith, refl)

pub Contains-later : {X : Type 0} (x y : X) (xs : List X) → Contains xs y → Contains (x ∷ xs) y
Contains-later x y xs h = (suc h.0, omega arith, h.2)

pub Contains-cases : {X : Type 0} (x y : X) (xs : List X) → Contains (x ∷ xs) y → (x ≡ y) ⊎ Contains xs y
Contains-cases x y xs (zero, _, same) = inl same
Contains-cases x y xs (suc k, below, same) = inr (k, omega arith, same)

pub none_in_empty : {X : Type 0} (x : X) → Contains [] x → ⊥
none_in_empty x h = omega (arith, h.1)

pub Contains-one : {X : Type 0} (x y : X) → Contains (x ∷ []) y → x ≡ y
Contains-one x y h = elim (Contains-cases x y [] h) [ inl same ↦ same | inr none ↦ absurd (none_in_empty y none) ]

-- an entry beside one that stands between two lists
pub Contains-between : {X : Type 0} (xs ys : List X) (x y : X) → Contains (xs ++ x ∷ ys) y → (x ≡ y) ⊎ Contains (xs ++ ys) y
Contains-between [] ys x y h = Contains-cases x y ys h
Contains-between (z ∷ xs) ys x y h = elim (Contains-cases z y (xs ++ x ∷ ys) h) [
  | inl same ↦ inr (subst (Contains (z ∷ xs ++ ys)) same (Contains-head z (xs ++ ys)))
  | inr later ↦ elim (Contains-between xs ys x y later) [ inl same ↦ inl same | inr there ↦ inr (Contains-later z y (xs ++ ys) there) ]
]

-- what two lists that begin alike have in common
pub first_of : {A : Type 0} {x y : A} {xs ys : List A} → x ∷ xs ≡ y ∷ ys → x ≡ y
first_of e = cc

pub rest_of : {A : Type 0} {x y : A} {xs ys : List A} → x ∷ xs ≡ y ∷ ys → xs ≡ ys
rest_of e = cc

pub not_empty : {A : Type 0} {x : A} {xs : List A} → x ∷ xs ≡ [] → ⊥
not_empty e = cc

-- ---- entries that pass a test
keeps_head : {A : Type 0} (b : Bool) (x : A) (xs : List A) → b ≡ true → Contains (cond b (x ∷ xs) xs) x
keeps_head true x xs e = Contains-head x xs
keeps_head false x xs e = cc

keeps_rest : {A : Type 0} (b : Bool) (x y : A) (xs : List A) → Contains xs y → Contains (cond b (x ∷ xs) xs) y
keeps_rest true x y xs h = Contains-later x y xs h
keeps_rest false x y xs h = h

pub Contains-filter : {A : Type 0} (p : A → Bool) (xs : List A) (x : A) → p x ≡ true → Contains xs x → Contains (filter p xs) x
Contains-filter p [] x e h = absurd (none_in_empty x h)
Contains-filter p (a ∷ xs) x e h = elim (Contains-cases a x xs h) [
  | inl same ↦ subst (λ z. Contains (filter p (a ∷ xs)) z) same (keeps_head (p a) a (filter p xs) (ap p same ∙ e))
  | inr later ↦ keeps_rest (p a) a x (filter p xs) (Contains-filter p xs x e later)
]

pub kept_cases : {A : Type 0} (b : Bool) (x y : A) (xs : List A) → Contains (cond b (x ∷ xs) xs) y → ((b ≡ true) × (x ≡ y)) ⊎ Contains xs y
kept_cases true x y xs h = elim (Contains-cases x y xs h) [ inl same ↦ inl (refl, same) | inr later ↦ inr later ]
kept_cases false x y xs h = inr h

pub filter-Contains : {A : Type 0} (p : A → Bool) (xs : List A) (x : A) → Contains (filter p xs) x → (p x ≡ true) × Contains xs x
filter-Contains p [] x h = absurd (none_in_empty x h)
filter-Contains p (a ∷ xs) x h = elim (kept_cases (p a) a x (filter p xs) h) [
  | inl here ↦ (ap p (sym here.1) ∙ here.0, subst (λ z. Contains (a ∷ xs) z) here.1 (Contains-head a xs))
  | inr later ↦ let found = filter-Contains p xs x later in (found.0, Contains-later a x xs found.1)
]

-- ---- where an entry stands
pub Contains-splits : {A : Type 0} (xs : List A) (x : A) → Contains xs x → (before after : List A) × (xs ≡ before ++ x ∷ after)
Contains-splits [] x h = absurd (none_in_empty x h)
Contains-splits (a ∷ xs) x h = elim (Contains-cases a x xs h) [
  | inl same ↦ ([], xs, ap (λ z. z ∷ xs) same)
  | inr later ↦ let found = Contains-splits xs x later in (a ∷ found.0, found.1, ap (λ zs. a ∷ zs) found.2)
]

-- ---- what is made of each entry

-- what an entry of a mapped list is
pub map-Contains : {A B : Type 0} (f : A → B) (xs : List A) (y : B) → Contains (map f xs) y → (x : A) × Contains xs x × (f x ≡ y)
map-Contains f [] y h = absurd (none_in_empty y h)
map-Contains f (x ∷ xs) y h = elim (Contains-cases (f x) y (map f xs) h) [
  | inl same ↦ (x, Contains-head x xs, same)
  | inr later ↦ let found = map-Contains f xs y later in (found.0, Contains-later x found.0 xs found.1, found.2)
]

pub Contains-map : {A B : Type 0} (f : A → B) (xs : List A) (x : A) → Contains xs x → Contains (map f xs) (f x)
Contains-map f [] x h = absurd (none_in_empty x h)
Contains-map f (a ∷ xs) x h = elim (Contains-cases a x xs h) [
  | inl same ↦ subst (λ z. Contains (f a ∷ map f xs) (f z)) same (Contains-head (f a) (map f xs))
  | inr later ↦ Contains-later (f a) (f x) (map f xs) (Contains-map f xs x later)
]

-- functions that agree at each entry make the same
pub map_along : {A B : Type 0} (f g : A → B) (xs : List A) → ((x : A) → Contains xs x → f x ≡ g x) → map f xs ≡ map g xs
map_along f g [] same = refl
map_along f g (x ∷ xs) same = λ i. same x (Contains-head x xs) i ∷ map_along f g xs (λ y here. same y (Contains-later x y xs here)) i

-- where a mapped list is cut, the list itself is
pub map_cut : {A B : Type 0} (f : A → B) (xs : List A) (before after : List B) → map f xs ≡ before ++ after
    → (ys zs : List A) × (xs ≡ ys ++ zs) × (before ≡ map f ys) × (after ≡ map f zs)
map_cut f xs [] after e = ([], xs, refl, refl, sym e)
map_cut f [] (b ∷ before) after e = cc
map_cut f (x ∷ xs) (b ∷ before) after e =
    let found = map_cut f xs before after (rest_of e) in
    let head : f x ≡ b = first_of e in
    (x ∷ found.0, found.1, ap (λ zs. x ∷ zs) found.2, (λ i. sym head i ∷ found.3 i), found.4)

-- ---- what all of two lists together have

pub All-front : {A : Type 0} (P : A → Type 0) (xs ys : List A) → All P (xs ++ ys) → All P xs
All-front P [] ys h = All-nil P
All-front P (x ∷ xs) ys h = All-cons P x xs (All-head P x (xs ++ ys) h) (All-front P xs ys (All-tail P x (xs ++ ys) h))

pub All-back : {A : Type 0} (P : A → Type 0) (xs ys : List A) → All P (xs ++ ys) → All P ys
All-back P [] ys h = h
All-back P (x ∷ xs) ys h = All-back P xs ys (All-tail P x (xs ++ ys) h)

-- where a list with one more entry is cut at an entry: at the new one, or within the list
pub push_cases : {A : Type 0} (xs : List A) (x y : A) (before after : List A) → xs ++ x ∷ [] ≡ before ++ y ∷ after
    → ((before ≡ xs) × (x ≡ y)) ⊎ ((rest : List A) × (xs ≡ before ++ y ∷ rest))
push_cases [] x y [] after e = inl (refl, first_of e)
push_cases [] x y (b ∷ before) after e = absurd (omega (arith, ap length (rest_of e), length-append before (y ∷ after)))
push_cases (a ∷ xs) x y [] after e = inr (xs, ap (λ z. z ∷ xs) (first_of e))
push_cases (a ∷ xs) x y (b ∷ before) after e =
    let head : a ≡ b = first_of e in
    elim (push_cases xs x y before after (rest_of e)) [
      | inl found ↦ inl (λ i. sym head i ∷ found.0 i, found.1)
      | inr found ↦ inr (found.0, λ i. head i ∷ found.1 i)
    ]
