-- Merged lists, and what is made of their entries.
use Rattle.std.proofs.Common.{◌≡◌, ℕ, Bool, true, List, [], ◌∷◌, ◌++◌, map, sym, refl, subst, ap, ◌∙◌, inl, inr, ◌⊎◌, ◌↔◌, append_assoc, cond, filter}
use Rattle.std.specs.Prelude.{Contains, flat_map}
use Rattle.std.proofs.lemmas.List.Concat.{flat_map-append}
use Rattle.std.proofs.lemmas.List.{map-append}
use Rattle.std.proofs.lemmas.List.Elements.{Contains-append_left, Contains-append_right, Contains-append_cases, filter-append}
use Rattle.lists.proofs.Flats.{flat_has, flat_of}
use Rattle.lists.proofs.Entries.{Contains-filter, Contains-map, Contains-head, Contains-later, Contains-cases, none_in_empty, Contains-splits, first_of, rest_of}
use Rattle.lists.specs.Distinct.{AreDistinct}
use Rattle.fee_rate.specs.declared.rates.Sum.{Sum}
use Rattle.fee_rate.specs.Rates.{AtMost}
use Rattle.graphs.specs.Rates.{Falls}
use Rattle.graphs.specs.Linearizations.{StandsBefore}
use Rattle.graphs.specs.Merges.{Precedes, IsMerge, IsSorted}

-- where an entry of joined lists stands
cut_cases : {A : Type 0} (xs ys front rest : List A) (b : A) → xs ++ ys ≡ front ++ b ∷ rest
    → ((m : List A) × (xs ≡ front ++ b ∷ m)) ⊎ ((m : List A) × (front ≡ xs ++ m) × (ys ≡ m ++ b ∷ rest))
cut_cases [] ys front rest b e = inr (front, refl, e)
cut_cases (x ∷ xs) ys [] rest b e = inl (xs, ap (λ z. z ∷ xs) (first_of e))
cut_cases (x ∷ xs) ys (f ∷ front) rest b e =
    let head : x ≡ f = first_of e in
    elim (cut_cases xs ys front rest b (rest_of e)) [
      | inl found ↦ inl (found.0, λ i. head i ∷ found.1 i)
      | inr found ↦ inr (found.0, (λ i. sym head i ∷ found.1 i), found.2)
    ]

-- ---- what stands before what
pub precedes_later : {A : Type 0} (z : A) (xs : List A) (x y : A) → Precedes xs x y → Precedes (z ∷ xs) x y
precedes_later z xs x y p = (z ∷ p.0, p.1, ap (λ zs. z ∷ zs) p.2, Contains-later z x p.0 p.3)

pub precedes_filter : {A : Type 0} (f : A → Bool) (xs : List A) (x y : A) → f x ≡ true → f y ≡ true → Precedes xs x y → Precedes (filter f xs) x y
precedes_filter f xs x y x_kept y_kept p = (
  filter f p.0,
  filter f p.1,
  ap (filter f) p.2 ∙ filter-append f p.0 (y ∷ p.1) ∙ ap (λ b. filter f p.0 ++ cond b (y ∷ filter f p.1) (filter f p.1)) y_kept,
  Contains-filter f p.0 x x_kept p.3,
)

pub precedes_map : {A B : Type 0} (f : A → B) (xs : List A) (x y : A) → Precedes xs x y → Precedes (map f xs) (f x) (f y)
precedes_map f xs x y p = (map f p.0, map f p.1, ap (map f) p.2 ∙ map-append f p.0 (y ∷ p.1), Contains-map f p.0 x p.3)

-- ---- lists of names that are made of entries
module _ {A : Type 0} (f : A → List ℕ) where
  -- a name before another: in one entry's list, or in an earlier one's
  pub flat_stands : (xs : List A) (a b : ℕ) → StandsBefore (flat_map f xs) a b
      → ((x : A) × Contains xs x × StandsBefore (f x) a b) ⊎ ((x : A) × (y : A) × Precedes xs x y × Contains (f x) a × Contains (f y) b)
  flat_stands [] a b stands =
      absurd (none_in_empty b (subst (λ zs. Contains zs b) (sym stands.2) (Contains-append_right stands.0 (b ∷ stands.1) b (Contains-head b stands.1))))
  flat_stands (x ∷ xs) a b stands = elim (cut_cases (f x) (flat_map f xs) stands.0 stands.1 b stands.2) [
    | inl here ↦ inl (x, Contains-head x xs, (stands.0, here.0, here.1, stands.3))
    | inr later ↦ elim (Contains-append_cases (f x) later.0 a (subst (λ zs. Contains zs a) later.1 stands.3)) [
      | inl first ↦
          let found = flat_of f xs b (subst (λ zs. Contains zs b) (sym later.2) (Contains-append_right later.0 (b ∷ stands.1) b (Contains-head b stands.1))) in
          let cut = Contains-splits xs found.0 found.1 in
          inr (x, found.0, (x ∷ cut.0, cut.1, ap (λ zs. x ∷ zs) cut.2, Contains-head x cut.0), first, found.2)
      | inr behind ↦ elim (flat_stands xs a b (later.0, stands.1, later.2, behind)) [
        | inl one ↦ inl (one.0, Contains-later x one.0 xs one.1, one.2)
        | inr two ↦ inr (two.0, two.1, precedes_later x xs two.0 two.1 two.2, two.3, two.4)
      ]
    ]
  ]

  place : (before after : List A) (x : A) (front rest : List ℕ) (b : ℕ) → f x ≡ front ++ b ∷ rest
      → flat_map f (before ++ x ∷ after) ≡ (flat_map f before ++ front) ++ b ∷ (rest ++ flat_map f after)
  place before after x front rest b e =
      flat_map-append f before (x ∷ after) ∙ ap (λ zs. flat_map f before ++ (zs ++ flat_map f after)) e
      ∙ ap (λ zs. flat_map f before ++ zs) (append_assoc front (b ∷ rest) (flat_map f after))
      ∙ sym (append_assoc (flat_map f before) front (b ∷ (rest ++ flat_map f after)))

  pub stands_within : (xs : List A) (x : A) (a b : ℕ) → Contains xs x → StandsBefore (f x) a b → StandsBefore (flat_map f xs) a b
  stands_within xs x a b h stands =
      let cut = Contains-splits xs x h in (
        flat_map f cut.0 ++ stands.0,
        stands.1 ++ flat_map f cut.1,
        ap (flat_map f) cut.2 ∙ place cut.0 cut.1 x stands.0 stands.1 b stands.2,
        Contains-append_right (flat_map f cut.0) stands.0 a stands.3,
      )

  pub stands_apart : (xs : List A) (x y : A) (a b : ℕ) → Precedes xs x y → Contains (f x) a → Contains (f y) b → StandsBefore (flat_map f xs) a b
  stands_apart xs x y a b p here there =
      let cut = Contains-splits (f y) b there in (
        flat_map f p.0 ++ cut.0,
        cut.1 ++ flat_map f p.1,
        ap (flat_map f) p.2 ∙ place p.0 p.1 y cut.0 cut.1 b cut.2,
        Contains-append_left (flat_map f p.0) cut.0 a (flat_has f p.0 x a p.3 here),
      )

-- ---- sorted lists
sorted_precedes : {A : Type 0} (before : A → A → Bool) (xs front rest : List A) (x y : A) → IsSorted before xs → xs ≡ front ++ y ∷ rest
    → Contains front x → before x y ≡ true
sorted_precedes before [] front rest x y sorted e h =
    absurd (none_in_empty y (subst (λ zs. Contains zs y) (sym e) (Contains-append_right front (y ∷ rest) y (Contains-head y rest))))
sorted_precedes before (z ∷ zs) [] rest x y sorted e h = absurd (none_in_empty x h)
sorted_precedes {A = A} before (z ∷ zs) (f ∷ front) rest x y sorted e h = elim (Contains-cases f x front h) [
  | inl same ↦ subst (λ (w : A). before w y ≡ true) (first_of e ∙ same)
      (sorted.0 y (subst (λ ws. Contains ws y) (sym (rest_of e)) (Contains-append_right front (y ∷ rest) y (Contains-head y rest))))
  | inr later ↦ sorted_precedes before zs front rest x y sorted.1 (rest_of e) later
]

sorted_once : {A : Type 0} (before : A → A → Bool) (xs : List A) → ((x y : A) → before x y ≡ true → before y x ≡ true → ⊥) → IsSorted before xs → AreDistinct xs
sorted_once before [] one_way sorted = tt
sorted_once before (x ∷ xs) one_way sorted = ((λ h. one_way x x (sorted.0 x h) (sorted.0 x h)), sorted_once before xs one_way sorted.1)

sorted_behind : {A : Type 0} (before : A → A → Bool) (front rest : List A) (y x : A) → IsSorted before (front ++ y ∷ rest) → Contains rest x → before y x ≡ true
sorted_behind before [] rest y x sorted h = sorted.0 x h
sorted_behind before (f ∷ front) rest y x sorted h = sorted_behind before front rest y x sorted.1 h

-- what is before an entry of a sorted list stands before it
sorted_place : {A : Type 0} (before : A → A → Bool) (xs : List A) (x y : A) → ((v w : A) → before v w ≡ true → before w v ≡ true → ⊥) → IsSorted before xs
    → Contains xs x → Contains xs y → before x y ≡ true → Precedes xs x y
sorted_place {A = A} before xs x y one_way sorted h k less =
    let cut = Contains-splits xs y k in
    elim (Contains-append_cases cut.0 (y ∷ cut.1) x (subst (λ zs. Contains zs x) cut.2 h)) [
      | inl early ↦ (cut.0, cut.1, cut.2, early)
      | inr late ↦ elim (Contains-cases y x cut.1 late) [
        | inl same ↦ let itself : before x x ≡ true = subst (λ (w : A). before x w ≡ true) same less in absurd (one_way x x itself itself)
        | inr behind ↦ absurd (one_way x y less (sorted_behind before cut.0 cut.1 y x (subst (IsSorted before) cut.2 sorted) behind))
      ]
    ]

pub sorted_merge : {A : Type 0} (before : A → A → Bool) (lists : List (List A)) (all : List A) → ((x y : A) → before x y ≡ true → before y x ≡ true → ⊥)
    → ((list : List A) → Contains lists list → IsSorted before list) → IsSorted before all
    → ((x : A) → Contains all x ↔ ((list : List A) × Contains lists list × Contains list x)) → IsMerge lists all
sorted_merge before lists all one_way each sorted exact = record {
  once = sorted_once before all one_way sorted;
  exact = exact;
  ordered = λ list x y h p.
      let here : Contains list x = subst (λ zs. Contains zs x) (sym p.2) (Contains-append_left p.0 (y ∷ p.1) x p.3) in
      let there : Contains list y = subst (λ zs. Contains zs y) (sym p.2) (Contains-append_right p.0 (y ∷ p.1) y (Contains-head y p.1)) in
      sorted_place before all x y one_way sorted ((exact x).1 (list, h, here))
      ((exact y).1 (list, h, there)) (sorted_precedes before list p.0 p.1 x y (each list h) p.2 p.3);
}

pub sorted_falls : {A : Type 0} (before : A → A → Bool) (rates : A → Sum) (all : List A)
    → ((x y : A) → before x y ≡ true → AtMost (rates y) (rates x)) → IsSorted before all → Falls (map rates all)
sorted_falls before rates [] low sorted = tt
sorted_falls before rates (x ∷ []) low sorted = tt
sorted_falls before rates (x ∷ y ∷ rest) low sorted = (low x y (sorted.0 y (Contains-head y rest)), sorted_falls before rates (y ∷ rest) low sorted.1)
