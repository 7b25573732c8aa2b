-- The first of a list whose place is chosen.
use Rattle.std.proofs.Common.{◌≡◌, ◌≢◌, ℕ, ◌+◌, ◌<◌, Bool, true, false, cond, not, ◌&&◌, nat_eq, List, [], ◌∷◌, length, take, drop, slice_index, Contains, inl, inr, refl, sym, ap, ◌∙◌, subst, eq-eqb, ne_eqb, true≢false}
use Rattle.std.proofs.lemmas.Bool.{cases_eq, and_parts, false_from_ne_true}
use Rattle.std.proofs.lemmas.List.{drop_more, take-append-drop, get_or_default}
use Rattle.std.proofs.lemmas.List.Elements.{Contains-append_right}
use Rattle.std.specs.List.{filter}
use Rattle.std.specs.Ordering.{nat_cmp}
use Rattle.std.specs.FinSet as set
use Rattle.lists.proofs.Distinct.{one_place, distinct-append_right}
use Rattle.lists.proofs.Entries.{Contains-head, Contains-later, Contains-cases, Contains-filter, filter-Contains, none_in_empty}
use Rattle.lists.specs.Distinct.{AreDistinct}
use Rattle.bitset.specs.Sets.{contains-remove, contains-empty}
use Rattle.cluster.specs.Covers.{has_chosen, AreToCome, IsFirst}
use Rattle.cluster.proofs.Names.{Contains-stands}
use Rattle.cluster.proofs.Nearest.{chosen_at}

-- tests that agree on a list keep the same of it
filter_along : (f g : ℕ → Bool) (xs : List ℕ) → ((x : ℕ) → Contains xs x → f x ≡ g x) → filter f xs ≡ filter g xs
filter_along f g [] same = refl
filter_along f g (x ∷ xs) same =
    ap (λ b. cond b (x ∷ filter f xs) (filter f xs)) (same x (Contains-head x xs))
    ∙ ap (λ ys. cond (g x) (x ∷ ys) ys) (filter_along f g xs (λ y here. same y (Contains-later x y xs here)))

nothing_passes : (f : ℕ → Bool) (xs : List ℕ) → ((x : ℕ) → Contains xs x → f x ≡ false) → filter f xs ≡ []
nothing_passes f [] fails = refl
nothing_passes f (x ∷ xs) fails =
    ap (λ b. cond b (x ∷ filter f xs) (filter f xs)) (fails x (Contains-head x xs)) ∙ nothing_passes f xs (λ y here. fails y (Contains-later x y xs here))

-- of a list without repeats one entry passes, and no other
one_passes : (f : ℕ → Bool) (xs : List ℕ) (x : ℕ) → AreDistinct xs → Contains xs x → f x ≡ true
    → ((y : ℕ) → Contains xs y → f y ≡ true → y ≡ x) → filter f xs ≡ x ∷ []
one_passes f [] x once here passes only = absurd (none_in_empty x here)
one_passes f (y ∷ ys) x once here passes only = elim (Contains-cases y x ys here) [
  | inl same ↦
      let none : filter f ys ≡ [] = nothing_passes f ys (λ z there. false_from_ne_true (f z) (λ holds.
      once.0 (subst (Contains ys) (only z (Contains-later y z ys there) holds ∙ sym same) there))) in
      ap (λ b. cond b (y ∷ filter f ys) (filter f ys)) (ap f same ∙ passes) ∙ ap (λ zs. y ∷ zs) none ∙ ap (λ z. z ∷ []) same
  | inr later ↦
      let fails : f y ≡ false = false_from_ne_true (f y) (λ holds. once.0 (subst (Contains ys) (sym (only y (Contains-head y ys) holds)) later)) in
      ap (λ b. cond b (y ∷ filter f ys) (filter f ys)) fails
      ∙ one_passes f ys x once.1 later passes (λ z there holds. only z (Contains-later y z ys there) holds)
]

module _ (n : ℕ) (names ids : List ℕ) (chosen : set.FinSet nat_cmp) (come : AreToCome n names ids chosen) where
  abbrev passes : ℕ → Bool
  passes = has_chosen names chosen

  -- without a place, the others
  less : (place p : ℕ) → set.contains (set.remove chosen place) p ≡ true → (not (nat_eq p place) ≡ true) × (set.contains chosen p ≡ true)
  less place p here = and_parts (not (nat_eq p place)) (set.contains chosen p) (sym (contains-remove chosen place p) ∙ here)

  less_within : (place p : ℕ) → set.contains (set.remove chosen place) p ≡ true → p < length names
  less_within place p here = come.within p (less place p here).1

  -- where nothing is chosen, nothing is to come
  pub none_to_come : chosen ≡ set.empty → filter passes ids ≡ []
  none_to_come empty = nothing_passes passes ids (λ x here.
      let at = Contains-stands names x (come.there x here) in
      chosen_at names chosen come.once at.0 x at.1 at.2 ∙ ap (λ (s : set.FinSet nat_cmp). set.contains s at.0) empty ∙ contains-empty at.0)

  -- a name whose place isn't chosen is passed over
  pub is_passed : (i : ℕ) → i < length ids → ((p : ℕ) → set.contains chosen p ≡ true → slice_index names p ≢ slice_index ids i) → passes (slice_index ids i) ≡ false
  is_passed i low none =
      let at = Contains-stands names (slice_index ids i) (come.there (slice_index ids i) (i, low, get_or_default ids i (slice_index ids i) 0 low)) in
      chosen_at names chosen come.once at.0 (slice_index ids i) at.1 at.2 ∙ false_from_ne_true (set.contains chosen at.0) (λ here. none at.0 here at.2)

  module _ (place : ℕ) (is : set.contains chosen place ≡ true) where
    abbrev name : ℕ
    name = slice_index names place

    name_passes : passes name ≡ true
    name_passes = chosen_at names chosen come.once place name (come.within place is) refl ∙ is

    -- the one that is chosen alone
    pub is_alone : set.remove chosen place ≡ set.empty → IsFirst n names ids chosen place []
    is_alone empty = record {
      here = is;
      first = one_passes passes ids name come.apart (come.stand place is) name_passes (λ y here holds.
          let at = Contains-stands names y (come.there y here) in
          let there : set.contains chosen at.0 ≡ true = sym (chosen_at names chosen come.once at.0 y at.1 at.2) ∙ holds in
          elim (cases_eq at.0 place) [
            | inl same ↦ sym at.2 ∙ ap (slice_index names) same
            | inr other ↦ absurd (true≢false (sym (contains-remove chosen place at.0
                ∙ ap (λ b. not b && set.contains chosen at.0) (ne_eqb at.0 place other) ∙ there)
                ∙ ap (λ (s : set.FinSet nat_cmp). set.contains s at.0) empty ∙ contains-empty at.0))
          ]);
      others = record {
        few = come.few;
        once = come.once;
        apart = tt;
        there = λ id here. absurd (none_in_empty id here);
        within = less_within place;
        stand = λ p here. absurd (true≢false (sym here ∙ ap (λ (s : set.FinSet nat_cmp). set.contains s p) empty ∙ contains-empty p));
      };
    }

    -- other names pass as before
    others_pass : (x : ℕ) → Contains names x → x ≢ name → passes x ≡ has_chosen names (set.remove chosen place) x
    others_pass x here other =
        let at = Contains-stands names x here in
        chosen_at names chosen come.once at.0 x at.1 at.2
        ∙ sym (contains-remove chosen place at.0 ∙ ap (λ b. not b && set.contains chosen at.0)
        (ne_eqb at.0 place (λ same. other (sym at.2 ∙ ap (slice_index names) same))))
        ∙ sym (chosen_at names (set.remove chosen place) come.once at.0 x at.1 at.2)

    -- the first that is found
    module _ (i : ℕ) (low : i < length ids) (same : name ≡ slice_index ids i) (passed : filter passes (drop i ids) ≡ filter passes ids) where
      abbrev rest : List ℕ
      rest = drop (i + 1) ids

      cut : drop i ids ≡ name ∷ rest
      cut = drop_more ids i 0 low ∙ ap (λ x. x ∷ rest) (sym same)

      in_ids : (x : ℕ) → Contains (name ∷ rest) x → Contains ids x
      in_ids x here = subst (λ (xs : List ℕ). Contains xs x) (take-append-drop i ids)
          (Contains-append_right (take i ids) (drop i ids) x (subst (λ (xs : List ℕ). Contains xs x) (sym cut) here))

      apart : AreDistinct (name ∷ rest)
      apart = subst (λ (xs : List ℕ). AreDistinct xs) cut
          (distinct-append_right (take i ids) (drop i ids) (subst (λ (xs : List ℕ). AreDistinct xs) (sym (take-append-drop i ids)) come.apart))

      listed : filter passes ids ≡ name ∷ filter passes rest
      listed = sym passed ∙ ap (filter passes) cut ∙ ap (λ b. cond b (name ∷ filter passes rest) (filter passes rest)) name_passes

      stands : (p : ℕ) → set.contains (set.remove chosen place) p ≡ true → Contains rest (slice_index names p)
      stands p here =
          let other = less place p here in
          let low : p < length names = come.within p other.1 in
          let holds : passes (slice_index names p) ≡ true = chosen_at names chosen come.once p (slice_index names p) low refl ∙ other.1 in
          let there : Contains (name ∷ filter passes rest) (slice_index names p) =
          subst (λ (xs : List ℕ). Contains xs (slice_index names p)) listed (Contains-filter passes ids (slice_index names p) holds (come.stand p other.1)) in
          elim (Contains-cases name (slice_index names p) (filter passes rest) there) [
            | inl it ↦
                let equal : p ≡ place = one_place names p place 0 come.once low (come.within place is) (sym it) in
                absurd (true≢false (sym other.0 ∙ ap not (eq-eqb p place equal)))
            | inr later ↦ (filter-Contains passes rest (slice_index names p) later).1
          ]

      pub is_found : IsFirst n names ids chosen place rest
      is_found = record {
        here = is;
        first = listed ∙ ap (λ xs. name ∷ xs) (filter_along passes (has_chosen names (set.remove chosen place)) rest (λ x here.
            others_pass x (come.there x (in_ids x (Contains-later name x rest here))) (λ it. apart.0 (subst (Contains rest) it here))));
        others = record {
          few = come.few;
          once = come.once;
          apart = apart.1;
          there = λ id here. come.there id (in_ids id (Contains-later name id rest here));
          within = less_within place;
          stand = stands;
        };
      }
