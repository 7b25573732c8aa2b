-- The kin of several names, by their places.
use Rattle.std.proofs.Common.{◌≡◌, ℕ, ◌+◌, ◌<◌, true, List, [], ◌∷◌, ◌++◌, ◌⊎◌, ◌↔◌, inl, inr, take, length, slice_index, Contains, sym, ap, ◌∙◌, subst}
use Rattle.std.proofs.lemmas.List.{take_more}
use Rattle.std.proofs.lemmas.List.Elements.{Contains-append_left, Contains-push, Contains-push_cases}
use Rattle.std.specs.Ordering.{nat_cmp}
use Rattle.std.specs.FinSet as set
use Rattle.lists.proofs.Entries.{none_in_empty}
use Rattle.bitset.specs.Places.{IsWithin}
use Rattle.bitset.specs.Members.{empty_has_none, from_union, to_union_left, to_union_right}
use Rattle.graphs.specs.Closures.{Closure}
use Rattle.graphs.specs.Unions.{is_kin, IsKinOfSome, PutsBehind}
use Rattle.graphs.specs.declared.names.Kin.{Kin}
use Rattle.graphs.specs.declared.names.Kin.TheVariants.{Ancestors, Descendants}
use Rattle.cluster.specs.Changes.{IsChosen}
use Rattle.cluster.specs.Kins.{kin_of}
use Rattle.cluster.specs.Named.{named, IsNamed}
use Rattle.cluster.proofs.At.{IsAt}
use Rattle.cluster.proofs.Listings.{above_within, below_within, chosen_above, chosen_below}

-- the names of the chosen places are the kin of some names
pub record AreKin (kin : Kin) (names : List ℕ) (g : Closure) (ids : List ℕ) (chosen : set.FinSet nat_cmp) : Type 0 where
  pub within : IsWithin (length names) chosen
  pub exact : (a : ℕ) → IsChosen names chosen a ↔ IsKinOfSome kin (named names g) ids a

pub kin_of_none : (kin : Kin) (names : List ℕ) (g : Closure) (ids : List ℕ) (chosen : set.FinSet nat_cmp) → chosen ≡ set.empty → AreKin kin names g (take 0 ids) chosen
kin_of_none kin names g ids chosen is = record {
  within = λ p here. absurd (empty_has_none chosen p here is);
  exact = λ a. (λ at. absurd (empty_has_none chosen at.0 at.2 is), λ some. absurd (none_in_empty some.0 some.1));
}

module _ (n : ℕ) (names : List ℕ) (g : Closure) (kept : IsNamed n names g) where
  kin_within : (kin : Kin) (p : ℕ) (chosen : set.FinSet nat_cmp) → chosen ≡ kin_of kin g p → IsWithin (length names) chosen
  kin_within Ancestors p chosen is = above_within n names g kept p chosen is
  kin_within Descendants p chosen is = below_within n names g kept p chosen is

  chosen_kin : (kin : Kin) (p : ℕ) (chosen : set.FinSet nat_cmp) → p < length names → chosen ≡ kin_of kin g p → (a : ℕ)
      → IsChosen names chosen a ↔ (is_kin kin (named names g) a (slice_index names p) ≡ true)
  chosen_kin Ancestors p chosen low is a = chosen_above n names g kept p chosen low is a
  chosen_kin Descendants p chosen low is a = chosen_below n names g kept p chosen low is a

  module _ (kin : Kin) (ids : List ℕ) (at place : ℕ) (old own new : set.FinSet nat_cmp) (low : at < length ids) (stands : IsAt names place (slice_index ids at))
      (is : own ≡ kin_of kin g place) (both : new ≡ set.union old own) (so : AreKin kin names g (take at ids) old) where
    more : take (at + 1) ids ≡ take at ids ++ slice_index ids at ∷ []
    more = take_more ids at 0 low

    from_both : (p : ℕ) → set.contains new p ≡ true → (set.contains old p ≡ true) ⊎ (set.contains own p ≡ true)
    from_both p here = from_union old own p (sym (ap (λ s. set.contains s p) both) ∙ here)

    some_more : (a : ℕ) → IsChosen names new a → IsKinOfSome kin (named names g) (take (at + 1) ids) a
    some_more a chosen = elim (from_both chosen.0 chosen.2) [
      | inl earlier ↦
          let some = (so.exact a).0 (chosen.0, chosen.1, earlier, chosen.3) in
          (some.0, subst (λ xs. Contains xs some.0) (sym more) (Contains-append_left (take at ids) (slice_index ids at ∷ []) some.0 some.1), some.2)
      | inr now ↦ (
        slice_index ids at,
        subst (λ xs. Contains xs (slice_index ids at)) (sym more) (Contains-push (take at ids) (slice_index ids at)),
        subst (λ x. is_kin kin (named names g) a x ≡ true) stands.here ((chosen_kin kin place own stands.low is a).0 (chosen.0, chosen.1, now, chosen.3)),
      )
    ]

    chosen_more : (a : ℕ) → IsKinOfSome kin (named names g) (take (at + 1) ids) a → IsChosen names new a
    chosen_more a some = elim (Contains-push_cases (take at ids) (slice_index ids at) some.0 (subst (λ xs. Contains xs some.0) more some.1)) [
      | inl earlier ↦
          let chosen = (so.exact a).1 (some.0, earlier, some.2) in
          (chosen.0, chosen.1, ap (λ s. set.contains s chosen.0) both ∙ to_union_left old own chosen.0 chosen.2, chosen.3)
      | inr now ↦
          let chosen = (chosen_kin kin place own stands.low is a).1 (subst (λ x. is_kin kin (named names g) a x ≡ true) (sym now ∙ sym stands.here) some.2) in
          (chosen.0, chosen.1, ap (λ s. set.contains s chosen.0) both ∙ to_union_right old own chosen.0 chosen.2, chosen.3)
    ]

    pub kin_of_more : AreKin kin names g (take (at + 1) ids) new
    kin_of_more = record {
      within = λ p here. elim (from_both p here) [ inl earlier ↦ so.within p earlier | inr now ↦ kin_within kin place own is p now ];
      exact = λ a. (some_more a, chosen_more a);
    }

-- what is put behind a list, by another property that says the same
pub puts_for : (P Q : ℕ → Type 0) (old new : List ℕ) → ((a : ℕ) → P a ↔ Q a) → PutsBehind P old new → PutsBehind Q old new
puts_for P Q old new same puts = record {
  more = puts.more;
  behind = puts.behind;
  once = puts.once;
  exact = λ a. (λ here. (same a).0 ((puts.exact a).0 here), λ holds. (puts.exact a).1 ((same a).1 holds));
}
