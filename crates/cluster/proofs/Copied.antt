-- The part of a graph that has all its members is the same graph.
use Rattle.std.proofs.Common.{◌≡◌, ℕ, ◌<◌, true, false, nat_lt, List, length, slice_index, inl, inr, sym, ap, ap₂, ◌∙◌, subst, subst₂, zero-add, le-ltb}
use Rattle.std.proofs.lemmas.Bool.{cases_lt}
use Rattle.fee_rate.specs.declared.rates.FeeRate.{FeeRate}
use Rattle.fee_rate.specs.Limits.{IsRate}
use Rattle.graphs.specs.Closures.{Closure, is_member, is_ancestor, rate_of, members_of, IsClosed, IsPart, IsRelated}
use Rattle.lists.proofs.Cases.{same_test}
use Rattle.lists.proofs.Walks.{Walk-map}
use Rattle.bitset.specs.Places.{places}
use Rattle.cluster.specs.Changes.{IsSame}
use Rattle.cluster.specs.Named.{IsNamed}
use Rattle.cluster.proofs.Joined.{dense_long, dense_at}
use Rattle.cluster.proofs.Kept.{rate-none, member_place}

module _ (n : ℕ) (names : List ℕ) (g h : Closure) (kept : IsNamed n names g) (part : IsPart g (places n (members_of g)) h) (closed : IsClosed n h) where
  long : length (places n (members_of g)) ≡ length names
  long = dense_long n names g kept

  members : (p : ℕ) → is_member h p ≡ is_member g p
  members p = part.members p ∙ ap (nat_lt p) long ∙ sym (kept.members p)

  at : (p : ℕ) → p < length names → slice_index (places n (members_of g)) p ≡ p
  at p low = dense_at n names g kept p low

  rate_at : (p : ℕ) → p < length names → rate_of h p ≡ rate_of g p
  rate_at p low =
      subst (λ (q : ℕ). rate_of h q ≡ rate_of g (slice_index (places n (members_of g)) p)) (zero-add p) (part.copy.rates p (subst (λ m. p < m) (sym long) low))
      ∙ ap (rate_of g) (at p low)

  rates : (p : ℕ) → rate_of h p ≡ rate_of g p
  rates p = elim (cases_lt p (length names)) [
    | inl low ↦ rate_at p low
    | inr high ↦ let none : is_member g p ≡ false = kept.members p ∙ le-ltb p (length names) high in rate-none h p (members p ∙ none) ∙ sym (rate-none g p none)
  ]

  above_at : (a d : ℕ) → a < length names → d < length names → is_ancestor h a d ≡ is_ancestor g a d
  above_at a d low below =
      subst₂ (λ (x y : ℕ). is_ancestor h x y ≡ is_ancestor g (slice_index (places n (members_of g)) a) (slice_index (places n (members_of g)) d))
      (zero-add a) (zero-add d)
      (part.copy.ancestors a d (subst (λ m. a < m) (sym long) low) (subst (λ m. d < m) (sym long) below))
      ∙ ap₂ (is_ancestor g) (at a low) (at d below)

  low_of : (p : ℕ) → is_member g p ≡ true → p < length names
  low_of p member = member_place n names g kept p member

  above : (a d : ℕ) → is_ancestor h a d ≡ is_ancestor g a d
  above a d = same_test (is_ancestor h a d) (is_ancestor g a d)
      (λ up. let both = closed.order.among a d up in sym (above_at a d (low_of a (sym (members a) ∙ both.0)) (low_of d (sym (members d) ∙ both.1))) ∙ up)
      (λ up. let both = kept.order.among a d up in above_at a d (low_of a both.0) (low_of d both.1) ∙ up)

  pub is_same : IsSame g h
  is_same = record { members = members; rates = rates; ancestors = above }

  related : (p q : ℕ) → IsRelated g p q → IsRelated h p q
  related p q step = elim step [ inl up ↦ inl (above p q ∙ up) | inr down ↦ inr (above q p ∙ down) ]

  pub is_named : IsNamed n names h
  is_named = record {
    some = kept.some;
    few = kept.few;
    once = kept.once;
    members = λ p. members p ∙ kept.members p;
    order = closed.order;
    whole = λ p q low below. Walk-map (λ k. k) (IsRelated g) (IsRelated h) related p q (kept.whole p q low below);
    rates = λ p low. subst (λ (r : FeeRate). IsRate r) (sym (rates p)) (kept.rates p low);
  }
