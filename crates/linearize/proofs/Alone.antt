-- A set of one place as one part, along which nothing flows.
use Rattle.std.proofs.Common.{◌≡◌, ℕ, inl, inr, true, List, [], ◌∷◌, ◌++◌, pos, sym, ap, ◌∙◌, subst, arith}
use Rattle.std.proofs.lemmas.Bool.{cases_Bool, cases_eq}
use Rattle.std.proofs.lemmas.Int.{ints}
use Rattle.std.specs.Prelude.{Contains}
use Rattle.std.specs.Ordering.{nat_cmp}
use Rattle.std.specs.FinSet as fin
use Rattle.bitset.specs.Members.{empty_has_none, same_by_members, to_remove}
use Rattle.bitset.specs.Places.{places, IsWithin}
use Rattle.bitset.specs.Sets.{contains-empty}
use Rattle.lists.proofs.Cases.{clash}
use Rattle.lists.proofs.Entries.{Contains-cases, Contains-head, none_in_empty}
use Rattle.lists.proofs.Keys.{set_drop}
use Rattle.graphs.specs.Closures.{Closure, IsClosed, HoldsMembers}
use Rattle.fee_rate.specs.declared.rates.Sum.{Sum}
use Rattle.graphs.specs.declared.names.Flow.{Flow}
use Rattle.graphs.specs.Rates.{sums}
use Rattle.graphs.specs.Certificates.{weight_in}
use Rattle.linearize.specs.Drafts.{Written}
use Rattle.linearize.specs.Graphs.{sum_at}
use Rattle.linearize.specs.Orders.{AreCovers, Balances, IsOrderOf, flows_from, flows_of, sums_in}
use Rattle.linearize.specs.Splits.{Adds, IsUncut}
use Rattle.linearize.proofs.FlowLists.{from_append, from_none, from_nil, of_append, of_nil, of_one}
use Rattle.linearize.proofs.Parts.{one_added, sums_of_order}

-- a set of one place has no other
pub no_other : (n : ℕ) (s : fin.FinSet nat_cmp) (p : ℕ) → IsWithin n s → fin.contains s p ≡ true → fin.len s ≡ 1 → (q : ℕ) → fin.contains s q ≡ true → q ≡ p
no_other n s p within here one q m = elim (cases_eq q p) as (λ _. q ≡ p) [
  | inl same ↦ same
  | inr other ↦
      let none : fin.len (fin.remove s p) ≡ 0 = omega (arith, set_drop s p here, one) in
      absurd (empty_has_none (fin.remove s p) q (to_remove s p q other m) (fin.empty_of_len (fin.remove s p) none))
]

-- where nothing flows, the list of flows is empty
nothing : ℕ → ℕ → ℕ
nothing c p = 0

none_from : (c : ℕ) (ps : List ℕ) → flows_from nothing c ps ≡ []
unfolding nothing
none_from c [] = from_nil nothing c
none_from c (p ∷ ps) = from_append nothing c (p ∷ []) ps ∙ ap (λ fs. fs ++ flows_from nothing c ps) (from_none nothing c p (omega arith)) ∙ none_from c ps

none_of : (n : ℕ) (parents : List (fin.FinSet nat_cmp)) (s : fin.FinSet nat_cmp) (cs : List ℕ) → flows_of n parents s nothing cs ≡ []
none_of n parents s [] = of_nil n parents s nothing
none_of n parents s (c ∷ cs) =
    of_append n parents s nothing (c ∷ []) cs ∙ ap (λ fs. fs ++ flows_of n parents s nothing cs) (of_one n parents s nothing c ∙ none_from c _)
    ∙ none_of n parents s cs

module _ (n : ℕ) (dep : Closure) (s : fin.FinSet nat_cmp) (p : ℕ) (closed : IsClosed n dep) (members : HoldsMembers dep s)
    (here : fin.contains s p ≡ true) (one : fin.len s ≡ 1) where
  within : IsWithin n s
  within k m = closed.within k (members k m)

  order : IsOrderOf dep s (p ∷ [])
  order = record {
    once = (none_in_empty p, tt);
    exact = λ q. (
      λ h. elim (Contains-cases p q [] h) as (λ _. fin.contains s q ≡ true) [
        | inl same ↦ subst (λ (x : ℕ). fin.contains s x ≡ true) same here
        | inr none ↦ absurd (none_in_empty q none)
      ],
      λ m. subst (λ (x : ℕ). Contains (p ∷ []) x) (sym (no_other n s p within here one q m)) (Contains-head p []),
    );
    parents_first = λ a c cover a_in c_in. absurd (cover.other (no_other n s p within here one a a_in ∙ sym (no_other n s p within here one c c_in)));
  }

  sums_one : sums (sum_at dep) (p ∷ []) ≡ sum_at dep p
  sums_one =
      let fee : (sums (sum_at dep) (p ∷ [])).fee ≡ (sum_at dep p).fee = omega (arith, ints) in
      let size : (sums (sum_at dep) (p ∷ [])).size ≡ (sum_at dep p).size = omega arith in
      λ i. record { fee = fee i; size = size i }

  whole : sum_at dep p ≡ sums_in n dep s
  whole = sym sums_one ∙ sums_of_order n dep s (p ∷ []) within order

  even : (w : Sum) → weight_in w w ≡ pos 0
  even w = omega (arith, ints)

  balanced : (parents : List (fin.FinSet nat_cmp)) → Balances n dep parents s nothing
  unfolding nothing
  balanced parents = record {
    even = λ t m.
        let is : weight_in (sums_in n dep s) (sum_at dep t) ≡ pos 0 =
        ap (λ (x : ℕ). weight_in (sums_in n dep s) (sum_at dep x)) (no_other n s p within here one t m)
        ∙ ap (λ (w : Sum). weight_in w (sum_at dep p)) (sym whole) ∙ even (sum_at dep p) in
        omega (arith, ints, is);
    pair = λ c q f. absurd (omega (arith, f));
  }

  uncut : IsUncut n dep s
  uncut x upper some same q m =
      elim (cases_Bool (fin.contains x q)) as (λ _. fin.contains x q ≡ true) [
        | inl there ↦ there
        | inr out ↦
            let none : x ≡ fin.empty = same_by_members x fin.empty
            (λ k h. clash _ h
            (ap (λ (i : ℕ). fin.contains x i) (no_other n s p within here one k (upper.inside k h) ∙ sym (no_other n s p within here one q m)) ∙ out))
            (λ k h. clash _ h (contains-empty k)) in
            absurd (omega (arith, some, ap (λ (y : fin.FinSet nat_cmp). fin.len y) none, fin.len-empty nat_cmp))
      ]

  pub alone_added : (parents : List (fin.FinSet nat_cmp)) → AreCovers dep s parents → (old new : Written)
      → new ≡ record { parts = old.parts ++ record { rate = sum_at dep p; ids = p ∷ []; flows = [] } ∷ []; ids = []; flows = [] }
      → Adds n dep s old new
  alone_added parents covers old new made =
      one_added n dep parents s nothing closed members covers (p ∷ []) (balanced parents) order old new (sum_at dep p)
      (omega (arith, one)) (sym one) uncut whole
      (made ∙ ap (λ (fs : List Flow). record {
        parts = old.parts ++ record { rate = sum_at dep p; ids = p ∷ []; flows = fs } ∷ [];
        ids = [];
        flows = [];
      }) (sym (none_of n parents s (places n s))))
