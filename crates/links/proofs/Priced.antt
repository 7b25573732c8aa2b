-- Another fee of one name, told by closures.
use Rattle.std.proofs.Common.{◌≡◌, ◌≢◌, ℕ, ℤ, Bool, true, false, cond, nat_eq, eq-eqb, true≢false, List, [], ◌∷◌, map, inl, inr, refl, sym, ap, ◌∙◌, subst}
use Rattle.std.specs.Prelude.{Contains, if◌then◌else◌}
use Rattle.std.proofs.lemmas.Bool.{eqb-true, ne_eqb}
use Rattle.lists.proofs.Cases.{same_test}
use Rattle.lists.proofs.Entries.{Contains-cases, none_in_empty}
use Rattle.fee_rate.specs.declared.rates.FeeRate.{FeeRate}
use Rattle.graphs.specs.Certificates.{Txs}
use Rattle.graphs.specs.Closures.{is_member, is_ancestor}
use Rattle.links.specs.Kept.{names_of}
use Rattle.links.specs.Pricing.{priced}
use Rattle.links.specs.Closing.{closure}
use Rattle.links.specs.Laws.{PricedSetsFee}
use Rattle.links.proofs.Fees.{priced_names}
use Rattle.links.proofs.Changing.{names, rate_tx, rate_is, has_member, has_above, same_ancestors}

-- ---- another name

other_first : (b : Bool) (id : ℕ) (fee : ℤ) (tx : ℕ × ℤ × ℕ) (q : ℕ) (new old : FeeRate) → nat_eq q tx.0 ≡ b → q ≢ id → new ≡ old
    → cond b (record { fee = (priced id fee tx).1; size = tx.2 }) new ≡ cond b (record { fee = tx.1; size = tx.2 }) old
other_first true id fee tx q new old is other same =
    ap (λ (c : Bool). let rate : FeeRate = record { fee = (if c then fee else tx.1); size = tx.2 } in rate)
    (ne_eqb tx.0 id (λ it. other (eqb-true q tx.0 is ∙ it)))
other_first false id fee tx q new old is other same = same

other_rate : (id : ℕ) (fee : ℤ) (txs : Txs) (q : ℕ) → q ≢ id → rate_tx (map (priced id fee) txs) q ≡ rate_tx txs q
unfolding rate_tx
other_rate id fee [] q other = refl
other_rate id fee (tx ∷ txs) q other =
    other_first (nat_eq q tx.0) id fee tx q (rate_tx (map (priced id fee) txs) q) (rate_tx txs q) refl other (other_rate id fee txs q other)

-- ---- the name itself

abbrev repriced : ℤ → FeeRate → FeeRate
repriced fee rate = record { fee = fee; size = rate.size }

own_first : (b : Bool) (id : ℕ) (fee : ℤ) (tx : ℕ × ℤ × ℕ) (txs : Txs) (new old : FeeRate) → nat_eq id tx.0 ≡ b → Contains (names_of (tx ∷ txs)) id
    → (Contains (names_of txs) id → new ≡ repriced fee old)
    → cond b (record { fee = (priced id fee tx).1; size = tx.2 }) new ≡ repriced fee (cond b (record { fee = tx.1; size = tx.2 }) old)
own_first true id fee tx txs new old is here rest =
    ap (λ (c : Bool). let rate : FeeRate = record { fee = (if c then fee else tx.1); size = tx.2 } in rate) (eq-eqb tx.0 id (sym (eqb-true id tx.0 is)))
own_first false id fee tx txs new old is here rest = elim (Contains-cases tx.0 id (names_of txs) here) [
  | inl same ↦ absurd (true≢false (sym (eq-eqb id tx.0 (sym same)) ∙ is))
  | inr later ↦ rest later
]

own_rate : (id : ℕ) (fee : ℤ) (txs : Txs) → Contains (names_of txs) id → rate_tx (map (priced id fee) txs) id ≡ repriced fee (rate_tx txs id)
unfolding rate_tx
own_rate id fee [] here = absurd (none_in_empty id here)
own_rate id fee (tx ∷ txs) here =
    own_first (nat_eq id tx.0) id fee tx txs (rate_tx (map (priced id fee) txs) id) (rate_tx txs id) refl here (λ later. own_rate id fee txs later)

-- ---- the law

pub priced_sets : PricedSetsFee
priced_sets old new id fee are are' in' txs pairs =
    let same_names : names new ≡ names old = ap names_of txs ∙ priced_names id fee old.txs in
    let to : (q : ℕ) → Contains (names new) q → Contains (names old) q = λ q here. subst (λ (ns : List ℕ). Contains ns q) same_names here in
    let back : (q : ℕ) → Contains (names old) q → Contains (names new) q = λ q here. subst (λ (ns : List ℕ). Contains ns q) (sym same_names) here in
    record {
      members = λ p. same_test (is_member (closure new) p) (is_member (closure old) p)
          (λ h. (has_member old p).1 (to p ((has_member new p).0 h)))
          (λ h. (has_member new p).1 (back p ((has_member old p).0 h)));
      rate_is = rate_is new id ∙ ap (λ (ts : Txs). rate_tx ts id) txs ∙ own_rate id fee old.txs in' ∙ ap (repriced fee) (sym (rate_is old id));
      rates = λ p other. rate_is new p ∙ ap (λ (ts : Txs). rate_tx ts p) txs ∙ other_rate id fee old.txs p other ∙ sym (rate_is old p);
      ancestors = λ a d. same_test (is_ancestor (closure new) a d) (is_ancestor (closure old) a d)
          (λ h.
          let is = (has_above new a d).0 h in
          (has_above old a d).1 (to a is.0, to d is.1, (same_ancestors old.pairs new.pairs pairs a d).0 is.2))
          (λ h.
          let is = (has_above old a d).0 h in
          (has_above new a d).1 (back a is.0, back d is.1, (same_ancestors old.pairs new.pairs pairs a d).1 is.2));
    }
