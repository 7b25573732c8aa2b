-- All that the steps from one place lead to.
use Rattle.std.proofs.Common.{◌≡◌, ℕ, ◌-◌, ◌<◌, ◌≤◌, List, [], ◌++◌, length, append_assoc, append-nil, sym, ap, ◌∙◌, subst, inl, inr, arith}
use Rattle.std.specs.Prelude.{Contains}
use Rattle.std.proofs.lemmas.Bool.{cases_eq, cases_lt}
use Rattle.std.proofs.lemmas.List.{get_or_default}
use Rattle.std.proofs.lemmas.List.Elements.{Contains-append_cases, Contains-get_or}
use Rattle.places.specs.Chains.{pair_at, IsLast}
use Rattle.links.specs.Walkers.{Finds}
use Rattle.links.proofs.Marks.{found_stays}

-- The steps before `left` are still to be looked at, the last of them is from the place, and what was looked at was found.
pub record IsAround (steps : List (ℕ × ℕ)) (from left : ℕ) (old new : List ℕ) : Type 0 where
  pub finds : Finds (λ to. Contains {X = ℕ × ℕ} steps (to, from)) old new
  pub below : left ≤ length steps
  pub into : 0 < left → (pair_at steps (left - 1)).1 ≡ from
  pub looked : (k : ℕ) → left ≤ k → k < length steps → (pair_at steps k).1 ≡ from → Contains new (pair_at steps k).0

pub around_first : (steps : List (ℕ × ℕ)) (from left : ℕ) (found : List ℕ) → IsLast steps from (length steps) left → IsAround steps from left found found
around_first steps from left found last = record {
  finds = record { more = []; is = sym (append-nil found); each = λ p here. absurd (omega (arith, here.1)) };
  below = last.below;
  into = last.into;
  looked = λ k low high is. absurd (last.later k low high is);
}

-- the step that is looked at
pub step_in : (steps : List (ℕ × ℕ)) (from left : ℕ) (old new : List ℕ) → IsAround steps from left old new → 0 < left
    → (left - 1 < length steps) × Contains {X = ℕ × ℕ} steps ((pair_at steps (left - 1)).0, from)
step_in steps from left old new a some =
    let low : left - 1 < length steps = let b = a.below in omega arith in (
      low,
      subst (λ (x : ℕ). Contains {X = ℕ × ℕ} steps ((pair_at steps (left - 1)).0, x)) (a.into some) (Contains-get_or steps (left - 1) (0, 0) low),
    )

finds_further : (P : ℕ → Type 0) (place : ℕ) (old mid new : List ℕ) → P place → Finds P old mid → Finds (λ p. p ≡ place) mid new → Finds P old new
finds_further P place old mid new holds first second = record {
  more = first.more ++ second.more;
  is = second.is ∙ ap (λ (xs : List ℕ). xs ++ second.more) first.is ∙ append_assoc old first.more second.more;
  each = λ p here. elim (Contains-append_cases first.more second.more p here) [
    | inl early ↦ first.each p early
    | inr late ↦ subst P (sym (second.each p late)) holds
  ];
}

pub around_next : (steps : List (ℕ × ℕ)) (from left next : ℕ) (old mid new : List ℕ) → IsAround steps from left old mid → 0 < left
    → IsLast steps (pair_at steps (left - 1)).1 (left - 1) next → Finds (λ p. p ≡ (pair_at steps (left - 1)).0) mid new
    → Contains new (pair_at steps (left - 1)).0 → IsAround steps from next old new
around_next steps from left next old mid new a some chain finds here =
    let P : ℕ → Type 0 = λ to. Contains {X = ℕ × ℕ} steps (to, from) in
    let this = step_in steps from left old mid a some in
    let own : IsLast steps from (left - 1) next = subst (λ (x : ℕ). IsLast steps x (left - 1) next) (a.into some) chain in
    let low = this.0 in
    let short = own.below in
    record {
      finds = finds_further P (pair_at steps (left - 1)).0 old mid new this.1 a.finds finds;
      below = omega arith;
      into = own.into;
      looked = λ k from' high is. elim (cases_lt k left) [
        | inl less ↦ elim (cases_eq k (left - 1)) [
          | inl same ↦ subst (λ (j : ℕ). Contains new (pair_at steps j).0) (sym same) here
          | inr other ↦ absurd (own.later k from' (omega arith) is)
        ]
        | inr more ↦ found_stays (λ p. p ≡ (pair_at steps (left - 1)).0) mid new (pair_at steps k).0 finds (a.looked k more high is)
      ];
    }

pub around_all : (steps : List (ℕ × ℕ)) (from left : ℕ) (old new : List ℕ) → IsAround steps from left old new → left ≤ 0
    → (to : ℕ) → Contains {X = ℕ × ℕ} steps (to, from) → Contains new to
around_all steps from left old new a none to (k, low, at) =
    let is : ◌≡◌ {A = ℕ × ℕ} (pair_at steps k) (to, from) = get_or_default steps k (0, 0) (to, from) low ∙ at in
    subst (λ (x : ℕ). Contains new x) (ap (λ (s : ℕ × ℕ). s.0) is) (a.looked k (omega arith) low (ap (λ (s : ℕ × ℕ). s.1) is))
