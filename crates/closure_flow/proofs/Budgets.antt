-- How many searches there can be: each augmentation uses something up, and what can be used up is counted.
use Rattle.std.proofs.Common.{◌≡◌, ℕ, suc, ◌+◌, ◌-◌, ◌*◌, ◌<◌, ◌≤◌, inl, inr, List, length, Bool, true, false, cond}
use Rattle.std.proofs.Common.{◌&&◌, ◌||◌, nat_lt, ℤ, pos, ◌<ℤ◌, refl, subst, arith}
use Rattle.std.proofs.Math.Nat.{mul-le-mul_right}
use Rattle.std.proofs.lemmas.Bool.{cases_eq}
use Rattle.std.proofs.lemmas.List.Sums.{count_by-le-length}
use Rattle.std.specs.List.{count_by}
use Rattle.std.specs.Ordering.{nat_cmp}
use Rattle.std.specs.FinSet as set
use Rattle.bitset.specs.Places.{places}
use Rattle.closure_flow.specs.declared.queue.Entry.{Entry}
use Rattle.closure_flow.specs.Labels.{Climbs, IsLabelling, IsShortest, Spends, is_some_left, is_uphill, unsettled, uphill}
use Rattle.closure_flow.specs.Queues.{place_at, IsSearch}
use Rattle.closure_flow.proofs.Counts.{sum_bound, sum_none}
use Rattle.closure_flow.proofs.Labellings.{climbs_too, not_lower, short_way}

-- ---- how much there is to be used up
most_unsettled : (rest : ℕ → ℤ) (ts : List ℕ) → unsettled rest ts ≤ length ts
unfolding unsettled
most_unsettled rest ts = count_by-le-length (λ t. is_some_left (rest t)) ts

most_uphill : (parents : List (set.FinSet nat_cmp)) (flow : ℕ → ℕ → ℕ) (label : ℕ → ℕ) (ts : List ℕ) → uphill parents flow label ts ≤ length ts * length ts
unfolding uphill
most_uphill parents flow label ts = sum_bound (λ u. count_by (is_uphill parents flow label u) ts) ts (length ts)
    (λ u. count_by-le-length (is_uphill parents flow label u) ts)

-- nothing rises where all labels are 0
none_uphill : (parents : List (set.FinSet nat_cmp)) (flow : ℕ → ℕ → ℕ) (ts : List ℕ) → uphill parents flow (λ t. 0) ts ≡ 0
unfolding uphill
none_uphill parents flow ts = sum_none (λ u. count_by (is_uphill parents flow (λ t. 0) u) ts) ts
    (λ u. sum_none _ ts (λ v. flat (set.contains _ v || nat_lt 0 (flow v u))))
  where
    flat : (b : Bool) → ◌≡◌ {A = ℕ} (cond (b && false) 1 0) 0
    flat true = refl
    flat false = refl

-- ---- what was used up, and the steps that it took
pub record Budget (parents : List (set.FinSet nat_cmp)) (within : set.FinSet nat_cmp) (ts : List ℕ) (flow : ℕ → ℕ → ℕ) (rest : ℕ → ℤ)
    (m before steps : ℕ) : Type 0 where
  pub label : ℕ → ℕ
  -- how far it is at least, how much farther it can get, and how many augmentations there were
  pub end : ℕ
  pub farther : ℕ
  pub done : ℕ
  pub valid : IsLabelling parents within flow rest label end
  pub far : end + farther ≡ m
  pub spent : unsettled rest ts + uphill parents flow label ts + farther * (m * m) + done ≤ m * (m * m) + m
  pub taken : steps ≤ before + done * m

pub budget_start : (parents : List (set.FinSet nat_cmp)) (within : set.FinSet nat_cmp) (ts : List ℕ) (flow : ℕ → ℕ → ℕ) (rest : ℕ → ℤ) (m before : ℕ)
    → length ts ≡ m → Budget parents within ts flow rest m before before
budget_start parents within ts flow rest m before e =
    record {
      label = λ t. 0;
      end = 0;
      farther = m;
      done = 0;
      valid = record { starts = λ t h o. refl; steps = λ u v h k l. omega arith; ends = λ t h l. omega arith };
      far = omega arith;
      spent = omega (arith, none_uphill parents flow ts, most_unsettled rest ts, e);
      taken = omega arith;
    }

-- one search and one augmentation more
pub budget_step : (n : ℕ) (parents : List (set.FinSet nat_cmp)) (within : set.FinSet nat_cmp) (F G : ℕ → ℕ → ℕ) (r s : ℕ → ℤ) (es : List Entry)
    (at m before steps more : ℕ)
    → IsSearch n parents within F r es → at < length es → length es ≤ m → length (places n within) ≡ m → r (place_at es at) <ℤ pos 0
    → IsShortest parents within F r es at
    → ((label : ℕ → ℕ) (end : ℕ) → IsLabelling parents within F r label end → Climbs es at label → Spends parents within (places n within) F r G s label end)
    → more ≤ steps + m
    → Budget parents within (places n within) F r m before steps → Budget parents within (places n within) G s m before more
budget_step n parents within F G r s es at m before steps more search inside few all low path spends counted b =
    elim (cases_eq b.end (path.label (place_at es at))) as (λ _. Budget parents within (places n within) G s m before more) [
      | inl same ↦
          let new = spends b.label b.end b.valid (climbs_too n parents within F r es at search inside path b.label b.end b.valid low same) in
          record {
            label = b.label;
            end = b.end;
            farther = b.farther;
            done = suc b.done;
            valid = new.valid;
            far = b.far;
            spent = omega (arith, b.spent, new.fewer);
            taken = omega (arith, counted, b.taken);
          }
      | inr other ↦
          let new = spends path.label (path.label (place_at es at)) path.valid path.climbs in
          let up_ : b.end < path.label (place_at es at) =
          omega (arith, other, not_lower n parents within F r es at search inside path b.label b.end b.valid low) in
          let short = short_way n parents within F r es at search inside path in
          let left : path.label (place_at es at) + (m - path.label (place_at es at)) ≡ m = omega (arith, short, inside, few) in
          let less : suc (m - path.label (place_at es at)) * (m * m) ≤ b.farther * (m * m) = mul-le-mul_right (m * m) (omega (arith, up_, left, b.far)) in
          let sides : uphill parents F path.label (places n within) ≤ m * m =
          subst (λ (k : ℕ). uphill parents F path.label (places n within) ≤ k * k) all (most_uphill parents F path.label (places n within)) in
          record {
            label = path.label;
            end = path.label (place_at es at);
            farther = m - path.label (place_at es at);
            done = suc b.done;
            valid = new.valid;
            far = left;
            spent = spent_less (unsettled r (places n within)) (unsettled s (places n within)) (uphill parents F b.label (places n within))
                (uphill parents F path.label (places n within)) (uphill parents G path.label (places n within)) b.farther
                (m - path.label (place_at es at)) (m * m) b.done (m * (m * m) + m) b.spent new.fewer sides less;
            taken = omega (arith, counted, b.taken);
          }
    ]
  where
    spent_less : (u u' h p p' f f' mm done most : ℕ) → u + h + f * mm + done ≤ most → u' + p' < u + p → p ≤ mm → suc f' * mm ≤ f * mm
        → u' + p' + f' * mm + suc done ≤ most
    spent_less u u' h p p' f f' mm done most a b c d = omega (arith, a, b, c, d)

-- the last search
pub budget_end : (parents : List (set.FinSet nat_cmp)) (within : set.FinSet nat_cmp) (ts : List ℕ) (flow : ℕ → ℕ → ℕ) (rest : ℕ → ℤ) (m before steps more : ℕ)
    → Budget parents within ts flow rest m before steps → more ≤ steps + m → more ≤ before + (m * (m * m) + m + 1) * m
budget_end parents within ts flow rest m before steps more b counted =
    let few : b.done ≤ m * (m * m) + m = omega (arith, b.spent) in
    let all : b.done * m ≤ (m * (m * m) + m) * m = mul-le-mul_right m few in
    sum before steps more (b.done * m) (m * (m * m) + m) m b.taken counted all
  where
    sum : (before steps more d most m : ℕ) → steps ≤ before + d → more ≤ steps + m → d ≤ most * m → more ≤ before + (most + 1) * m
    sum before steps more d most m a b c = omega (arith, a, b, c)
