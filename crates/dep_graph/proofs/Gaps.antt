-- Places that go down by the powers of two in their gaps: they stay apart, and end at their numbers.
use Rattle.std.proofs.Common.{◌≡◌, ℕ, suc, ◌+◌, ◌-◌, ◌*◌, ◌/◌, ◌%◌, ◌^◌, ◌<◌, ◌≤◌, Bool, true, false, not, ◌&&◌, ◌||◌, nat_lt, List, length, slice_index}
use Rattle.std.proofs.Common.{Contains, inl, inr, refl, sym, ap, ap₂, ◌∙◌, arith, pow-suc, eqb-true, eq-eqb, lt-ltb, le-ltb, true≢false}
use Rattle.std.proofs.Math.Nat.{div-mul-le_self, mul-le-mul_right, div-one, div-eq_of_lt}
use Rattle.std.proofs.Math.Bool.{and-true, or-false}
use Rattle.std.proofs.Math.Pow.{pow_mono, shr_mono}
use Rattle.std.proofs.lemmas.Nat.{shr-shr}
use Rattle.std.proofs.lemmas.Grind.{get_or_default_zero}
use Rattle.std.proofs.lemmas.Bool.{cases_lt, cases_order, and_parts, or_cases, false_from_ne_true}
use Rattle.std.specs.Ordering.{nat_cmp}
use Rattle.std.specs.FinSet as fin
use Rattle.lists.proofs.Rising.{rising_at_least, rising_apart}
use Rattle.lists.specs.Rising.{IsRising}
use Rattle.dep_graph.specs.Changes.{IsRenumbered}
use Rattle.dep_graph.specs.Moves.{gap, standing, has_power, AreMoving, IsMovedDown, IsMovedUp}

-- members of s stand in t as far as they went down
pub record IsStanding (ps : List ℕ) (power : ℕ) (s t : fin.FinSet nat_cmp) : Type 0 where
  pub here : (i : ℕ) → i < length ps → fin.contains t (standing ps power i) ≡ fin.contains s (slice_index ps i)
  pub only : (k : ℕ) → fin.contains t k ≡ true → (i : ℕ) × (i < length ps) × (k ≡ standing ps power i)

-- half of a number, and the rest
halves : (q : ℕ) → (q % 2 ≡ 1 → q ≡ q / 2 * 2 + 1) × ((q % 2 ≡ 1 → ⊥) → q ≡ q / 2 * 2)
halves q = (λ e. omega arith, λ e. omega arith)

module _ (ps : List ℕ) (rise : IsRising ps) where
  -- gaps rise
  pub gap_rises : (i j : ℕ) → i ≤ j → j < length ps → gap ps i ≤ gap ps j
  gap_rises i j before low =
      let same : i + (j - i) ≡ j = omega arith in
      let apart : slice_index ps i + (j - i) ≤ slice_index ps (i + (j - i)) = rising_apart ps rise i (j - i) (omega arith) in
      omega (arith, ap (slice_index ps) same)

  standing_rises : (power i j : ℕ) → i < j → j < length ps → standing ps power i < standing ps power j
  standing_rises power i j before low =
      let more : gap ps i / 2 ^ power * 2 ^ power ≤ gap ps j / 2 ^ power * 2 ^ power =
      mul-le-mul_right (2 ^ power) (shr_mono power (gap_rises i j (omega arith) low)) in
      omega arith

  -- no two stand at one place
  pub standing_once : (power i j : ℕ) → i < length ps → j < length ps → standing ps power i ≡ standing ps power j → i ≡ j
  standing_once power i j low high same = elim (cases_order i j) as (λ _. i ≡ j) [
    | inl is ↦ is
    | inr (inl before) ↦ absurd (let less : standing ps power i < standing ps power j = standing_rises power i j before high in omega arith)
    | inr (inr after) ↦ absurd (let less : standing ps power j < standing ps power i = standing_rises power j i after low in omega arith)
  ]

  -- none stands above where it began
  pub standing_below : (power i : ℕ) → i < length ps → standing ps power i ≤ slice_index ps i
  standing_below power i low =
      let part : gap ps i / 2 ^ power * 2 ^ power ≤ gap ps i = div-mul-le_self (gap ps i) (2 ^ power) in
      let up : i ≤ slice_index ps i = rising_at_least ps rise i low in omega arith

  pub standing_first : (i : ℕ) → i < length ps → standing ps 0 i ≡ slice_index ps i
  standing_first i low =
      let up : i ≤ slice_index ps i = rising_at_least ps rise i low in
      omega (arith, div-one (gap ps i))

  pub standing_last : (power most i : ℕ) → most / 2 ^ power ≡ 0 → gap ps i ≤ most → standing ps power i ≡ i
  standing_last power most i none within =
      let less : gap ps i / 2 ^ power ≤ most / 2 ^ power = shr_mono power within in
      let zero_left : gap ps i / 2 ^ power ≡ 0 = omega arith in
      omega (arith, ap (λ q. q * 2 ^ power) zero_left)

  half : (power i : ℕ) → gap ps i / 2 ^ (power + 1) * 2 ^ (power + 1) ≡ gap ps i / 2 ^ power / 2 * 2 * 2 ^ power
  half power i =
      let next : power + 1 ≡ suc power = omega arith in
      let two : 2 ^ suc power ≡ 2 ^ power * 2 = pow-suc 2 power in
      ap₂ (λ a b. a * b) (sym (shr-shr (gap ps i) power 1)) (ap (λ n. 2 ^ n) next ∙ two)
      ∙ omega arith

  -- a place that has the power in its gap goes down by it, and the others stay
  pub goes_down : (power i : ℕ) → has_power ps power i ≡ true → standing ps power i ≡ standing ps (power + 1) i + 2 ^ power
  goes_down power i odd =
      let whole : gap ps i / 2 ^ power ≡ gap ps i / 2 ^ power / 2 * 2 + 1 = (halves (gap ps i / 2 ^ power)).0 (eqb-true _ 1 odd) in
      omega (arith, ap (λ q. q * 2 ^ power) whole, half power i)

  pub stays : (power i : ℕ) → has_power ps power i ≡ false → standing ps power i ≡ standing ps (power + 1) i
  stays power i even =
      let whole : gap ps i / 2 ^ power ≡ gap ps i / 2 ^ power / 2 * 2 = (halves (gap ps i / 2 ^ power)).1 (λ e. true≢false (sym (eq-eqb _ 1 e) ∙ even)) in
      omega (arith, ap (λ q. q * 2 ^ power) whole, half power i)

  -- ---- one step

  module _ (power : ℕ) (moving s t t' : fin.FinSet nat_cmp) (move : AreMoving ps power moving)
      (so_far : IsStanding ps power s t) (down : IsMovedDown moving (2 ^ power) t t') where
    same_odd : (i j : ℕ) → i < length ps → j < length ps → standing ps (power + 1) i ≡ standing ps (power + 1) j → has_power ps power i ≡ has_power ps power j
    same_odd i j low high same = ap (has_power ps power) (standing_once (power + 1) i j low high same)

    -- nothing stays where a place comes down to, and nothing comes down to where a place stays
    none_stays : (i : ℕ) → i < length ps → has_power ps power i ≡ true
        → (fin.contains t (standing ps (power + 1) i) && not (fin.contains moving (standing ps (power + 1) i))) ≡ false
    none_stays i low moves = false_from_ne_true _ (λ e.
        let parts : (fin.contains t (standing ps (power + 1) i) ≡ true) × (not (fin.contains moving (standing ps (power + 1) i)) ≡ true) = and_parts _ _ e in
        let from : (j : ℕ) × (j < length ps) × (standing ps (power + 1) i ≡ standing ps power j) = so_far.only _ parts.0 in
        clash from.0 from.1 from.2 (has_power ps power from.0) refl parts.1)
      where
        clash : (j : ℕ) → j < length ps → standing ps (power + 1) i ≡ standing ps power j → (b : Bool)
            → has_power ps power j ≡ b → not (fin.contains moving (standing ps (power + 1) i)) ≡ true → ⊥
        clash j high same true e absent = true≢false (sym absent ∙ ap not (ap (fin.contains moving) same ∙ move j high ∙ e))
        clash j high same false e absent = true≢false (sym moves ∙ same_odd i j low high (same ∙ stays power j e) ∙ e)

    none_comes : (i : ℕ) → i < length ps → has_power ps power i ≡ false
        → (fin.contains t (standing ps (power + 1) i + 2 ^ power) && fin.contains moving (standing ps (power + 1) i + 2 ^ power)) ≡ false
    none_comes i low keeps = false_from_ne_true _ (λ e.
        let parts : (fin.contains t (standing ps (power + 1) i + 2 ^ power) ≡ true) × (fin.contains moving (standing ps (power + 1) i + 2 ^ power) ≡ true) =
        and_parts _ _ e in
        let from : (j : ℕ) × (j < length ps) × (standing ps (power + 1) i + 2 ^ power ≡ standing ps power j) = so_far.only _ parts.0 in
        clash from.0 from.1 from.2 (has_power ps power from.0) refl parts.1)
      where
        clash : (j : ℕ) → j < length ps → standing ps (power + 1) i + 2 ^ power ≡ standing ps power j → (b : Bool)
            → has_power ps power j ≡ b → fin.contains moving (standing ps (power + 1) i + 2 ^ power) ≡ true → ⊥
        clash j high same true e present =
            let meet : standing ps (power + 1) i ≡ standing ps (power + 1) j = omega (arith, goes_down power j e) in
            true≢false (sym e ∙ sym (same_odd i j low high meet) ∙ keeps)
        clash j high same false e present = true≢false (sym present ∙ ap (fin.contains moving) same ∙ move j high ∙ e)

    pub IsStanding-more : IsStanding ps (power + 1) s t'
    IsStanding-more = record {
      here = λ i low. at i low (has_power ps power i) refl;
      only = λ k f. elim (or_cases (fin.contains t k && not (fin.contains moving k)) (fin.contains t (k + 2 ^ power) && fin.contains moving (k + 2 ^ power))
          (sym (down k) ∙ f)) as (λ _. (i : ℕ) × (i < length ps) × (k ≡ standing ps (power + 1) i)) [
            | inl kept ↦
                let parts : (fin.contains t k ≡ true) × (not (fin.contains moving k) ≡ true) = and_parts _ _ kept in
                let from : (j : ℕ) × (j < length ps) × (k ≡ standing ps power j) = so_far.only k parts.0 in
                left k from.0 from.1 from.2 (has_power ps power from.0) refl parts.1
            | inr came ↦
                let parts : (fin.contains t (k + 2 ^ power) ≡ true) × (fin.contains moving (k + 2 ^ power) ≡ true) = and_parts _ _ came in
                let from : (j : ℕ) × (j < length ps) × (k + 2 ^ power ≡ standing ps power j) = so_far.only (k + 2 ^ power) parts.0 in
                right k from.0 from.1 from.2 (has_power ps power from.0) refl parts.1
          ];
    }
      where
        at : (i : ℕ) → i < length ps → (b : Bool) → has_power ps power i ≡ b → fin.contains t' (standing ps (power + 1) i) ≡ fin.contains s (slice_index ps i)
        at i low true e =
            down (standing ps (power + 1) i)
            ∙ ap₂ (λ a b. a || b) (none_stays i low e)
            (ap₂ (λ a b. a && b) (ap (fin.contains t) (sym (goes_down power i e)) ∙ so_far.here i low)
            (ap (fin.contains moving) (sym (goes_down power i e)) ∙ move i low ∙ e))
            ∙ and-true (fin.contains s (slice_index ps i))
        at i low false e =
            down (standing ps (power + 1) i)
            ∙ ap₂ (λ a b. a || b)
            (ap₂ (λ a b. a && b) (ap (fin.contains t) (sym (stays power i e)) ∙ so_far.here i low)
            (ap not (ap (fin.contains moving) (sym (stays power i e)) ∙ move i low ∙ e)))
            (none_comes i low e)
            ∙ or-false (fin.contains s (slice_index ps i) && true) ∙ and-true (fin.contains s (slice_index ps i))

        left : (k j : ℕ) → j < length ps → k ≡ standing ps power j → (b : Bool) → has_power ps power j ≡ b
            → not (fin.contains moving k) ≡ true → (i : ℕ) × (i < length ps) × (k ≡ standing ps (power + 1) i)
        left k j high same true e absent = absurd (true≢false (sym absent ∙ ap not (ap (fin.contains moving) same ∙ move j high ∙ e)))
        left k j high same false e absent = (j, high, same ∙ stays power j e)

        right : (k j : ℕ) → j < length ps → k + 2 ^ power ≡ standing ps power j → (b : Bool) → has_power ps power j ≡ b
            → fin.contains moving (k + 2 ^ power) ≡ true → (i : ℕ) × (i < length ps) × (k ≡ standing ps (power + 1) i)
        right k j high same true e present = (j, high, omega (arith, goes_down power j e))
        right k j high same false e present = absurd (true≢false (sym present ∙ ap (fin.contains moving) same ∙ move j high ∙ e))

  -- ---- the beginning and the end

  -- while a gap has a power left, that is one of a word
  pub power_low : (most power : ℕ) → most < 2 ^ 64 → 0 < most / 2 ^ power → power < 64
  power_low most power fits some = elim (cases_lt power 64) as (λ _. power < 64) [
    | inl low ↦ low
    | inr high ↦ absurd (
        let more : 2 ^ 64 ≤ 2 ^ power = pow_mono high in
        let none : most / 2 ^ power ≡ 0 = div-eq_of_lt (omega arith) in omega arith)
  ]

  pub IsStanding-first : (s : fin.FinSet nat_cmp) → ((k : ℕ) → fin.contains s k ≡ true → Contains ps k) → IsStanding ps 0 s s
  IsStanding-first s all = record {
    here = λ i low. ap (fin.contains s) (standing_first i low);
    only = λ k f. let at : Contains ps k = all k f in (at.0, at.1, sym at.2 ∙ get_or_default_zero ps at.0 k at.1 ∙ sym (standing_first at.0 at.1));
  }

  module _ (power most : ℕ) (done : most / 2 ^ power ≡ 0) (within : (i : ℕ) → i < length ps → gap ps i ≤ most)
      (s t : fin.FinSet nat_cmp) (stand : IsStanding ps power s t) where
    -- all places are numbers
    pub standing_low : (k : ℕ) → fin.contains t k ≡ true → k < length ps
    standing_low k f =
        let from : (i : ℕ) × (i < length ps) × (k ≡ standing ps power i) = stand.only k f in
        let same : k ≡ from.0 = from.2 ∙ standing_last power most from.0 done (within from.0 from.1) in
        omega (arith, from.1)

    pub standing_up : (n first : ℕ) (t' : fin.FinSet nat_cmp) → first + length ps ≤ n → IsMovedUp n first t t' → IsRenumbered ps first s t'
    standing_up n first t' room up = record {
      here = λ i low.
          let back : first + i - first ≡ i = omega arith in
          up (first + i)
          ∙ ap₂ (λ a b. a && (not b && fin.contains t (first + i - first))) (lt-ltb (first + i) n (omega arith)) (le-ltb (first + i) first (omega arith))
          ∙ ap (fin.contains t) (back ∙ sym (standing_last power most i done (within i low))) ∙ stand.here i low;
      only = λ k f.
          let parts : (nat_lt k n ≡ true) × ((not (nat_lt k first) && fin.contains t (k - first)) ≡ true) = and_parts _ _ (sym (up k) ∙ f) in
          let behind : (not (nat_lt k first) ≡ true) × (fin.contains t (k - first) ≡ true) = and_parts _ _ parts.1 in
          let low : k - first < length ps = standing_low (k - first) behind.1 in
          elim (cases_lt k first) as (λ _. (first ≤ k) × (k < first + length ps)) [
            | inl before ↦ absurd (true≢false (sym behind.0 ∙ ap not (lt-ltb k first before)))
            | inr after ↦ (after, omega arith)
          ];
    }
