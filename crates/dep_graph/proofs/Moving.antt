-- The loops that go over the places of a set, and those that change each set of a list from a number on.
use Rattle.std.proofs.Common.{◌≡◌, ℕ, ◌+◌, ◌-◌, ◌*◌, ◌/◌, ◌%◌, ◌^◌, ◌<◌, ◌≤◌, Bool, true, false, cond, ◌||◌, nat_eq, List, [], ◌∷◌, ◌++◌, length, set}
use Rattle.std.proofs.Common.{slice_index, inl, inr, refl, sym, ap, ◌∙◌, subst, subst₂, arith, eq-eqb, ne_eqb, eqb-true, append_assoc, append-nil}
use Rattle.std.proofs.Common.{length-append, below_more, mod-eq_of_lt}
use Rattle.std.proofs.Math.Nat.{div-mul-le_self}
use Rattle.std.proofs.lemmas.Bool.{or_cases, or_left, or_right, false_from_ne_true}
use Rattle.std.proofs.lemmas.List.{get_or-set_same, get_or-set_other, length-set}
use Rattle.std.specs.Ordering.{nat_cmp}
use Rattle.std.specs.FinSet as fin
use Rattle.lists.proofs.Rising.{rising_at_least, at_split}
use Rattle.lists.specs.Rising.{IsRising}
use Rattle.bitset.specs.Sets.{contains-insert, contains-empty}
use Rattle.dep_graph.specs.Moves.{gap, standing, has_power, ChangesFrom}
use Rattle.dep_graph.specs.declared.rows.Row.{Row}
use Rattle.dep_graph.specs.Rows.{no_row, row_at, holds}
use Rattle.dep_graph.specs.Changes.{BothBecome}
use Rattle.dep_graph.proofs.Gaps.{gap_rises, standing_once, standing_below}

-- ---- over the places of a set, which are ps: those of ys are behind, and `number` counts them

pub record Counting (ps : List ℕ) (number : ℕ) (ys zs : List ℕ) : Type 0 where
  pub split : ys ++ zs ≡ ps
  pub number_is : number ≡ length ys

-- of the first n places, as they stand, those that are moving
pub record Choosing (ps : List ℕ) (power : ℕ) (s : fin.FinSet nat_cmp) (n : ℕ) : Type 0 where
  pub here : (i : ℕ) → i < n → fin.contains s (standing ps power i) ≡ has_power ps power i
  pub only : (k : ℕ) → fin.contains s k ≡ true → (i : ℕ) × (i < n) × (k ≡ standing ps power i)

pub Counting-start : (ps zs : List ℕ) → zs ≡ ps → Counting ps 0 [] zs
Counting-start ps zs e = record { split = e; number_is = omega arith }

pub Counting-all : {ps : List ℕ} {number : ℕ} {ys ws : List ℕ} → Counting ps number ys ws → ws ≡ [] → length ys ≡ length ps
Counting-all {ps} {number} {ys} {ws} h e = ap length (sym (append-nil ys) ∙ ap (λ xs. ys ++ xs) (sym e) ∙ h.split)

module _ {ps : List ℕ} {number : ℕ} {ys ws : List ℕ} (h : Counting ps number ys ws) {zs : List ℕ} {p : ℕ} (e : ws ≡ p ∷ zs) where
  pub next_split : ys ++ p ∷ zs ≡ ps
  next_split = ap (λ xs. ys ++ xs) (sym e) ∙ h.split

  pub Counting-more : (number' : ℕ) → number' ≡ number + 1 → Counting ps number' (ys ++ p ∷ []) zs
  Counting-more number' next = record {
    split = append_assoc ys (p ∷ []) zs ∙ next_split;
    number_is = omega (arith, h.number_is, length-append ys (p ∷ []));
  }

  -- p is the next place
  next_is : slice_index ps number ≡ p
  next_is = ap (slice_index ps) h.number_is ∙ at_split ps ys zs p next_split

  pub next_within : number < length ps
  next_within = omega (arith, h.number_is, ap length h.split, length-append ys ws, ap length e)

  module _ (rise : IsRising ps) where
    pub next_low : number ≤ p
    next_low = let up : number ≤ slice_index ps number = rising_at_least ps rise number next_within in omega (arith, next_is)

    pub next_gap : p - number ≡ gap ps number
    next_gap = omega (arith, next_is)

    pub next_has_power : (power : ℕ) → has_power ps power number ≡ nat_eq ((p - number) / 2 ^ power % 2) 1
    next_has_power power = ap (λ x. nat_eq (x / 2 ^ power % 2) 1) (sym next_gap)

    -- where it stands
    pub next_standing : (power : ℕ) → p < 2 ^ 64 → number + (p - number) / 2 ^ power * 2 ^ power % 2 ^ 64 ≡ standing ps power number
    next_standing power fits =
        let part : (p - number) / 2 ^ power * 2 ^ power ≤ p - number = div-mul-le_self (p - number) (2 ^ power) in
        ap (λ x. number + x) (mod-eq_of_lt (omega arith) ∙ ap (λ x. x / 2 ^ power * 2 ^ power) next_gap)

    pub next_stands_below : (power : ℕ) → standing ps power number ≤ p
    next_stands_below power = omega (arith, standing_below ps rise power number next_within, next_is)

module _ (ps : List ℕ) (rise : IsRising ps) where
  -- ---- the greatest gap

  pub greatest_more : (number greatest : ℕ) (ys : List ℕ) (p : ℕ) → number ≡ length ys → number < length ps → greatest ≡ gap ps number → (i : ℕ)
      → i < length (ys ++ p ∷ []) → gap ps i ≤ greatest
  greatest_more number greatest ys p is low last i before =
      let rises : gap ps i ≤ gap ps number = gap_rises ps rise i number (omega (arith, length-append ys (p ∷ []))) low in omega arith

  -- ---- the places that are moving

  pub Choosing-start : (power : ℕ) (s : fin.FinSet nat_cmp) → s ≡ fin.empty → Choosing ps power s 0
  Choosing-start power s none = record {
    here = λ i h. absurd (omega arith);
    only = λ k f. absurd (let both : true ≡ false = sym f ∙ ap (λ s. fin.contains s k) none ∙ contains-empty k in cc);
  }

  pub Choosing-more : (power : ℕ) (s s' : fin.FinSet nat_cmp) (n : ℕ) → n < length ps → Choosing ps power s n
      → s' ≡ cond (has_power ps power n) (fin.insert s (standing ps power n)) s → Choosing ps power s' (n + 1)
  Choosing-more power s s' n low h is = record {
    here = below_more (λ i. fin.contains s' (standing ps power i) ≡ has_power ps power i) n
        (λ i before. tells (standing ps power i) ∙ other i before ∙ h.here i before)
        (tells (standing ps power n)
        ∙ ap (λ a. cond (has_power ps power n) (a || fin.contains s (standing ps power n)) (fin.contains s (standing ps power n))) (eq-eqb _ _ refl)
        ∙ ap (λ a. cond (has_power ps power n) true a) fresh ∙ itself (has_power ps power n));
    only = λ k f. from k (has_power ps power n) refl (sym (tells k) ∙ f);
  }
    where
      one : (b : Bool) (k : ℕ)
          → fin.contains (cond b (fin.insert s (standing ps power n)) s) k ≡ cond b (nat_eq k (standing ps power n) || fin.contains s k) (fin.contains s k)
      one true k = contains-insert s (standing ps power n) k
      one false k = refl

      tells : (k : ℕ) → fin.contains s' k ≡ cond (has_power ps power n) (nat_eq k (standing ps power n) || fin.contains s k) (fin.contains s k)
      tells k = ap (λ s. fin.contains s k) is ∙ one (has_power ps power n) k

      itself : (b : Bool) → cond b true false ≡ b
      itself true = refl
      itself false = refl

      same : (b : Bool) (x : Bool) → cond b x x ≡ x
      same true x = refl
      same false x = refl

      other : (i : ℕ) → i < n → cond (has_power ps power n) (nat_eq (standing ps power i) (standing ps power n) || fin.contains s (standing ps power i))
          (fin.contains s (standing ps power i)) ≡ fin.contains s (standing ps power i)
      other i before =
          ap (λ a. cond (has_power ps power n) (a || fin.contains s (standing ps power i)) (fin.contains s (standing ps power i)))
          (ne_eqb (standing ps power i) (standing ps power n) (λ e. let apart : i ≡ n = standing_once ps rise power i n (omega arith) low e in omega arith))
          ∙ same (has_power ps power n) (fin.contains s (standing ps power i))

      fresh : fin.contains s (standing ps power n) ≡ false
      fresh = false_from_ne_true _ (λ f. let at : (i : ℕ) × (i < n) × (standing ps power n ≡ standing ps power i) = h.only _ f in
          let apart : n ≡ at.0 = standing_once ps rise power n at.0 low (omega (arith, at.1)) at.2 in omega (arith, at.1))

      longer : (k : ℕ) → fin.contains s k ≡ true → (i : ℕ) × (i < n + 1) × (k ≡ standing ps power i)
      longer k f = let at : (i : ℕ) × (i < n) × (k ≡ standing ps power i) = h.only k f in (at.0, omega (arith, at.1), at.2)

      from : (k : ℕ) (b : Bool) → has_power ps power n ≡ b → cond b (nat_eq k (standing ps power n) || fin.contains s k) (fin.contains s k) ≡ true
          → (i : ℕ) × (i < n + 1) × (k ≡ standing ps power i)
      from k true e f = elim (or_cases (nat_eq k (standing ps power n)) (fin.contains s k) f) as (λ _. (i : ℕ) × (i < n + 1) × (k ≡ standing ps power i)) [
        | inl new ↦ (n, omega arith, eqb-true k (standing ps power n) new)
        | inr old ↦ longer k old
      ]
      from k false e f = longer k f

-- ---- over the rows of a list, from `first` on up to i

abbrev pub Stands : Type 1
Stands = fin.FinSet nat_cmp → fin.FinSet nat_cmp → Type 0

pub record Changing {W : ℕ} (Becomes : Stands) (first : ℕ) (old new : List (Row W)) (i : ℕ) : Type 0 where
  pub long : length new ≡ length old
  pub kept : (j : ℕ) → j < first → row_at new j ≡ row_at old j
  pub changed : (j : ℕ) → first ≤ j → j < i → BothBecome Becomes (row_at old j) (row_at new j)
  pub rest : (j : ℕ) → i ≤ j → row_at new j ≡ row_at old j

module _ {W : ℕ} (Becomes : Stands) (first : ℕ) (old : List (Row W)) where
  pub Changing-more : (new : List (Row W)) (i : ℕ) (was row : Row W) → first ≤ i → i < length new → was ≡ row_at new i → BothBecome Becomes was row
      → Changing Becomes first old new i → Changing Becomes first old (set new i row) (i + 1)
  Changing-more new i was row after inside is becomes h = record {
    long = length-set new i row ∙ h.long;
    kept = λ j low. get_or-set_other new i j row no_row (λ e. omega arith) ∙ h.kept j low;
    changed = λ j from before. below_more (λ j. first ≤ j → BothBecome Becomes (row_at old j) (row_at (set new i row) j)) i
        (λ j before from. subst (BothBecome Becomes (row_at old j)) (sym (get_or-set_other new i j row no_row (λ e. omega arith))) (h.changed j from before))
        (λ _. subst₂ (BothBecome Becomes) (is ∙ h.rest i (omega arith)) (sym (get_or-set_same new i row no_row inside)) becomes)
        j before from;
    rest = λ j behind. get_or-set_other new i j row no_row (λ e. omega arith) ∙ h.rest j (omega arith);
  }

-- one change, and then another
pub ChangesFrom-then : {W : ℕ} (First Second Both : Stands) (first : ℕ) (old mid new : List (Row W))
    → ((s t u : fin.FinSet nat_cmp) → First s t → Second t u → Both s u)
    → ChangesFrom First first old mid → ChangesFrom Second first mid new → ChangesFrom Both first old new
ChangesFrom-then First Second Both first old mid new both one two = record {
  long = two.long ∙ one.long;
  kept = λ j low. two.kept j low ∙ one.kept j low;
  changed = λ j from inside. let a = one.changed j from inside in let b = two.changed j from (omega (arith, one.long)) in record {
    rate = b.rate ∙ a.rate;
    ancestors = both _ _ _ a.ancestors b.ancestors;
    descendants = both _ _ _ a.descendants b.descendants;
  };
}

-- no change, where it is one of each set that a row has
pub ChangesFrom-same : {W : ℕ} (Becomes : Stands) (first : ℕ) (rows : List (Row W))
    → ((i : ℕ) → first ≤ i → i < length rows → (s : fin.FinSet nat_cmp) → ((p : ℕ) → fin.contains s p ≡ true → holds (row_at rows i) p ≡ true) → Becomes s s)
    → ChangesFrom Becomes first rows rows
ChangesFrom-same Becomes first rows same = record {
  long = refl;
  kept = λ j low. refl;
  changed = λ j from inside. record {
    rate = refl;
    ancestors = same j from inside (row_at rows j).ancestors (λ p e. or_left _ _ e);
    descendants = same j from inside (row_at rows j).descendants (λ p e. or_right _ _ e);
  };
}

-- what the change leaves in a set is in a row after it
pub ChangesFrom-holds : {W : ℕ} {Becomes : Stands} {first : ℕ} {old new : List (Row W)} (P : ℕ → Type 0) → ChangesFrom Becomes first old new
    → ((s t : fin.FinSet nat_cmp) → Becomes s t → (p : ℕ) → fin.contains t p ≡ true → P p)
    → (i p : ℕ) → first ≤ i → i < length old → holds (row_at new i) p ≡ true → P p
ChangesFrom-holds {W} {Becomes} {first} {old} {new} P c each i p from inside held =
    let both = c.changed i from inside in
    elim (or_cases (fin.contains (row_at new i).ancestors p) (fin.contains (row_at new i).descendants p) held) as (λ _. P p) [
      | inl up ↦ each _ _ both.ancestors p up
      | inr down ↦ each _ _ both.descendants p down
    ]
