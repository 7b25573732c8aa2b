-- A loop over the places of a set that changes what is kept of each.
use Rattle.std.proofs.Common.{◌≡◌, ℕ, zero, suc, ◌+◌, ◌<◌, ◌≤◌, Bool, true, false, cond, ◌||◌, nat_eq, List, [], ◌∷◌, ◌++◌, length, filter, set, inl, inr}
use Rattle.std.proofs.Common.{refl, sym, ap, ◌∙◌, subst, arith, eq-eqb, ne_eqb, append_assoc, append-nil}
use Rattle.std.proofs.lemmas.Bool.{cases_eq, or_right}
use Rattle.std.proofs.lemmas.List.{get_or-set_same, get_or-set_other, length-set}
use Rattle.std.specs.List.{range_with_len}
use Rattle.std.specs.Ordering.{nat_cmp}
use Rattle.std.specs.FinSet as fin
use Rattle.lists.proofs.Cases.{or_swap}
use Rattle.lists.specs.Rising.{IsRising}
use Rattle.lists.proofs.Rising.{above_at}
use Rattle.bitset.specs.Places.{places, IsWithin}
use Rattle.bitset.specs.Sets.{IsRising-places, places-here}
use Rattle.dep_graph.specs.declared.rows.Row.{Row}
use Rattle.dep_graph.specs.Rows.{no_row, row_at}
use Rattle.dep_graph.specs.Changes.{ChangesAt}

-- whether q is one of the numbers
abbrev pub among : List ℕ → ℕ → Bool
among [] q = false
among (y ∷ ys) q = nat_eq q y || among ys q

pub among-push : (ys : List ℕ) (p q : ℕ) → among (ys ++ p ∷ []) q ≡ (nat_eq q p || among ys q)
among-push [] p q = refl
among-push (y ∷ ys) p q = ap (λ b. nat_eq q y || b) (among-push ys p q) ∙ or_swap (nat_eq q y) (nat_eq q p) (among ys q)

-- what comes later in a rising list has not come before
pub among-before : (ys zs : List ℕ) (p : ℕ) → IsRising (ys ++ p ∷ zs) → among ys p ≡ false
among-before [] zs p h = refl
among-before (y ∷ ys) zs p h =
    let low : y < p = above_at y ys zs p h.0 in
    ap (λ b. b || among ys p) (ne_eqb p y (λ e. omega arith)) ∙ among-before ys zs p h.1

among_in : (f : ℕ → Bool) (a n q : ℕ) → f q ≡ true → a ≤ q → q < a + n → among (filter f (range_with_len a n)) q ≡ true
among_in f a zero q passes low high = absurd (omega arith)
among_in f a (suc n) q passes low high =
    elim (cases_eq a q) as (λ _. among (filter f (range_with_len a (suc n))) q ≡ true) [
      | inl same ↦
          ap (λ b. among (cond b (a ∷ filter f (range_with_len (a + 1) n)) (filter f (range_with_len (a + 1) n))) q) (ap f same ∙ passes)
          ∙ ap (λ b. b || among (filter f (range_with_len (a + 1) n)) q) (eq-eqb q a (sym same))
      | inr other ↦
          elim (f a) as (λ b. among (cond b (a ∷ filter f (range_with_len (a + 1) n)) (filter f (range_with_len (a + 1) n))) q ≡ true) [
            | true ↦ or_right (nat_eq q a) _ (among_in f (a + 1) n q passes (omega arith) (omega arith))
            | false ↦ among_in f (a + 1) n q passes (omega arith) (omega arith)
          ]
    ]

among_out : (f : ℕ → Bool) (a n q : ℕ) → f q ≡ false → among (filter f (range_with_len a n)) q ≡ false
among_out f a zero q fails = refl
among_out f a (suc n) q fails = cases (f a) refl (among_out f (a + 1) n q fails)
  where
    cases : (b : Bool) → f a ≡ b → among (filter f (range_with_len (a + 1) n)) q ≡ false
        → among (cond b (a ∷ filter f (range_with_len (a + 1) n)) (filter f (range_with_len (a + 1) n))) q ≡ false
    cases true e rest = ap (λ b. b || among (filter f (range_with_len (a + 1) n)) q)
        (ne_eqb q a (λ same. let both : true ≡ false = sym e ∙ ap f (sym same) ∙ fails in cc)) ∙ rest
    cases false e rest = rest

-- the list of the members tells who is one
pub among-places : (n : ℕ) (s : fin.FinSet nat_cmp) → IsWithin n s → (q : ℕ) → among (places n s) q ≡ fin.contains s q
among-places n s within q = cases (fin.contains s q) refl
  where
    cases : (b : Bool) → fin.contains s q ≡ b → among (places n s) q ≡ b
    cases true e = let low : q < n = within q e in among_in (fin.contains s) 0 n q e (omega arith) (omega arith)
    cases false e = among_out (fin.contains s) 0 n q e

-- after the places ys and before the places zs, where f is done to the row of each
pub record InProgress {W : ℕ} (n : ℕ) (f : Row W → Row W) (s : fin.FinSet nat_cmp) (old rows : List (Row W)) (ys zs : List ℕ) : Type 0 where
  pub long : length rows ≡ length old
  pub split : ys ++ zs ≡ places n s
  pub done : (p : ℕ) → row_at rows p ≡ cond (among ys p) (f (row_at old p)) (row_at old p)

module _ {W : ℕ} (n : ℕ) (f : Row W → Row W) (s : fin.FinSet nat_cmp) where
  pub InProgress-start : (old : List (Row W)) (zs : List ℕ) → zs ≡ places n s → InProgress n f s old old [] zs
  InProgress-start old zs e = record { long = refl; split = e; done = λ p. refl }

  pub InProgress-all : (old rows : List (Row W)) (ys ws : List ℕ) → IsWithin n s → InProgress n f s old rows ys ws → ws ≡ [] → ChangesAt f s old rows
  InProgress-all old rows ys ws within h e = record {
    long = h.long;
    rows = λ p. h.done p ∙ ap (λ b. cond b (f (row_at old p)) (row_at old p)) (ap (λ xs. among xs p) all ∙ among-places n s within p);
  }
    where
      all : ys ≡ places n s
      all = sym (append-nil ys) ∙ ap (λ xs. ys ++ xs) (sym e) ∙ h.split

module _ {W n : ℕ} {f : Row W → Row W} {s : fin.FinSet nat_cmp} {old rows : List (Row W)} {ys ws : List ℕ} (h : InProgress n f s old rows ys ws)
    {zs : List ℕ} {p : ℕ} (e : ws ≡ p ∷ zs) where
  -- the next place is one of the set, so it has a row
  pub InProgress-here : (p < n) × (fin.contains s p ≡ true)
  InProgress-here = places-here n s ys zs p (sym h.split ∙ ap (λ xs. ys ++ xs) e)

  pub InProgress-inside : IsWithin (length old) s → p < length rows
  InProgress-inside within = let inside : p < length old = within p InProgress-here.1 in omega (arith, h.long)

  pub InProgress-more : (row : Row W) → p < length rows → row ≡ f (row_at rows p) → InProgress n f s old (set rows p row) (ys ++ p ∷ []) zs
  InProgress-more row inside is = record {
    long = length-set rows p row ∙ h.long;
    split = append_assoc ys (p ∷ []) zs ∙ ap (λ xs. ys ++ xs) (sym e) ∙ h.split;
    done = λ q. elim (cases_eq q p) as (λ _. row_at (set rows p row) q ≡ cond (among (ys ++ p ∷ []) q) (f (row_at old q)) (row_at old q)) [
      | inl same ↦
          ap (λ q. row_at (set rows p row) q) same
          ∙ get_or-set_same rows p row no_row inside ∙ is
          ∙ ap f (h.done p ∙ ap (λ b. cond b (f (row_at old p)) (row_at old p)) fresh)
          ∙ sym (ap (λ b. cond b (f (row_at old q)) (row_at old q)) (among-push ys p q ∙ ap (λ b. b || among ys q) (eq-eqb q p same))
          ∙ ap (λ q. f (row_at old q)) same)
      | inr other ↦
          get_or-set_other rows p q row no_row other ∙ h.done q
          ∙ sym (ap (λ b. cond b (f (row_at old q)) (row_at old q)) (among-push ys p q ∙ ap (λ b. b || among ys q) (ne_eqb q p other)))
    ];
  }
    where
      fresh : among ys p ≡ false
      fresh = among-before ys zs p (subst IsRising (sym h.split ∙ ap (λ xs. ys ++ xs) e) (IsRising-places n s))
