-- The loops that copy what is kept of the places of a set, numbered anew.
use Rattle.std.proofs.Common.{◌≡◌, ℕ, ◌+◌, ◌-◌, ◌<◌, ◌≤◌, Bool, true, false, cond, ◌&&◌, ◌||◌, nat_eq, List, [], ◌∷◌, ◌++◌, length}
use Rattle.std.proofs.Common.{slice_index, inl, inr, refl, sym, ap, ap₂, ◌∙◌, subst, subst₂, arith, eq-eqb, ne_eqb, eqb-true, append_assoc, append-nil}
use Rattle.std.proofs.Common.{length-append, true≢false}
use Rattle.std.proofs.lemmas.Bool.{cases_eq, and_parts, or_cases, false_from_ne_true}
use Rattle.std.proofs.Math.Bool.{and-true}
use Rattle.std.proofs.lemmas.List.Elements.{Contains-get_or}
use Rattle.std.proofs.lemmas.List.{get_or_append_left, get_or_push}
use Rattle.std.specs.Ordering.{nat_cmp}
use Rattle.std.specs.FinSet as fin
use Rattle.lists.proofs.Rising.{at_split}
use Rattle.bitset.specs.Places.{places}
use Rattle.bitset.specs.Sets.{places-Contains, contains-insert, contains-intersection, contains-empty}
use Rattle.dep_graph.specs.declared.rows.Row.{Row}
use Rattle.dep_graph.specs.Changes.{Copies, CopiesRows, IsRenumbered}
use Rattle.dep_graph.specs.Moves.{ChangesFrom}
use Rattle.dep_graph.specs.Rows.{no_row, row_at, holds}

-- ---- one copy for each place

pub record Copying {W : ℕ} (Made : ℕ → Row W → Type 0) (ps : List ℕ) (old new : List (Row W)) (ys zs : List ℕ) : Type 0 where
  pub split : ys ++ zs ≡ ps
  pub long : length new ≡ length old + length ys
  pub kept : (p : ℕ) → p < length old → row_at new p ≡ row_at old p
  pub made : (i : ℕ) → i < length ys → Made (slice_index ps i) (row_at new (length old + i))

module _ {W : ℕ} (Made : ℕ → Row W → Type 0) (ps : List ℕ) (old : List (Row W)) where
  pub Copying-start : (zs : List ℕ) → zs ≡ ps → Copying Made ps old old [] zs
  Copying-start zs e = record { split = e; long = omega arith; kept = λ p h. refl; made = λ i h. absurd (omega arith) }

  pub Copying-all : (new : List (Row W)) (ys ws : List ℕ) → Copying Made ps old new ys ws → ws ≡ [] → Copies Made ps old new
  Copying-all new ys ws h e =
      let seen : ys ≡ ps = sym (append-nil ys) ∙ ap (λ xs. ys ++ xs) (sym e) ∙ h.split in
      record {
        long = h.long ∙ ap (λ xs. length old + length xs) seen;
        kept = h.kept;
        made = λ i low. h.made i (omega (arith, ap length seen));
      }

module _ {W : ℕ} {Made : ℕ → Row W → Type 0} {ps : List ℕ} {old new : List (Row W)} {ys ws : List ℕ} (h : Copying Made ps old new ys ws)
    {zs : List ℕ} {p : ℕ} (e : ws ≡ p ∷ zs) where
  pub seam : ys ++ p ∷ zs ≡ ps
  seam = ap (λ xs. ys ++ xs) (sym e) ∙ h.split

  pub Copying-more : (new' : List (Row W)) (row : Row W) → new' ≡ new ++ row ∷ [] → Made p row → Copying Made ps old new' (ys ++ p ∷ []) zs
  Copying-more new' row is fits = record {
    split = append_assoc ys (p ∷ []) zs ∙ seam;
    long = ap length is ∙ length-append new (row ∷ []) ∙ omega (arith, h.long, length-append ys (p ∷ []));
    kept = λ q low. before q (omega (arith, h.long)) ∙ h.kept q low;
    made = λ i low. elim (cases_eq i (length ys)) as (λ _. Made (slice_index ps i) (row_at new' (length old + i))) [
      | inl same ↦
          let place : slice_index ps i ≡ p = ap (slice_index ps) same ∙ at_split ps ys zs p seam in
          let item : row_at new' (length old + i) ≡ row =
          ap (λ xs. row_at xs (length old + i)) is ∙ get_or_push new row no_row (length old + i) (omega (arith, h.long)) in
          subst₂ Made (sym place) (sym item) fits
      | inr other ↦
          let earlier : i < length ys = omega (arith, length-append ys (p ∷ [])) in
          subst (Made (slice_index ps i)) (sym (before (length old + i) (omega (arith, h.long)))) (h.made i earlier)
    ];
  }
    where
      before : (q : ℕ) → q < length new → row_at new' q ≡ row_at new q
      before q low = ap (λ xs. row_at xs q) is ∙ get_or_append_left new (row ∷ []) no_row q low

-- ---- copies of rows, of which what lies within is kept, and then numbered anew

-- the sets of a row, as far as they lie within
pub record IsMet {W : ℕ} (within : fin.FinSet nat_cmp) (old new : Row W) : Type 0 where
  pub rate : new.rate ≡ old.rate
  pub ancestors : new.ancestors ≡ fin.intersection old.ancestors within
  pub descendants : new.descendants ≡ fin.intersection old.descendants within

abbrev pub MeetsRows : {W : ℕ} → List (Row W) → fin.FinSet nat_cmp → ℕ → Row W → Type 0
MeetsRows from within p row = IsMet within (row_at from p) row

met_holds : (s t within : fin.FinSet nat_cmp) (p : ℕ) → t ≡ fin.intersection s within → fin.contains t p ≡ true → fin.contains within p ≡ true
met_holds s t within p is held = (and_parts _ _ (sym (contains-intersection s within p) ∙ ap (λ s. fin.contains s p) (sym is) ∙ held)).1

-- what is numbered anew in the part within is numbered anew in the whole
met_numbered : (n first : ℕ) (within s t u : fin.FinSet nat_cmp) → t ≡ fin.intersection s within → IsRenumbered (places n within) first t u
    → IsRenumbered (places n within) first s u
met_numbered n first within s t u met is = record {
  here = λ j below.
      is.here j below ∙ ap (λ s. fin.contains s (slice_index (places n within) j)) met
      ∙ contains-intersection s within (slice_index (places n within) j)
      ∙ ap (λ b. fin.contains s (slice_index (places n within) j) && b) (places-Contains n within _ (Contains-get_or (places n within) j 0 below)).1
      ∙ and-true (fin.contains s (slice_index (places n within) j));
  only = is.only;
}

module _ {W : ℕ} (n : ℕ) (from : List (Row W)) (within : fin.FinSet nat_cmp) (old mid : List (Row W))
    (met : Copies (MeetsRows from within) (places n within) old mid) where
  pub met_within : (i p : ℕ) → length old ≤ i → i < length mid → holds (row_at mid i) p ≡ true → fin.contains within p ≡ true
  met_within i p after inside held =
      let at : length old + (i - length old) ≡ i = omega arith in
      let is = subst (λ k. IsMet within (row_at from (slice_index (places n within) (i - length old))) (row_at mid k)) at
      (met.made (i - length old) (omega (arith, met.long))) in
      elim (or_cases (fin.contains (row_at mid i).ancestors p) (fin.contains (row_at mid i).descendants p) held) as (λ _. fin.contains within p ≡ true) [
        | inl up ↦ met_holds _ _ within p is.ancestors up
        | inr down ↦ met_holds _ _ within p is.descendants down
      ]

  pub met_renumbered : (new : List (Row W)) → ChangesFrom (IsRenumbered (places n within) (length old)) (length old) mid new
      → CopiesRows from (places n within) old new
  met_renumbered new numbered = record {
    long = numbered.long ∙ met.long;
    kept = λ p low. numbered.kept p low ∙ met.kept p low;
    made = λ i low.
        let is = numbered.changed (length old + i) (omega arith) (omega (arith, met.long)) in
        let was = met.made i low in record {
          rate = is.rate ∙ was.rate;
          ancestors = met_numbered n (length old) within _ _ _ was.ancestors is.ancestors;
          descendants = met_numbered n (length old) within _ _ _ was.descendants is.descendants;
        };
  }

-- ---- the numbers of the places of a set

pub record Numbering (ps : List ℕ) (first : ℕ) (s t : fin.FinSet nat_cmp) (number : ℕ) (ys zs : List ℕ) : Type 0 where
  pub split : ys ++ zs ≡ ps
  pub number_is : number ≡ first + length ys
  pub here : (i : ℕ) → i < length ys → fin.contains t (first + i) ≡ fin.contains s (slice_index ps i)
  pub only : (k : ℕ) → fin.contains t k ≡ true → (first ≤ k) × (k < first + length ys)

module _ (ps : List ℕ) (first : ℕ) (s : fin.FinSet nat_cmp) where
  pub Numbering-start : (t : fin.FinSet nat_cmp) (zs : List ℕ) → t ≡ fin.empty → zs ≡ ps → Numbering ps first s t first [] zs
  Numbering-start t zs none e = record {
    split = e;
    number_is = omega arith;
    here = λ i h. absurd (omega arith);
    only = λ k f. absurd (true≢false (sym f ∙ ap (λ s. fin.contains s k) none ∙ contains-empty k));
  }

  pub room_left : (t : fin.FinSet nat_cmp) (number m k : ℕ) (ys ws zs : List ℕ) (p : ℕ) → Numbering ps first s t number ys ws → ws ≡ p ∷ zs → length ps ≡ m
      → first + m ≤ k → number < k
  room_left t number m k ys ws zs p h e long room = omega (arith, h.number_is, ap length h.split, length-append ys ws, ap length e)

  pub Numbering-more : (t t' : fin.FinSet nat_cmp) (number number' : ℕ) (ys ws zs : List ℕ) (p : ℕ) → Numbering ps first s t number ys ws → ws ≡ p ∷ zs
      → number' ≡ number + 1
      → t' ≡ cond (fin.contains s p) (fin.insert t number) t → Numbering ps first s t' number' (ys ++ p ∷ []) zs
  Numbering-more t t' number number' ys ws zs p h e next is = record {
    split = append_assoc ys (p ∷ []) zs ∙ ap (λ xs. ys ++ xs) (sym e) ∙ h.split;
    number_is = omega (arith, h.number_is, length-append ys (p ∷ []));
    here = λ i low. elim (cases_eq i (length ys)) as (λ _. fin.contains t' (first + i) ≡ fin.contains s (slice_index ps i)) [
      | inl same ↦
          tells (first + i) ∙ ap₂ (λ a b. (fin.contains s p && a) || b) (eq-eqb (first + i) number (omega (arith, h.number_is)))
          (fresh (first + i) (omega arith))
          ∙ only_first (fin.contains s p)
          ∙ ap (fin.contains s) (sym (ap (slice_index ps) same ∙ at_split ps ys zs p (ap (λ xs. ys ++ xs) (sym e) ∙ h.split)))
      | inr other ↦
          let before : i < length ys = omega (arith, length-append ys (p ∷ [])) in
          tells (first + i) ∙ ap (λ a. (fin.contains s p && a) || fin.contains t (first + i)) (ne_eqb (first + i) number (λ f. omega (arith, h.number_is)))
          ∙ only_second (fin.contains s p) (fin.contains t (first + i)) ∙ h.here i before
    ];
    only = λ k f. elim (or_cases (fin.contains s p && nat_eq k number) (fin.contains t k) (sym (tells k) ∙ f))
        as (λ _. (first ≤ k) × (k < first + length (ys ++ p ∷ []))) [
          | inl new ↦
              let same : k ≡ number = eqb-true k number (and_parts (fin.contains s p) (nat_eq k number) new).1 in
              (omega (arith, h.number_is), omega (arith, h.number_is, length-append ys (p ∷ [])))
          | inr old ↦ ((h.only k old).0, omega (arith, (h.only k old).1, length-append ys (p ∷ [])))
        ];
  }
    where
      one : (b : Bool) (k : ℕ) → fin.contains (cond b (fin.insert t number) t) k ≡ ((b && nat_eq k number) || fin.contains t k)
      one true k = contains-insert t number k
      one false k = refl

      tells : (k : ℕ) → fin.contains t' k ≡ ((fin.contains s p && nat_eq k number) || fin.contains t k)
      tells k = ap (λ s. fin.contains s k) is ∙ one (fin.contains s p) k

      fresh : (k : ℕ) → first + length ys ≤ k → fin.contains t k ≡ false
      fresh k far = false_from_ne_true _ (λ f. let low : k < first + length ys = (h.only k f).1 in absurd (omega arith))

      only_first : (b : Bool) → ((b && true) || false) ≡ b
      only_first true = refl
      only_first false = refl

      only_second : (b c : Bool) → ((b && false) || c) ≡ c
      only_second true c = refl
      only_second false c = refl

  pub Numbering-all : (t : fin.FinSet nat_cmp) (number : ℕ) (ys ws : List ℕ) → Numbering ps first s t number ys ws → ws ≡ [] → IsRenumbered ps first s t
  Numbering-all t number ys ws h e =
      let seen : ys ≡ ps = sym (append-nil ys) ∙ ap (λ xs. ys ++ xs) (sym e) ∙ h.split in
      record {
        here = λ i low. h.here i (omega (arith, ap length seen));
        only = λ k f. ((h.only k f).0, omega (arith, (h.only k f).1, ap length seen));
      }
