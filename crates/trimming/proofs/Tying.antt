-- Places that are tied together: what one more place changes.
use Rattle.std.proofs.Common.{◌≡◌, ◌⊎◌, ℕ, suc, zero, inl, inr, refl, sym, subst}
use Rattle.trimming.specs.Ties.{Way, AreTied, Or}

-- a property that has more places ties no fewer
way_map : (R : ℕ → ℕ → Type 0) (P Q : ℕ → Type 0) → ((x : ℕ) → P x → Q x) → (a b n : ℕ) → Way R P a b n → Way R Q a b n
way_map R P Q more a b zero same = same
way_map R P Q more a b (suc n) (c, way, here, there, step) = (c, way_map R P Q more a c n way, more c here, more b there, step)

pub tied_map : (R : ℕ → ℕ → Type 0) (P Q : ℕ → Type 0) → ((x : ℕ) → P x → Q x) → (a b : ℕ) → AreTied R P a b → AreTied R Q a b
tied_map R P Q more a b (n, way) = (n, way_map R P Q more a b n way)

-- one step more
pub tied_step : (R : ℕ → ℕ → Type 0) (P : ℕ → Type 0) (a b c : ℕ) → AreTied R P a b → P b → P c → R b c ⊎ R c b → AreTied R P a c
tied_step R P a b c (n, way) here there step = (suc n, (b, way, here, there, step))

way_trans : (R : ℕ → ℕ → Type 0) (P : ℕ → Type 0) (a b c n : ℕ) → AreTied R P a b → Way R P b c n → AreTied R P a c
way_trans R P a b c zero tied same = subst (AreTied R P a) same tied
way_trans R P a b c (suc n) tied (d, way, here, there, step) = tied_step R P a d c (way_trans R P a b d n tied way) here there step

pub tied_trans : (R : ℕ → ℕ → Type 0) (P : ℕ → Type 0) (a b c : ℕ) → AreTied R P a b → AreTied R P b c → AreTied R P a c
tied_trans R P a b c tied (n, way) = way_trans R P a b c n tied way

way_back : (R : ℕ → ℕ → Type 0) (P : ℕ → Type 0) (a b n : ℕ) → Way R P a b n → AreTied R P b a
way_back R P a b zero same = (0, sym same)
way_back R P a b (suc n) (c, way, here, there, step) =
    tied_trans R P b c a (tied_step R P b b c (0, refl) there here (elim step [ inl down ↦ inr down | inr up ↦ inl up ])) (way_back R P a c n way)

pub tied_back : (R : ℕ → ℕ → Type 0) (P : ℕ → Type 0) (a b : ℕ) → AreTied R P a b → AreTied R P b a
tied_back R P a b (n, way) = way_back R P a b n way

-- what is tied to a place with the property has it
pub tied_has : (R : ℕ → ℕ → Type 0) (P : ℕ → Type 0) (a b : ℕ) → P a → AreTied R P a b → P b
tied_has R P a b is (zero, same) = subst P same is
tied_has R P a b is (suc n, (c, way, here, there, step)) = there

-- ---- one more place, all of whose parents have the property, and of whose children none has it

module _ (R : ℕ → ℕ → Type 0) (P : ℕ → Type 0) (place : ℕ) (fresh : P place → ⊥) (closed : (a b : ℕ) → R a b → P b → P a) where
  -- what is tied to it then was tied to one of its parents
  abbrev pub IsNear : ℕ → Type 0
  IsNear x = (x ≡ place) ⊎ ((parent : ℕ) × R parent place × P parent × AreTied R P parent x)

  way_near : (x n : ℕ) → Way R (Or P place) place x n → IsNear x
  way_near x zero same = inl (sym same)
  way_near x (suc n) (c, way, here, inl same, step) = inl same
  way_near x (suc n) (c, way, here, inr is, inl down) = elim (way_near c n way) [
    | inl same ↦ absurd (fresh (closed place x (subst (λ (q : ℕ). R q x) same down) is))
    | inr near ↦ inr (near.0, near.1, near.2, tied_step R P near.0 c x near.3 (tied_has R P near.0 c near.2 near.3) is (inl down))
  ]
  way_near x (suc n) (c, way, here, inr is, inr up) = elim (way_near c n way) [
    | inl same ↦ inr (x, subst (R x) same up, is, (0, refl))
    | inr near ↦ inr (near.0, near.1, near.2, tied_step R P near.0 c x near.3 (tied_has R P near.0 c near.2 near.3) is (inr up))
  ]

  pub tied_near : (x : ℕ) → AreTied R (Or P place) place x → IsNear x
  tied_near x (n, way) = way_near x n way

  -- and the other way round
  pub near_tied : (x : ℕ) → IsNear x → AreTied R (Or P place) place x
  near_tied x (inl same) = (0, sym same)
  near_tied x (inr near) =
      tied_trans R (Or P place) place near.0 x
      (tied_step R (Or P place) place place near.0 (0, refl) (inl refl) (inr near.2) (inr near.1))
      (tied_map R P (Or P place) (λ q is. inr is) near.0 x near.3)

  -- what isn't tied to it is tied as before
  way_far : (a : ℕ) → P a → ((parent : ℕ) → R parent place → AreTied R P a parent → ⊥) → (x n : ℕ) → Way R (Or P place) a x n → AreTied R P a x
  way_far a is none x zero same = (0, same)
  way_far a is none x (suc n) (c, way, here, inl same, inl down) =
      absurd (none c (subst (R c) same down) (way_far a is none c n way))
  way_far a is none x (suc n) (c, way, here, inl same, inr up) =
      absurd (fresh (closed place c (subst (λ (q : ℕ). R q c) same up) (tied_has R P a c is (way_far a is none c n way))))
  way_far a is none x (suc n) (c, way, here, inr there, step) =
      let before = way_far a is none c n way in tied_step R P a c x before (tied_has R P a c is before) there step

  pub tied_far : (a x : ℕ) → P a → (AreTied R (Or P place) place a → ⊥) → AreTied R (Or P place) a x → AreTied R P a x
  tied_far a x is apart (n, way) =
      way_far a is
      (λ parent up tied. apart (near_tied a (inr (parent, up, tied_has R P a parent is tied, tied_back R P a parent tied)))) x n way
