-- The places marked as those where what is left has a property, when a place is written.
use Rattle.std.proofs.Common.{◌≡◌, ℕ, ◌<◌, inl, inr, List, length, set, true, ℤ, pos, refl, sym, ap, ◌∙◌, subst, get_or-set_same, get_or-set_other}
use Rattle.std.proofs.Math.ListN.{length-set}
use Rattle.std.proofs.lemmas.Bool.{cases_eq}
use Rattle.std.specs.Ordering.{nat_cmp}
use Rattle.std.specs.FinSet as fin
use Rattle.lists.proofs.Cases.{clash}
use Rattle.bitset.specs.Sets.{contains-empty}
use Rattle.closure_flow.specs.Closures.{weight_at}
use Rattle.closure_flow.specs.Networks.{AreMarked}

-- a place was marked by what is left there now, and the others as before
pub record Marks (marked new : fin.FinSet nat_cmp) (place : ℕ) (z : ℤ) (P : ℤ → Type 0) : Type 0 where
  pub other : (t : ℕ) → (t ≡ place → ⊥) → fin.contains new t ≡ fin.contains marked t
  pub sound : fin.contains new place ≡ true → P z
  pub complete : P z → fin.contains new place ≡ true

-- a place of a set was written, or came to the set
pub marked_set : (within within' marked new : fin.FinSet nat_cmp) (rest : List ℤ) (place : ℕ) (z : ℤ) (P : ℤ → Type 0)
    → AreMarked within marked rest P → place < length rest
    → fin.contains within' place ≡ true → ((t : ℕ) → (t ≡ place → ⊥) → fin.contains within' t ≡ fin.contains within t)
    → Marks marked new place z P → AreMarked within' new (set rest place z) P
marked_set within within' marked new rest place z P old h here others m =
    record {
      sound = λ t k. elim (cases_eq t place) as (λ _. (fin.contains within' t ≡ true) × P (weight_at (set rest place z) t)) [
        | inl e ↦ (
          ap (λ (x : ℕ). fin.contains within' x) e ∙ here,
          subst (λ (x : ℕ). P (weight_at (set rest place z) x)) (sym e) (subst P (sym at) (m.sound (ap (λ (x : ℕ). fin.contains new x) (sym e) ∙ k))),
        )
        | inr ne ↦
            let was = old.sound t (sym (m.other t ne) ∙ k) in
            (others t ne ∙ was.0, subst P (sym (get_or-set_other rest place t z (pos 0) ne)) was.1)
      ];
      complete = λ t k p. elim (cases_eq t place) as (λ _. fin.contains new t ≡ true) [
        | inl e ↦ ap (λ (x : ℕ). fin.contains new x) e ∙ m.complete (subst P at (subst (λ (x : ℕ). P (weight_at (set rest place z) x)) e p))
        | inr ne ↦ m.other t ne ∙ old.complete t (sym (others t ne) ∙ k) (subst P (get_or-set_other rest place t z (pos 0) ne) p)
      ];
    }
  where
    at : weight_at (set rest place z) place ≡ z
    at = get_or-set_same rest place z (pos 0) h

pub marked_none : (within marked : fin.FinSet nat_cmp) (rest : List ℤ) (P : ℤ → Type 0) → within ≡ fin.empty → marked ≡ fin.empty
    → AreMarked within marked rest P
marked_none within marked rest P e f =
    record {
      sound = λ t k. clash _ k (ap (λ s. fin.contains s t) f ∙ contains-empty t);
      complete = λ t k p. clash _ k (ap (λ s. fin.contains s t) e ∙ contains-empty t);
    }

-- two places of a set were written, one after the other
pub marked_twice : (within marked first new : fin.FinSet nat_cmp) (rest : List ℤ) (a b : ℕ) (y z : ℤ) (P : ℤ → Type 0)
    → AreMarked within marked rest P → a < length rest → b < length rest → fin.contains within a ≡ true → fin.contains within b ≡ true
    → Marks marked first a y P → Marks first new b z P → AreMarked within new (set (set rest a y) b z) P
marked_twice within marked first new rest a b y z P old ha hb ina inb m k =
    marked_set within within first new (set rest a y) b z P
    (marked_set within within marked first rest a y P old ha ina (λ t ne. refl) m)
    (subst (λ (n : ℕ). b < n) (sym (length-set rest a y)) hb) inb (λ t ne. refl) k
