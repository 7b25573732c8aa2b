-- Which names are live, where the table of names changes.
use Rattle.std.proofs.Common.{◌≡◌, ◌≢◌, ◌⊎◌, ◌↔◌, ℕ, ◌+◌, ◌-◌, not, ◌&&◌, ◌||◌, cond, nat_eq, true, sym, ap, subst, ◌∙◌, inl, inr, true≢false, arith}
use Rattle.std.specs.Ordering.{nat_cmp}
use Rattle.std.specs.Cmp.{nat_cmp_total, unsigned_tied}
use Rattle.std.specs.FinSet as set
use Rattle.std.proofs.lemmas.Bool.{false_from_ne_true}
use Rattle.std.proofs.lemmas.Bool.Decides.{eqb_tells}
use Rattle.name_book.specs.Books.{Table, IsNamed}

pub named-same : (old new : Table) → new.names ≡ old.names → (x : ℕ) → IsNamed old x → IsNamed new x
named-same old new names x = subst (λ (s : set.FinSet nat_cmp). set.contains s x ≡ true) (sym names)

pub none-named : (table : Table) → table.names ≡ set.empty → (x : ℕ) → IsNamed table x → ⊥
none-named table none x named =
    true≢false (sym named ∙ ap (λ (s : set.FinSet nat_cmp). set.contains s x) none ∙ set.contains-empty nat_cmp x)

module _ (old new : Table) (id : ℕ) where
  module _ (names : new.names ≡ set.insert old.names id) where
    more : (x : ℕ) → set.contains new.names x ≡ (nat_eq x id || set.contains old.names x)
    more x =
        ap (λ (s : set.FinSet nat_cmp). set.contains s x) names ∙ set.contains-insert nat_cmp_total old.names id x
        ∙ ap (λ b. b || set.contains old.names x) (unsigned_tied x id)

    pub named-more : (x : ℕ) → IsNamed new x ↔ (IsNamed old x ⊎ (x ≡ id))
    named-more x = elim (eqb_tells x id) [
      | inl same ↦ (λ _. inr same.1, λ _. more x ∙ ap (λ b. b || set.contains old.names x) same.0)
      | inr other ↦
          let is : set.contains new.names x ≡ set.contains old.names x = more x ∙ ap (λ b. b || set.contains old.names x) other.0 in
          (λ named. inl (sym is ∙ named), λ h. elim h [ inl named ↦ is ∙ named | inr same ↦ absurd (other.1 same) ])
    ]

    pub len-more : (IsNamed old id → ⊥) → set.len new.names ≡ set.len old.names + 1
    len-more absent =
        ap (λ (s : set.FinSet nat_cmp). set.len s) names ∙ set.len-insert nat_cmp_total old.names id
        ∙ ap (λ b. cond b (set.len old.names) (set.len old.names + 1)) (false_from_ne_true (set.contains old.names id) absent)

  module _ (names : new.names ≡ set.remove old.names id) where
    less : (x : ℕ) → set.contains new.names x ≡ (not (nat_eq x id) && set.contains old.names x)
    less x =
        ap (λ (s : set.FinSet nat_cmp). set.contains s x) names ∙ set.contains-remove nat_cmp_total old.names id x
        ∙ ap (λ b. not b && set.contains old.names x) (unsigned_tied x id)

    pub named-less : (x : ℕ) → IsNamed new x ↔ (IsNamed old x × (x ≢ id))
    named-less x = elim (eqb_tells x id) [
      | inl same ↦
          (λ named. absurd (true≢false (sym named ∙ less x ∙ ap (λ b. not b && set.contains old.names x) same.0)), λ h. absurd (h.1 same.1))
      | inr other ↦
          let is : set.contains new.names x ≡ set.contains old.names x = less x ∙ ap (λ b. not b && set.contains old.names x) other.0 in
          (λ named. (sym is ∙ named, other.1), λ h. is ∙ h.0)
    ]

    pub len-less : IsNamed old id → set.len new.names + 1 ≡ set.len old.names
    len-less live =
        let len : set.len new.names ≡ set.len old.names - 1 =
        ap (λ (s : set.FinSet nat_cmp). set.len s) names ∙ set.len-remove nat_cmp_total old.names id
        ∙ ap (λ b. cond b (set.len old.names - 1) (set.len old.names)) live in
        let some : set.len old.names ≢ 0 = λ none.
        true≢false (sym live ∙ ap (λ t. set.contains t id) (set.empty_of_len old.names none) ∙ set.contains-empty nat_cmp id) in
        omega (arith, len, some)
