-- Places that are found, one list behind another.
use Rattle.std.proofs.Common.{◌≡◌, ℕ, List, [], ◌++◌, inl, inr, sym, ap, ◌∙◌, subst, append_assoc}
use Rattle.std.specs.Prelude.{Contains}
use Rattle.std.proofs.lemmas.List.Elements.{Contains-append_cases}
use Rattle.links.specs.Walkers.{Finds}

-- found behind what was found
pub finds_both : (P Q : ℕ → Type 0) (old mid new : List ℕ) → ((x : ℕ) → Q x → P x) → Finds P old mid → Finds Q mid new → Finds P old new
finds_both P Q old mid new more one two = record {
  more = one.more ++ two.more;
  is = two.is ∙ ap (λ (l : List ℕ). l ++ two.more) one.is ∙ append_assoc old one.more two.more;
  each = λ x here. elim (Contains-append_cases one.more two.more x here) [ inl first ↦ one.each x first | inr second ↦ more x (two.each x second) ];
}

pub finds_more : (P : ℕ → Type 0) (old mid new : List ℕ) (place : ℕ) → P place → Finds P old mid → Finds (λ other. other ≡ place) mid new → Finds P old new
finds_more P old mid new place is one two = finds_both P (λ other. other ≡ place) old mid new (λ x same. subst P (sym same) is) one two

-- behind nothing only one place was found
pub only_one : (place : ℕ) (new : List ℕ) → Finds (λ other. other ≡ place) [] new → (x : ℕ) → Contains new x → x ≡ place
only_one place new finds x here = finds.each x (subst (λ (l : List ℕ). Contains l x) finds.is here)
