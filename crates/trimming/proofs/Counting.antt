-- Counts of parents that are kept.
use Rattle.std.proofs.Common.{◌≡◌, ℕ, ◌<◌, ◌≤◌, Bool, true, List, [], ◌∷◌, length, set, get_or, inl, inr, sym, ap, ◌∙◌, subst, arith, eqb, eq-eqb, ne_eqb, true≢false}
use Rattle.std.specs.Prelude.{Contains}
use Rattle.std.proofs.lemmas.Bool.{cases_eq}
use Rattle.std.proofs.lemmas.List.{length-set, get_or-set_same, get_or-set_other, get_or_default}
use Rattle.lists.proofs.Entries.{Contains-head, none_in_empty}
use Rattle.links.specs.Walkers.{mark_at}
use Rattle.trimming.specs.declared.net.Net.{Net}
use Rattle.trimming.specs.Nets.{list_at}
use Rattle.trimming.specs.Counts.{ArePassed, HasAllKept}

-- one count goes on
pub passed_more : (net : Net) (kept : List Bool) (passed : List ℕ) (place count : ℕ) → ArePassed net kept passed → place < length net.txs.items
    → count ≤ length (list_at net.parents.items place)
    → ((k : ℕ) → k < count → mark_at kept (get_or (list_at net.parents.items place) k 0) ≡ true)
    → ArePassed net kept (set passed place count)
passed_more net kept passed place count p low few are =
    let sized = p.sized in
    let new : get_or (set passed place count) place 0 ≡ count = get_or-set_same passed place count 0 (omega (arith, sized, low)) in
    record {
      sized = length-set passed place count ∙ p.sized;
      few = λ q below. elim (cases_eq q place) [
        | inl same ↦ subst (λ (z : ℕ). get_or (set passed place count) z 0 ≤ length (list_at net.parents.items z)) (sym same) (omega (arith, new, few))
        | inr other ↦ subst (λ (n : ℕ). n ≤ length (list_at net.parents.items q)) (sym (get_or-set_other passed place q count 0 other)) (p.few q below)
      ];
      are = λ q k below early. elim (cases_eq q place) [
        | inl same ↦
            let before : k < count = omega (arith, early, ap (λ (z : ℕ). get_or (set passed place count) z 0) same, new) in
            subst (λ (z : ℕ). mark_at kept (get_or (list_at net.parents.items z) k 0) ≡ true) (sym same) (are k before)
        | inr other ↦ p.are q k below (subst (λ (n : ℕ). k < n) (get_or-set_other passed place q count 0 other) early)
      ];
    }

-- all parents are kept where the count has come to the end
pub all_kept : (net : Net) (kept : List Bool) (place count : ℕ) → ((k : ℕ) → k < count → mark_at kept (get_or (list_at net.parents.items place) k 0) ≡ true)
    → count ≡ length (list_at net.parents.items place) → HasAllKept net kept place
all_kept net kept place count are end a (k, low, at) =
    let list = list_at net.parents.items place in
    subst (λ (q : ℕ). mark_at kept q ≡ true) (get_or_default list k 0 a low ∙ at) (are k (omega (arith, low, end)))

-- a list without entries
pub empty_told : (n : ℕ) (list : List ℕ) (told : Bool) → n ≡ length list → told ≡ eqb n 0
    → (told ≡ true → (a : ℕ) → Contains list a → ⊥) × (((a : ℕ) → Contains list a → ⊥) → told ≡ true)
empty_told n [] told long is = (
  λ _ a here. none_in_empty a here,
  λ none. is ∙ eq-eqb n 0 long,
)
empty_told n (x ∷ xs) told long is = (
  λ yes a here. true≢false (sym yes ∙ is ∙ ne_eqb n 0 (λ zero. omega (arith, zero, long))),
  λ none. absurd (none x (Contains-head x xs)),
)
