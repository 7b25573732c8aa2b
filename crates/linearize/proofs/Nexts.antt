-- What a test of some members that may come next tells.
use Rattle.std.proofs.Common.{◌≡◌, ℕ, ◌<◌, Bool, true, false, not, Option, None, Some, ap, ◌∙◌, arith}
use Rattle.std.specs.Option.{MatchOption, is_some}
use Rattle.std.specs.Ordering.{nat_cmp}
use Rattle.std.specs.Cmp.{nat_cmp_total}
use Rattle.std.specs.FinSet as fin
use Rattle.lists.proofs.Keys.{set_drop}
use Rattle.bitset.specs.Places.{IsLeast, IsWithin}

-- each place of a set is in one that it is a subset of
pub inside : (s t : fin.FinSet nat_cmp) → fin.is_subset s t ≡ true → (k : ℕ) → fin.contains s k ≡ true → fin.contains t k ≡ true
inside s t e k m = fin.is_subset-contains nat_cmp_total s t e k m

-- a set with a least place has one
pub some_of : (n : ℕ) (s : fin.FinSet nat_cmp) (least : Option ℕ) (none : Bool) → IsWithin n s → MatchOption least (s ≡ fin.empty) (IsLeast s)
    → is_some least ≡ not none → none ≡ false → 0 < fin.len s
some_of n s None none within h is false_ = absurd (let e : false ≡ true = is ∙ ap not false_ in cc)
some_of n s (Some p) none within h is false_ = let one = set_drop s p h.member in omega (arith, one)

-- what holds where nothing was answered
pub when_none : {X : Type 0} (r : Option X) (none : Bool) (P : Type 0) (Q : X → Type 0) → MatchOption r P Q → is_some r ≡ not none → none ≡ true → P
when_none None none P Q h is true_ = h
when_none (Some x) none P Q h is true_ = absurd (let e : true ≡ false = is ∙ ap not true_ in cc)
