-- What a source over memory gives, and what is left behind it.
use Rattle.std.proofs.Common.{◌≡◌, ℕ, ◌+◌, ◌-◌, ◌≤◌, ◌<◌, List, ◌++◌, length, take, drop, min, sym, ap, ◌∙◌, arith, take-append-drop, inl, inr, Option, None, Some, IsSomeAnd}
use Rattle.std.proofs.lemmas.Bool.{cases_lt}
use Rattle.std.proofs.lemmas.List.{drop-drop}
use Rattle.outside.specs.Memory.{end_at}

-- what was copied stands before what is left
pub passed : (bytes new : List ℕ) (at n : ℕ) → take n new ≡ take n (drop at bytes) → drop at bytes ≡ take n new ++ drop (at + n) bytes
passed bytes new at n is = rw is (sym (ap (λ (xs : List ℕ). take n (drop at bytes) ++ xs) (sym (drop-drop n at bytes)) ∙ take-append-drop n (drop at bytes)))

-- with room in the buffer and a piece of at least one byte, nothing is given only at the end
pub at_end : (bytes : List ℕ) (at n room piece left : ℕ) (stop : Option ℕ) → (IsSomeAnd stop (λ s. s ≤ at) → ⊥) → left ≡ end_at stop bytes - at
    → n ≡ min room (min (min piece left) (length bytes - at)) → 0 < piece → 0 < room → n ≡ 0 → length bytes ≤ at + n
at_end bytes at n room piece left None before end is some has zero = omega arith
at_end bytes at n room piece left (Some s) before end is some has zero =
    let lt : at < s = elim (cases_lt at s) [ inl lt ↦ lt | inr le ↦ absurd (before le) ] in omega arith
