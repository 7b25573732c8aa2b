-- A text at the first place of a byte.
use Rattle.std.proofs.Common.{◌≡◌, ◌≢◌, ℕ, suc, ◌+◌, ◌-◌, ◌<◌, ◌≤◌, List, ◌∷◌, ◌++◌, sym, ap, ◌∙◌, arith, length, get_or, take, drop, slice_index, true, eqb-true, eq-eqb, length-drop, drop-cons}
use Rattle.std.specs.Prelude.{All, ◌==◌}
use Rattle.std.proofs.Math.Seq.{take-length}
use Rattle.std.proofs.lemmas.List.{take-append-drop, length-take-le, get_or-take}
use Rattle.std.proofs.lemmas.List.Elements.{All-from_get_or}

pub byte_nowhere : (bytes : List ℕ) (byte : ℕ)
    → ((k : ℕ) → 0 ≤ k → k < length bytes → (slice_index bytes k == byte) ≡ true → ⊥) → All (λ other. other ≢ byte) bytes
byte_nowhere bytes byte none = All-from_get_or (λ other. other ≢ byte) bytes 0 (λ k below is. none k (omega arith) below (eq-eqb (get_or bytes k 0) byte is))

pub byte_after : (bytes : List ℕ) (byte at : ℕ) → at < length bytes
    → ((k : ℕ) → 0 ≤ k → k < at → (slice_index bytes k == byte) ≡ true → ⊥) → All (λ other. other ≢ byte) (take at bytes)
byte_after bytes byte at inside before = byte_nowhere (take at bytes) byte (λ k low below is.
    let small : k < at = omega (arith, length-take-le at bytes (omega arith)) in
    before k low small (eq-eqb (get_or bytes k 0) byte (sym (get_or-take at bytes k 0 small) ∙ eqb-true (get_or (take at bytes) k 0) byte is)))

pub cut_at : (bytes : List ℕ) (byte at : ℕ) → at < length bytes → (slice_index bytes at == byte) ≡ true
    → bytes ≡ take at bytes ++ byte ∷ take (length bytes - (at + 1)) (drop (at + 1) bytes)
cut_at bytes byte at inside here =
    let head : get_or bytes at 0 ≡ byte = eqb-true (get_or bytes at 0) byte here in
    let next : suc at ≡ at + 1 = omega arith in
    let rest = drop (at + 1) bytes in
    let whole : length bytes - (at + 1) ≡ length rest = sym (length-drop (at + 1) bytes) in
    let all : take (length bytes - (at + 1)) rest ≡ rest = ap (λ (n : ℕ). take n rest) whole ∙ take-length rest in
    let tail : drop (suc at) bytes ≡ take (length bytes - (at + 1)) rest = ap (λ (n : ℕ). drop n bytes) next ∙ sym all in
    sym (take-append-drop at bytes) ∙ ap (λ (xs : List ℕ). take at bytes ++ xs) (drop-cons bytes at 0 inside ∙ (λ i. head i ∷ tail i))
