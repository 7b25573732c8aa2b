-- Numbers as text.
use Rattle.std.specs.Prelude.{◌≡◌, ℕ, ◌+◌, ◌-◌, ◌*◌, ◌<◌, true, List, [], ◌∷◌, length, slice_index, Option, None, Some}
use Rattle.std.specs.Str.{all_ascii_digits}

-- the value of digits, read from the left on from n

abbrev pub read_on : ℕ → List ℕ → ℕ
read_on n [] = n
read_on n (digit ∷ digits) = read_on (10 * n + (digit - 48)) digits

-- a text has a byte, and no zero before another
abbrev pub IsPlain : List ℕ → Type 0
IsPlain bytes = (0 < length bytes) × (slice_index bytes 0 ≡ 48 → length bytes ≡ 1)

-- this number in a type, where it is below the limit
abbrev pub GivesBelow : {N : Type 0} → (N → ℕ) → ℕ → ℕ → Option N → Type 0
GivesBelow value limit n None = n < limit → ⊥
GivesBelow value limit n (Some number) = (n < limit) × (value number ≡ n)

-- the value of a text of digits, and nothing where it is no such text or its value isn't below the limit
abbrev pub ReadsDigits : {N : Type 0} → (N → ℕ) → ℕ → List ℕ → Option N → Type 0
ReadsDigits value limit bytes None = all_ascii_digits bytes ≡ true → read_on 0 bytes < limit → ⊥
ReadsDigits value limit bytes (Some number) =
    (all_ascii_digits bytes ≡ true) × (value number ≡ read_on 0 bytes) × (value number < limit)
