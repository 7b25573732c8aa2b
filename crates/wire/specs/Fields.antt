-- Reading a field of a line: what is found is spelled so, and nothing is found only where no value is.
use Rattle.std.specs.Prelude.{◌≡◌, ◌≢◌, ℕ, ◌^◌, ◌<◌, ◌≤◌, ℤ, unsigned_abs, List, ◌++◌, ◌∷◌, All, Option, None, Some, decimal}
use Rattle.graph_model.specs.Words.{spaced}
use Rattle.graph_model.specs.Commands.{defer_words}
use Rattle.wire.specs.declared.field.Deferrable.{Deferrable}

-- A spelling gives each value one text. Fits tells the values that have one.
abbrev pub ReadsAs : {V : Type 0} → (V → List ℕ) → (V → Type 0) → List ℕ → Option V → Type 0
ReadsAs spelling Fits text None = (value : _) → Fits value → text ≡ spelling value → ⊥
ReadsAs spelling Fits text (Some value) = Fits value × (text ≡ spelling value)

-- numbers of 64 bits
abbrev pub IsWide : ℕ → Type 0
IsWide n = n < 2 ^ 64

-- what certificates have beside names and sizes: numbers of at most 10^30, amounts of 1 or more, and fees
abbrev pub IsBig : ℕ → Type 0
IsBig n = n ≤ 10 ^ 30

abbrev pub IsAmount : ℕ → Type 0
IsAmount n = (1 ≤ n) × IsBig n

abbrev pub IsBigFee : ℤ → Type 0
IsBigFee fee = IsBig (unsigned_abs fee)

-- two fields with a space between them
abbrev pub pair_spelling : {A B : Type 0} → (A → List ℕ) → (B → List ℕ) → A × B → List ℕ
pair_spelling first second pair = first pair.0 ++ 32 ∷ second pair.1

abbrev pub BothFit : {A B : Type 0} → (A → Type 0) → (B → Type 0) → A × B → Type 0
BothFit First Second pair = First pair.0 × Second pair.1

-- a number, and behind a space the word `defer` where it stands there
abbrev pub deferrable_text : Deferrable → List ℕ
deferrable_text field = spaced (decimal field.n ∷ defer_words field.defer)

abbrev pub IsDeferrable : Deferrable → Type 0
IsDeferrable field = IsWide field.n

-- no byte is a space
abbrev pub IsOneWord : List ℕ → Type 0
IsOneWord bytes = All (λ byte. byte ≢ 32) bytes

abbrev pub Always : {V : Type 0} → V → Type 0
Always value = Unit {0}
