-- A line that is written in pieces.
use Rattle.std.specs.Prelude.{◌≡◌, ℕ, List, [], ◌∷◌, decimal, Option, None, Some, Ok, Err, Result, flat_map}
use Rattle.std.specs.Fmt.{signed_decimal}
use Rattle.fee_rate.specs.declared.rates.Sum.{Sum}
use Rattle.outside.specs.Transfers.{Writes}

-- the next piece is written where all so far was, and else nothing happens
abbrev pub GoesOn : {T E : Type 0} → Result T E → Option (List ℕ) → Option (List ℕ) → ℕ → ℕ → Result T E → List ℕ → Type 0
GoesOn (Ok done) old new before now result piece = Writes old new before now result piece
GoesOn (Err error) old new before now result piece = (result ≡ Err error) × (new ≡ old) × (now ≡ before)

-- a number after a space, where there is one
abbrev pub number_after : Option ℕ → List ℕ
number_after None = []
number_after (Some n) = 32 ∷ decimal n

-- words, each after a space
abbrev pub words_text : List (List ℕ) → List ℕ
words_text words = flat_map (λ word. 32 ∷ word) words

-- the words of sums, where there are some: the fee, then the size
abbrev pub sum_words : Option Sum → List (List ℕ)
sum_words None = []
sum_words (Some sums) = signed_decimal sums.fee ∷ decimal sums.size ∷ []
