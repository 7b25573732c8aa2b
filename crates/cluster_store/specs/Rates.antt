-- The fees and sizes of parts, as an index has them.
use Rattle.std.specs.Prelude.{◌≡◌, ◌⊎◌, ◌+◌, ◌≤◌, ◌≤ℤ◌, ℕ, ℤ, pos, List, [], ◌∷◌, ◌++◌, map, Option, None, Some, refl}
use Rattle.std.specs.Coded.{Coded, code_by, coded×, coded_ℕ, coded_ℤ}
use Rattle.fee_rate.specs.declared.rates.Sum.{Sum}
use Rattle.graphs.specs.Rates.{sum_of}
use Rattle.linearize.specs.Graphs.{sum_from}
use Rattle.chunk_index.specs.declared.entry.Entry.{Entry}

-- a fee and a size, as numbers
abbrev pub rate_code : Coded Sum
rate_code = code_by (ℤ × ℕ) (coded× coded_ℤ coded_ℕ) (λ r. (r.fee, r.size)) (λ p. record { fee = p.0; size = p.1 }) (λ _. refl)

-- the fee and the size of the part that an entry stands for
abbrev pub entry_rate : Entry → Sum
entry_rate e = sum_from e.rate

-- the rates that a walk over entries, where there is one, still has to give
abbrev pub rates_left : Option (List Entry) → List Sum
rates_left None = []
rates_left (Some entries) = map entry_rate entries

-- there are no parts, or the last one has a fee of at least 0
abbrev pub EndPaid : List Sum → Type 0
EndPaid parts = (parts ≡ []) ⊎ ((front : List Sum) × (last : Sum) × (parts ≡ front ++ last ∷ []) × (pos 0 ≤ℤ last.fee))

-- Parts at the end of a list: what stands before them ends with a fee of at least 0, or together they are at least so large.
pub record IsTail (size : ℕ) (all tail : List Sum) : Type 0 where
  pub upper : List Sum
  pub is : all ≡ upper ++ tail
  pub enough : EndPaid upper ⊎ (size ≤ (sum_of tail).size)

-- ---- where such parts begin

abbrev pub StartsWith : Option Entry → List Entry → Type 0
StartsWith None tail = tail ≡ []
StartsWith (Some first) tail = (rest : List Entry) × (tail ≡ first ∷ rest)

-- Entries taken from the end of a list: the first of them, where there is one, and what their sizes lack of a bound.
pub record AreTaken (size short : ℕ) (all left : List Entry) (first : Option Entry) : Type 0 where
  pub tail : List Entry
  pub is : all ≡ left ++ tail
  pub starts : StartsWith first tail
  pub sizes : size ≤ short + (sum_of (map entry_rate tail)).size

-- Entries at the end of a list, the first of which is given, are such a tail.
pub record IsFirstOfTail (size : ℕ) (all : List Entry) (first : Option Entry) : Type 0 where
  pub upper : List Entry
  pub tail : List Entry
  pub is : all ≡ upper ++ tail
  pub starts : StartsWith first tail
  pub enough : EndPaid (map entry_rate upper) ⊎ (size ≤ (sum_of (map entry_rate tail)).size)
