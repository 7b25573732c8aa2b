-- What a contract sees of a block.
use Rattle.std.specs.Prelude.{ℕ, List, refl}
use Rattle.std.specs.Coded.{Coded, code_by, coded×, coded_list, coded_ℕ}

-- the items, and how many there is room for
pub record Chunk (S : Type 0) : Type 0 where
  pub items : List S
  pub capacity : ℕ

module _ {S : Type 0} where
  abbrev pub chunk : List S → ℕ → Chunk S
  chunk items capacity = record { items = items; capacity = capacity }

  -- a chunk is stored as the pair of its fields
  abbrev pub chunk_code : Coded S → Coded (Chunk S)
  chunk_code c = code_by (List S × ℕ) (coded× (coded_list c) coded_ℕ) (λ b. (b.items, b.capacity)) (λ p. chunk p.0 p.1) (λ _. refl)
