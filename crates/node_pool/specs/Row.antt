-- What a contract sees of a row of items that can grow.
use Rattle.std.specs.Prelude.{ℕ, ◌+◌, ◌*◌, ◌-◌, ◌^◌, min, List, slice_set, refl}
use Rattle.std.specs.Coded.{Coded, code_by, coded×, coded_list, coded_ℕ}

-- the items, how many slots there is room for in all, and how many items each slot has
pub record Row (S : Type 0) : Type 0 where
  pub items : List S
  pub room : ℕ
  pub width : ℕ

module _ {S : Type 0} where
  abbrev pub row : List S → ℕ → ℕ → Row S
  row items room width = record { items = items; room = room; width = width }

  -- a row is stored as the tuple of its fields
  abbrev pub row_code : Coded S → Coded (Row S)
  row_code c =
      code_by (List S × (ℕ × ℕ)) (coded× (coded_list c) (coded× coded_ℕ coded_ℕ)) (λ r. (r.items, (r.room, r.width)))
      (λ p. row p.0 p.1.0 p.1.1) (λ _. refl)

  -- the row with the item at the index replaced
  abbrev pub with_item : Row S → ℕ → S → Row S
  with_item r index item = row (slice_set r.items index item) r.room r.width

-- how many slots there is room for after growth from this many
abbrev pub grown : ℕ → ℕ
grown room = min (2 * room + 1) (2 ^ 32 - 1)
