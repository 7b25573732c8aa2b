-- The key of an entry, and lists in the order of their keys. `key` says which key an item has.
use Rattle.std.specs.Prelude.{◌≡◌, ℕ, Bool, cond, List, [], ◌∷◌, ◌++◌, Option, None, Some}
use Rattle.std.specs.List.{filter, list_any, AllByRecursion}
use Rattle.std.specs.declared.cmp.Ordering.TheVariants.{Less}
use Rattle.std.specs.Ordering.{is_lt, is_eq, is_ne, is_gt, is_ge}
use Rattle.chunk_index.specs.declared.entry.Entry.{Entry}
use Rattle.chunk_index.specs.declared.key.Key.{Key}
use Rattle.chunk_index.specs.KeyOrder.{key_cmp}

-- all of an entry but the number of its record
abbrev pub key_of : Entry → Key
key_of e = record { rate = e.rate; serial = e.serial; position = e.position }

-- the number of the record of the entry of a key
unfoldable pub number_at : List Entry → Key → Option ℕ
number_at [] k = None
number_at (e ∷ es) k = cond (is_eq (key_cmp (key_of e) k)) (Some e.number) (number_at es k)

module _ {A : Type 0} (key : A → Key) where
  -- each item's key stands before the keys of all items behind it
  unfoldable pub IsInOrder : List A → Type 0
  IsInOrder [] = Unit {0}
  IsInOrder (x ∷ xs) = AllByRecursion (λ y. key_cmp (key x) (key y) ≡ Less) xs × IsInOrder xs

  -- whether an item has the key k
  unfoldable pub has_key : List A → Key → Bool
  has_key xs k = list_any (λ x. is_eq (key_cmp (key x) k)) xs

  -- the items whose keys stand before k, and those whose keys stand behind it
  unfoldable pub before : List A → Key → List A
  before xs k = filter (λ x. is_lt (key_cmp (key x) k)) xs

  unfoldable pub behind : List A → Key → List A
  behind xs k = filter (λ x. is_gt (key_cmp (key x) k)) xs

  -- the items whose keys don't stand before k
  unfoldable pub not_before : List A → Key → List A
  not_before xs k = filter (λ x. is_ge (key_cmp (key x) k)) xs

  -- x in its place: behind all items whose keys stand before its own, and before the others
  unfoldable pub put : List A → A → List A
  put xs x = before xs (key x) ++ x ∷ behind xs (key x)

  -- the items that don't have the key k
  unfoldable pub without : List A → Key → List A
  without xs k = filter (λ x. is_ne (key_cmp (key x) k)) xs
