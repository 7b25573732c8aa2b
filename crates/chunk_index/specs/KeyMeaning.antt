-- What the order of keys is, in words of rates: the entry of the higher rate stands first, among equal rates that of the lower serial, then
-- of the lower position, then of the lower size. The key's order tells apart all that it compares.
use Rattle.std.specs.Prelude.{◌≡◌, ◌<◌, ◌⊎◌, max}
use Rattle.std.specs.declared.cmp.Ordering.{Ordering}
use Rattle.std.specs.declared.cmp.Ordering.TheVariants.{Less, Equal, Greater}
use Rattle.fee_rate.specs.declared.rates.Sum.{Sum}
use Rattle.fee_rate.specs.Rates.{Below, Same}
use Rattle.chunk_index.specs.declared.entry.Entry.{Entry}
use Rattle.chunk_index.specs.KeyOrder.{key_cmp}
use Rattle.chunk_index.specs.Keys.{key_of}

-- fee and size of an entry, a size of 0 as 1
abbrev pub sum_of : Entry → Sum
sum_of e = record { fee = e.rate.fee; size = max 1 e.rate.size }

abbrev pub StandsBefore : Entry → Entry → Type 0
StandsBefore a b =
    Below (sum_of b) (sum_of a)
    ⊎ (Same (sum_of a) (sum_of b)
    × ((a.serial < b.serial)
    ⊎ ((a.serial ≡ b.serial)
    × ((a.position < b.position)
    ⊎ ((a.position ≡ b.position) × (a.rate.size < b.rate.size))))))

-- an answer says which of two entries stands first; Equal exactly where they have one key
abbrev pub ComparesKeys : Entry → Entry → Ordering → Type 0
ComparesKeys a b Less = StandsBefore a b
ComparesKeys a b Equal = key_of a ≡ key_of b
ComparesKeys a b Greater = StandsBefore b a

-- the order of keys is that, and it is strict
pub record IsKeyOrder : Type 0 where
  pub compares : (a b : Entry) → ComparesKeys a b (key_cmp (key_of a) (key_of b))
  pub irreflexive : (a : Entry) → StandsBefore a a → ⊥
  pub chains : (a b c : Entry) → StandsBefore a b → StandsBefore b c → StandsBefore a c
