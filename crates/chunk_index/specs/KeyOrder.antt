-- The order of keys, as one comparison. Rates are compared by exact products, as in Bitcoin Core's `FeeFrac`; a size of 0 counts
-- as 1, so that the order's laws hold of all numbers.
use Rattle.std.specs.Prelude.{pos, ◌*ℤ◌, max}
use Rattle.std.specs.declared.cmp.Ordering.{Ordering}
use Rattle.std.specs.Ordering.{nat_cmp, int_cmp, on, then_cmp}
use Rattle.fee_rate.specs.declared.rates.FeeRate.{FeeRate}
use Rattle.chunk_index.specs.declared.key.Key.{Key}

-- the higher rate first
abbrev pub rate_cmp : FeeRate → FeeRate → Ordering
rate_cmp a b = int_cmp (b.fee *ℤ pos (max 1 a.size)) (a.fee *ℤ pos (max 1 b.size))

abbrev pub by_rate : Key → Key → Ordering
by_rate = on (λ (k : Key). k.rate) rate_cmp

abbrev pub by_serial : Key → Key → Ordering
by_serial = on (λ (k : Key). k.serial) nat_cmp

abbrev pub by_position : Key → Key → Ordering
by_position = on (λ (k : Key). k.position) nat_cmp

abbrev pub by_size : Key → Key → Ordering
by_size = on (λ (k : Key). k.rate.size) nat_cmp

-- falling rate, then rising serial, position and size
unfoldable pub key_cmp : Key → Key → Ordering
key_cmp = then_cmp (then_cmp (then_cmp by_rate by_serial) by_position) by_size
