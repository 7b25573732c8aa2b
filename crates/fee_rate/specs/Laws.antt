-- Laws of the rate order. Sizes are at least 1 where a law says so.
use Rattle.std.specs.Prelude.{◌+◌, ◌≤◌, ◌⊎◌, ◌+ℤ◌}
use Rattle.fee_rate.specs.declared.rates.Sum.{Sum}
use Rattle.fee_rate.specs.Rates.{AtMost, Below, Before}

-- two sums joined
abbrev pub joined : Sum → Sum → Sum
joined a b = record { fee = a.fee +ℤ b.fee; size = a.size + b.size }

-- rates are ordered: any two compare, and where the middle size is at least 1, what is at most what is at most a third is at most it
pub record IsRateOrder : Type 0 where
  pub total : (a b : Sum) → AtMost a b ⊎ Below b a
  pub apart : (a b : Sum) → Below b a → AtMost a b → ⊥
  pub chains : (a b c : Sum) → 1 ≤ b.size → AtMost a b → AtMost b c → AtMost a c
  pub chains_below : (a b c : Sum) → 1 ≤ a.size → 1 ≤ b.size → AtMost a b → Below b c → Below a c
  pub chains_above : (a b c : Sum) → 1 ≤ b.size → 1 ≤ c.size → Below a b → AtMost b c → Below a c

-- the full order is one: nothing stands before itself, and what stands before something that stands before a third stands before it
pub record IsFullOrder : Type 0 where
  pub irreflexive : (a : Sum) → Before a a → ⊥
  pub chains : (a b c : Sum) → 1 ≤ a.size → 1 ≤ b.size → 1 ≤ c.size → Before a b → Before b c → Before a c

-- the rate of two sums joined lies between their rates
pub record LieBetween : Type 0 where
  pub above : (a b : Sum) → AtMost a b → AtMost a (joined a b)
  pub below : (a b : Sum) → AtMost a b → AtMost (joined a b) b
  pub strictly_above : (a b : Sum) → Below a b → Below a (joined a b)
  pub strictly_below : (a b : Sum) → Below a b → Below (joined a b) b
