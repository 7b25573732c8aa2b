-- A dependency graph made of transactions and pairs.
use Rattle.std.specs.Prelude.{◌≡◌, ◌↔◌, ℕ, ℤ, pos, ◌<◌, true, nat_lt, List, length, slice_index_or}
use Rattle.fee_rate.specs.declared.rates.FeeRate.{FeeRate}
use Rattle.graphs.specs.Certificates.{Txs}
use Rattle.graphs.specs.Closures.{Closure, is_member, is_ancestor, rate_of}
use Rattle.graphs.specs.Graphs.{IsAncestor}

-- the transaction at a position
abbrev pub tx_at : Txs → ℕ → ℕ × ℤ × ℕ
tx_at txs p = slice_index_or txs p (0, pos 0, 0)

-- its fee and size
abbrev pub rate_at : Txs → ℕ → FeeRate
rate_at txs p = record { fee = (tx_at txs p).1; size = (tx_at txs p).2 }

-- The members are the first places, so many of them, each with fee and size of the transaction at that position. None depends on another.
pub record AreAlone (txs : Txs) (count : ℕ) (dep : Closure) : Type 0 where
  pub members : (p : ℕ) → is_member dep p ≡ nat_lt p count
  pub rates : (p : ℕ) → p < count → rate_of dep p ≡ rate_at txs p
  pub alone : (a d : ℕ) → (is_ancestor dep a d ≡ true) ↔ ((a ≡ d) × (a < count))

-- A dependency graph stands for transactions and pairs: its members are the first places, as many as there are transactions, each with
-- fee and size of its own, and one is above another where the pairs lead from the name of the one to that of the other.
pub record StandsFor (txs : Txs) (pairs : List (ℕ × ℕ)) (dep : Closure) : Type 0 where
  pub members : (p : ℕ) → is_member dep p ≡ nat_lt p (length txs)
  pub rates : (p : ℕ) → p < length txs → rate_of dep p ≡ rate_at txs p
  pub ancestors : (a d : ℕ) → a < length txs → d < length txs
      → (is_ancestor dep a d ≡ true) ↔ IsAncestor pairs (tx_at txs a).0 (tx_at txs d).0
