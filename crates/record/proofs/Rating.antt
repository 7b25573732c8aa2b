-- The fee and the size of a name of links, by its place.
use Rattle.std.proofs.Common.{rules, ◌≡◌, ◌<◌, ℕ, ℤ, List, length, ◌*◌, ◌≤◌, slice_index, slice_index_or, pos, sym, ap, ◌∙◌, subst, SFits, to_z, of_z}
use Rattle.std.specs.Prelude.{Contains, sum_by}
use Rattle.std.specs.Int.{w64}
use Rattle.std.proofs.lemmas.Int.{to_z-of_z}
use Rattle.std.proofs.lemmas.List.{length-map, get_or-map}
use Rattle.std.proofs.lemmas.List.Elements.{Contains-get_or}
use Rattle.graphs.proofs.RenamingLemmas.{sum_by-map}
use Rattle.arithmetic.proofs.Sums.{sum_by_within}
use Rattle.fee_rate.specs.declared.limits.TheConstants.{MAX_SIZE}
use Rattle.fee_rate.specs.Limits.{IsFee}
use Rattle.fee_rate.specs.declared.rates.FeeRate.{FeeRate}
use Rattle.graphs.specs.Certificates.{Txs}
use Rattle.graphs.specs.Closures.{rate_of}
use Rattle.cluster.specs.Clusters.{Cluster}
use Rattle.links.specs.Links.{Links, AreInRange, AreLinks}
use Rattle.links.specs.Kept.{names_of}
use Rattle.links.specs.Closing.{closure}
use Rattle.links.proofs.Closed.{rates_are}
use Rattle.record.specs.Kept.{unordered}

abbrev pub no_tx : ℕ × ℤ × ℕ
no_tx = (0, pos 0, 0)

fee_fits : (fee : ℤ) → IsFee fee → SFits w64 fee
fee_fits fee small = search rules

module _ (links : Links) (are : AreLinks links) (s : Cluster) (is : unordered links ≡ s) (txs : Txs) (txs_are : txs ≡ links.txs) (at : ℕ)
    (low : at < length s.names) where
  names : s.names ≡ names_of txs
  names = sym (ap (λ (c : Cluster). c.names) is) ∙ ap (λ (xs : Txs). names_of xs) (sym txs_are)

  below : at < length txs
  below = subst (λ n. at < n) (ap (λ (xs : List ℕ). length xs) names ∙ length-map txs (λ (tx : ℕ × ℤ × ℕ). tx.0)) low

  abbrev tx : ℕ × ℤ × ℕ
  tx = slice_index_or txs at no_tx

  here : Contains {X = ℕ × ℤ × ℕ} links.txs tx
  here = subst (λ (xs : Txs). Contains {X = ℕ × ℤ × ℕ} xs tx) txs_are (Contains-get_or txs at no_tx below)

  name : slice_index s.names at ≡ tx.0
  name = ap (λ (xs : List ℕ). slice_index xs at) names ∙ get_or-map (λ (t : ℕ × ℤ × ℕ). t.0) txs at no_tx 0 below

  pub tx_rate : record { fee = to_z w64 (of_z w64 tx.1); size = tx.2 } ≡ rate_of s.graph (slice_index s.names at)
  tx_rate =
      ap (λ (fee : ℤ). record { fee = fee; size = tx.2 }) (to_z-of_z w64 tx.1 (fee_fits tx.1 (are.in_range tx.0 tx.1 tx.2 here).0))
      ∙ sym (rates_are links are tx.0 tx.1 tx.2 here) ∙ ap (λ (id : ℕ). rate_of (closure links) id) (sym name)
      ∙ ap (λ (c : Cluster). rate_of c.graph (slice_index s.names at)) is

-- sizes are small, and so are sums of them
pub sum_small : (txs : Txs) → AreInRange txs → sum_by (λ (tx : ℕ × ℤ × ℕ). tx.2) txs ≤ MAX_SIZE * length txs
sum_small txs in_range = sum_by_within (λ (tx : ℕ × ℤ × ℕ). tx.2) MAX_SIZE txs (λ tx here. (in_range tx.0 tx.1 tx.2 here).1.1)

-- the total size of links is that of their names
pub size_told : (links : Links) → AreLinks links → (s : Cluster) → unordered links ≡ s
    → sum_by (λ (tx : ℕ × ℤ × ℕ). tx.2) links.txs ≡ sum_by (λ id. (rate_of s.graph id).size) s.names
size_told links are s is =
    sym (sum_by-map (λ (tx : ℕ × ℤ × ℕ). tx.0) (λ id. (rate_of (closure links) id).size) (λ (tx : ℕ × ℤ × ℕ). tx.2) links.txs
    (λ tx here. ap (λ (r : FeeRate). r.size) (rates_are links are tx.0 tx.1 tx.2 here)))
    ∙ ap (λ (c : Cluster). sum_by (λ id. (rate_of c.graph id).size) c.names) is
