-- Transactions of which one name has another fee.
use Rattle.std.proofs.Common.{SFits, w64, to_z, of_z, ◌≡◌, ℕ, ℤ, Bool, true, false, [], ◌∷◌, map, refl, ap, subst}
use Rattle.std.specs.Prelude.{◌==◌, if◌then◌else◌}
use Rattle.std.proofs.lemmas.Int.{to_z-of_z}
use Rattle.lists.proofs.Entries.{map-Contains}
use Rattle.fee_rate.specs.Limits.{IsFee, IsSize}
use Rattle.graphs.specs.Certificates.{Txs}
use Rattle.links.specs.Links.{AreInRange}
use Rattle.links.specs.Kept.{names_of}
use Rattle.links.specs.Pricing.{priced}

pub priced_names : (id : ℕ) (fee : ℤ) (txs : Txs) → names_of (map (priced id fee) txs) ≡ names_of txs
priced_names id fee [] = refl
priced_names id fee (tx ∷ txs) = ap (λ ns. tx.0 ∷ ns) (priced_names id fee txs)

-- one of two fees within the limits
either_fee : (b : Bool) (fee own : ℤ) → IsFee fee → IsFee own → IsFee (if b then fee else own)
either_fee true fee own first second = first
either_fee false fee own first second = second

pub priced_range : (id : ℕ) (fee : ℤ) (txs : Txs) → IsFee fee → AreInRange txs → AreInRange (map (priced id fee) txs)
priced_range id fee txs fine range q own size here =
    let (tx, there, is) = map-Contains (priced id fee) txs (q, own, size) here in
    let old = range tx.0 tx.1 tx.2 there in
    subst (λ (t : ℕ × ℤ × ℕ). IsFee t.1 × IsSize t.2) is (either_fee (tx.0 == id) fee tx.1 fine old.0, old.1)

-- a fee as its type keeps it is that fee
pub fee_read : (id : ℕ) (fee : ℤ) (txs : Txs) → SFits w64 fee → map (priced id (to_z w64 (of_z w64 fee))) txs ≡ map (priced id fee) txs
fee_read id fee txs fits = ap (λ (z : ℤ). map (priced id z) txs) (to_z-of_z w64 fee fits)
