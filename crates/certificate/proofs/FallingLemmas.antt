-- The third test, put together.
use Rattle.std.proofs.Common.{◌≡◌, ◌≢◌, ℕ, ◌+◌, ◌-◌, ◌<◌, ◌≤◌, zero, suc, List, [], ◌∷◌, length, refl, sym, ap, ◌∙◌, subst, arith, get_or, map, Option, pos}
use Rattle.std.specs.Prelude.{Contains}
use Rattle.std.proofs.lemmas.List.{get_or-map, length-map, length-append}
use Rattle.fee_rate.specs.declared.limits.TheConstants.{MAX_TOTAL}
use Rattle.fee_rate.proofs.Orders.{below_clash}
use Rattle.fee_rate.specs.declared.rates.Sum.{Sum}
use Rattle.fee_rate.specs.Limits.{IsSum}
use Rattle.fee_rate.specs.Rates.{AtMost, Below}
use Rattle.graphs.specs.Rates.{sums, Falls}
use Rattle.graphs.specs.Certificates.{Txs, rate_in, HasFalling}
use Rattle.graphs.specs.Certificates as model
use Rattle.certificate.specs.declared.owned.Part.{Part}
use Rattle.certificate.specs.Fallings.{rates_of, rate_at, AreSummed, AreRates}
use Rattle.certificate.specs.Parts.{part_of, parts_of, order_of, ids_at}
use Rattle.places.specs.Places.{ArePlaces}
use Rattle.certificate.specs.Tables.{names_of, AreInLimits}
use Rattle.certificate.proofs.PartLemmas.{ids_here, order_has, part_at, contains_part, some_part}
use Rattle.certificate.proofs.RateLemmas.{all_within, sums_in_range, sums_some, falls_by_position, position_by_falls}

pub rate_read : (parts : List Part) (k : ℕ) (d : Part) → k < length parts → rate_at parts k ≡ (get_or parts k d).rate
rate_read parts k d in' = get_or-map (λ (p : Part). p.rate) parts k d record { fee = pos 0; size = 0 } in'

pub part_length : (parts : List Part) (k : ℕ) → k < length parts → length (ids_at parts k) ≤ length (order_of parts)
part_length [] k in' = absurd (omega arith)
part_length (p ∷ parts) zero in' = omega (arith, length-append p.ids (order_of parts))
part_length (p ∷ parts) (suc k) in' = let more = part_length parts k (omega arith) in omega (arith, length-append p.ids (order_of parts))

pub rates_clash : (parts : List Part) (at : ℕ) → 1 ≤ at → at < length parts → Below (rate_at parts (at - 1)) (rate_at parts at) → Falls (rates_of parts) → ⊥
rates_clash parts at some in' less f =
    let e : (at - 1) + 1 ≡ at = omega arith in
    let long : (at - 1) + 1 < length (rates_of parts) = subst (λ n. (at - 1) + 1 < n) (sym (length-map parts (λ (p : Part). p.rate))) (omega arith) in
    below_clash (rate_at parts (at - 1)) (rate_at parts at) less
    (subst (λ n. AtMost (rate_at parts n) (rate_at parts (at - 1))) e (position_by_falls (rates_of parts) (at - 1) long f))

pub rates_fall : (parts : List Part) → ((k : ℕ) → k + 1 < length parts → AtMost (rate_at parts (k + 1)) (rate_at parts k)) → Falls (rates_of parts)
rates_fall parts h = falls_by_position (rates_of parts) (λ k less. h k (subst (λ n. k + 1 < n) (length-map parts (λ (p : Part). p.rate)) less))

-- ---- the whole test
rates_same : (parts : List Part) → map (λ (p : model.Part). p.rate) (parts_of parts) ≡ rates_of parts
rates_same [] = refl
rates_same (p ∷ parts) = ap (λ l. p.rate ∷ l) (rates_same parts)

pub sums_part : (txs : Txs) (parts : List Part) → HasFalling (rate_in txs) (parts_of parts) → AreSummed txs parts
sums_part txs parts h k in' =
    let (it, is) = some_part parts k in' in
    let ids = ids_here parts k it in' is in
    rate_read parts k it in' ∙ ap (λ (p : Part). p.rate) (sym is) ∙ h.summed (part_of it) (contains_part parts k it in' is) ∙ ap (sums (rate_in txs)) ids

pub falls_part : (txs : Txs) (parts : List Part) → HasFalling (rate_in txs) (parts_of parts) → Falls (rates_of parts)
falls_part txs parts h = subst Falls (rates_same parts) h.falling

pub has_falling : (txs : Txs) (parts : List Part) → AreSummed txs parts → Falls (rates_of parts) → HasFalling (rate_in txs) (parts_of parts)
has_falling txs parts s f = record {
  summed =
      λ part here.
      let at = part_at parts part here in
      let ids = ids_here parts at.k at.it at.within at.here in
      ap (λ (p : model.Part). p.rate) at.is ∙ ap (λ (p : Part). p.rate) at.here ∙ sym (rate_read parts at.k at.it at.within)
      ∙ s at.k at.within ∙ ap (sums (rate_in txs)) (sym ids ∙ sym (ap (λ (p : model.Part). p.ids) at.is));
  falling = subst Falls (sym (rates_same parts)) f;
}

pub are_rates : (txs : Txs) (find : ℕ → Option ℕ) (parts : List Part) → ArePlaces (names_of txs) find → AreInLimits txs
    → ((id : ℕ) → Contains (order_of parts) id → Contains (names_of txs) id) → length (order_of parts) ≤ MAX_TOTAL
    → ((k : ℕ) → k < length parts → ids_at parts k ≢ []) → AreSummed txs parts → AreRates parts
are_rates txs find parts h l m few filled s k in' =
    let w = all_within txs find (ids_at parts k) h l (λ id here. m id (order_has parts k id in' here)) in
    let size = part_length parts k in' in
    subst (λ (r : Sum). IsSum r × (1 ≤ r.size)) (sym (s k in'))
    (sums_in_range (rate_in txs) (ids_at parts k) w (omega arith), sums_some (rate_in txs) (ids_at parts k) w (filled k in'))
