-- Fees and sizes of names, and their sums.
use Rattle.std.proofs.Common.{◌≡◌, ◌≢◌, ℕ, ◌+◌, ◌<◌, ◌≤◌, zero, suc, List, [], ◌∷◌, ◌++◌, length, refl, sym, ap, ◌∙◌, subst, arith, get_or, take, Option, Some, eqb, ℤ, pos, ◌+ℤ◌, unsigned_abs, to_z, of_z}
use Rattle.std.specs.Prelude.{Contains, All}
use Rattle.std.proofs.lemmas.Int.{ints, to_z-of_z, fits_signed_from_abs}
use mir.Syntax.{w64}
use Rattle.std.proofs.lemmas.Bool.{cond-true, cond-false, ne_eqb}
use Rattle.std.proofs.lemmas.List.{length-map, get_or_default, take_more, length-take-le}
use Rattle.std.proofs.lemmas.List.Sums.{sum_by-append, sum_by-le, sum_by-cons}
use Rattle.std.proofs.lemmas.List.Elements.{Contains-get_or, All-take}
use Rattle.std.proofs.Common.{eq-eqb}
use Rattle.fee_rate.proofs.Orders.{same_sum}
use Rattle.lists.specs.Distinct.{AreDistinct}
use Rattle.arithmetic.proofs.Sums.{total-append, total_within}
use Rattle.fee_rate.specs.declared.rates.Sum.{Sum}
use Rattle.fee_rate.specs.Limits.{IsSum}
use Rattle.fee_rate.specs.declared.limits.TheConstants.{MAX_FEE, MAX_SIZE, MAX_TOTAL}
use Rattle.fee_rate.specs.Rates.{AtMost}
use Rattle.graphs.specs.Rates.{sums, Falls}
use Rattle.graphs.specs.Certificates.{Txs, rate_in}
use Rattle.places.specs.Places.{ArePlaces}
use Rattle.certificate.specs.Tables.{names_of, AreInLimits}
use Rattle.certificate.proofs.GraphLemmas.{limits_at}
use Rattle.places.proofs.Placing.{name_at}
use Rattle.certificate.proofs.PlaceLemmas.{places_distinct}

abbrev pub rate_here : Txs → ℕ → Sum
rate_here txs p = record { fee = (get_or txs p (0, pos 0, 0)).1; size = (get_or txs p (0, pos 0, 0)).2 }

-- the rate of a name is that of the transaction at its place
rate_first : (txs : Txs) (id p : ℕ) → AreDistinct (names_of txs) → p < length txs → (get_or txs p (0, pos 0, 0)).0 ≡ id → rate_in txs id ≡ rate_here txs p
rate_first [] id p d in' e = absurd (omega arith)
rate_first (tx ∷ txs) id zero d in' e = cond-true (eqb tx.0 id) record { fee = tx.1; size = tx.2 } (rate_in txs id) (eq-eqb tx.0 id e)
rate_first (tx ∷ txs) id (suc p) d in' e =
    let p_in : p < length txs = omega arith in
    let long : p < length (names_of txs) = subst (λ n. p < n) (sym (length-map txs (λ (t : ℕ × ℤ × ℕ). t.0))) p_in in
    let there : Contains (names_of txs) id = (p, long, get_or_default (names_of txs) p id 0 long ∙ name_at txs p p_in ∙ e) in
    let other : tx.0 ≢ id = λ same. d.0 (subst (λ x. Contains (names_of txs) x) (sym same) there) in
    cond-false (eqb tx.0 id) record { fee = tx.1; size = tx.2 } (rate_in txs id) (ne_eqb tx.0 id other) ∙ rate_first txs id p d.1 p_in e

pub rate_found : (txs : Txs) (find : ℕ → Option ℕ) (id p : ℕ) → ArePlaces (names_of txs) find
    → find id ≡ Some p → (p < length txs) × (rate_in txs id ≡ rate_here txs p)
rate_found txs find id p h e =
    let s = h.sound id p e in
    let p_in : p < length txs = subst (λ n. p < n) (length-map txs (λ (t : ℕ × ℤ × ℕ). t.0)) s.0 in
    (p_in, rate_first txs id p (places_distinct (names_of txs) find h) p_in (sym (name_at txs p p_in) ∙ s.1))

-- a fee and a size within the limits
pub record IsWithin (rate : Sum) : Type 0 where
  pub fee : unsigned_abs rate.fee ≤ MAX_FEE
  pub some : 1 ≤ rate.size
  pub size : rate.size ≤ MAX_SIZE

pub within_here : (txs : Txs) (p : ℕ) → AreInLimits txs → p < length txs → IsWithin (rate_here txs p)
within_here txs p l in' =
    let (fee, size) = limits_at txs p l in' in
    record { fee = fee; some = size.0; size = size.1 }

pub within_name : (txs : Txs) (find : ℕ → Option ℕ) (id : ℕ) → ArePlaces (names_of txs) find
    → AreInLimits txs → Contains (names_of txs) id → IsWithin (rate_in txs id)
within_name txs find id h l (p, p_in, is) =
    let name : get_or (names_of txs) p 0 ≡ id = get_or_default (names_of txs) p 0 id p_in ∙ is in
    let f = rate_found txs find id p h (ap find (sym name) ∙ h.complete p p_in) in
    subst (λ r. IsWithin r) (sym f.1) (within_here txs p l f.0)

-- such a fee is kept in 64 bits
pub kept_fee : (z : ℤ) → unsigned_abs z ≤ MAX_FEE → to_z w64 (of_z w64 z) ≡ z
kept_fee z h = to_z-of_z w64 z (fits_signed_from_abs w64 z (omega arith))

pub kept_abs : (z : ℤ) → unsigned_abs z ≤ MAX_FEE → unsigned_abs (to_z w64 (of_z w64 z)) ≤ MAX_FEE
kept_abs z h = subst (λ (x : ℤ). unsigned_abs x ≤ MAX_FEE) (sym (kept_fee z h)) h

-- ---- sums over names
abbrev pub AllWithin : (ℕ → Sum) → List ℕ → Type 0
AllWithin rate ids = All (λ id. IsWithin (rate id)) ids

pub sums-push : (rate : ℕ → Sum) (ids : List ℕ) (id : ℕ) → (sums rate (ids ++ (id ∷ []))).fee ≡ (sums rate ids).fee +ℤ (rate id).fee
sums-push rate ids id = omega (arith, ints, total-append (λ x. (rate x).fee) ids (id ∷ []))

pub sizes-push : (rate : ℕ → Sum) (ids : List ℕ) (id : ℕ) → (sums rate (ids ++ (id ∷ []))).size ≡ (sums rate ids).size + (rate id).size
sizes-push rate ids id = omega (arith, sum_by-append (λ x. (rate x).size) ids (id ∷ []))

pub sums_in_range : (rate : ℕ → Sum) (ids : List ℕ) → AllWithin rate ids → length ids ≤ MAX_TOTAL → IsSum (sums rate ids)
sums_in_range rate ids h few =
    let f = total_within (λ id. (rate id).fee) MAX_FEE ids (λ k d in'. (h k d in').fee) in
    let s = sum_by-le (λ id. (rate id).size) MAX_SIZE ids (λ k d in'. (h k d in').size) in
    record { fee = omega (arith, ints); size = omega (arith, ints) }

pub sums_some : (rate : ℕ → Sum) (ids : List ℕ) → AllWithin rate ids → (ids ≡ [] → ⊥) → 1 ≤ (sums rate ids).size
sums_some rate [] h n = absurd (n refl)
sums_some rate (id ∷ ids) h n =
    let first = (h 0 id (omega arith)).some in
    omega (arith, sum_by-cons (λ x. (rate x).size) id ids)

pub all_within : (txs : Txs) (find : ℕ → Option ℕ) (ids : List ℕ) → ArePlaces (names_of txs) find
    → AreInLimits txs → ((id : ℕ) → Contains ids id → Contains (names_of txs) id) → AllWithin (rate_in txs) ids
all_within txs find ids h l m k d in' = within_name txs find (get_or ids k d) h l (m (get_or ids k d) (Contains-get_or ids k d in'))

-- the sum so far, and with one more name
pub sum_range : (rate : ℕ → Sum) (ids : List ℕ) (k : ℕ) (sum : Sum) → AllWithin rate ids
    → length ids ≤ MAX_TOTAL → k ≤ length ids → sum ≡ sums rate (take k ids) → IsSum sum
sum_range rate ids k sum h few in' is =
    subst (λ s. IsSum s) (sym is) (sums_in_range rate (take k ids) (All-take (λ id. IsWithin (rate id)) k ids h) (omega (arith, length-take-le k ids in')))

pub sum_next : (rate : ℕ → Sum) (ids : List ℕ) (k : ℕ) (sum new : Sum) (fee : ℤ) (size : ℕ) → k < length ids
    → sum ≡ sums rate (take k ids) → fee ≡ (rate (get_or ids k 0)).fee → size ≡ (rate (get_or ids k 0)).size
    → new.fee ≡ sum.fee +ℤ fee → new.size ≡ sum.size + size → new ≡ sums rate (take (k + 1) ids)
sum_next rate ids k sum new fee size in' is f s nf ns =
    let id = get_or ids k 0 in
    let old_fee : sum.fee ≡ (sums rate (take k ids)).fee = ap (λ (x : Sum). x.fee) is in
    let old_size : sum.size ≡ (sums rate (take k ids)).size = ap (λ (x : Sum). x.size) is in
    let fees : new.fee ≡ (sums rate (take k ids ++ (id ∷ []))).fee =
    nf ∙ ap (λ (x : ℤ). x +ℤ fee) old_fee ∙ ap (λ (x : ℤ). (sums rate (take k ids)).fee +ℤ x) f ∙ sym (sums-push rate (take k ids) id) in
    let sizes : new.size ≡ (sums rate (take k ids ++ (id ∷ []))).size =
    ns ∙ ap (λ (x : ℕ). x + size) old_size ∙ ap (λ (x : ℕ). (sums rate (take k ids)).size + x) s ∙ sym (sizes-push rate (take k ids) id) in
    same_sum new (sums rate (take k ids ++ (id ∷ []))) fees sizes ∙ ap (λ l. sums rate l) (sym (take_more ids k 0 in'))

-- ---- falling rates, by position
abbrev nothing : Sum
nothing = record { fee = pos 0; size = 0 }

step : (a : Sum) (rates : List Sum) (k : ℕ) → get_or (a ∷ rates) (suc k + 1) nothing ≡ get_or rates (k + 1) nothing
step a rates k = let e : suc k + 1 ≡ suc (k + 1) = omega arith in ap (λ n. get_or (a ∷ rates) n nothing) e

later : (a : Sum) (rates : List Sum) (k : ℕ) → AtMost (get_or (a ∷ rates) (suc k + 1) nothing) (get_or (a ∷ rates) (suc k) nothing)
    → AtMost (get_or rates (k + 1) nothing) (get_or rates k nothing)
later a rates k h = subst (λ s. AtMost s (get_or rates k nothing)) (step a rates k) h

back : (a : Sum) (rates : List Sum) (k : ℕ) → AtMost (get_or rates (k + 1) nothing) (get_or rates k nothing)
    → AtMost (get_or (a ∷ rates) (suc k + 1) nothing) (get_or (a ∷ rates) (suc k) nothing)
back a rates k h = subst (λ s. AtMost s (get_or rates k nothing)) (sym (step a rates k)) h

pub falls_by_position : (rates : List Sum) → ((k : ℕ) → k + 1 < length rates → AtMost (get_or rates (k + 1) nothing) (get_or rates k nothing)) → Falls rates
falls_by_position [] h = tt
falls_by_position (a ∷ []) h = tt
falls_by_position (a ∷ b ∷ rates) h = (h 0 (omega arith), falls_by_position (b ∷ rates) (λ k less. later a (b ∷ rates) k (h (suc k) (omega arith))))

pub position_by_falls : (rates : List Sum) (k : ℕ) → k + 1 < length rates → Falls rates → AtMost (get_or rates (k + 1) nothing) (get_or rates k nothing)
position_by_falls [] k less h = absurd (omega arith)
position_by_falls (a ∷ []) k less h = absurd (omega arith)
position_by_falls (a ∷ b ∷ rates) zero less h = h.0
position_by_falls (a ∷ b ∷ rates) (suc k) less h = back a (b ∷ rates) k (position_by_falls (b ∷ rates) k (omega arith) h.1)
