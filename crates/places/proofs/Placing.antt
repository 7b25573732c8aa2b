-- Names and their places, and pairs as steps between these.
use Rattle.std.proofs.Common.{◌≡◌, ◌≢◌, ℕ, ◌+◌, ◌<◌, List, [], ◌∷◌, ◌++◌, length, inl, inr, refl, sym, ap, ◌∙◌, subst, arith, get_or, take, map, Option, Some, None, eqb, false, ℤ, pos}
use Rattle.std.specs.Prelude.{Contains}
use Rattle.std.proofs.lemmas.Bool.{cases_eq, cases_lt, ne_eqb}
use Rattle.std.proofs.lemmas.List.{get_or_push, get_or_append_left, length_push, length-take-le, get_or_default, take_more, get_or-map, length-map, get_or-take}
use Rattle.std.proofs.lemmas.List.Elements.{Contains-get_or}
use Rattle.std.proofs.lemmas.Option.{same_Some}
use Rattle.lists.specs.Distinct.{AreDistinct}
use Rattle.lists.proofs.Cases.{some_none}
use Rattle.lists.proofs.Distinct.{repeated}
use Rattle.places.specs.Chains.{pair_at, AreWithin}
use Rattle.places.specs.Places.{ArePlaces, AreAmong, AreSteps, Finds}

-- ---- a list of names, one more

pub more_places : (names : List ℕ) (find find' : ℕ → Option ℕ) (id n : ℕ) → ArePlaces names find → n ≡ length names
    → find id ≡ None → find' id ≡ Some n → ((q : ℕ) → eqb id q ≡ false → find' q ≡ find q) → ArePlaces (names ++ (id ∷ [])) find'
more_places names find find' id n h size none here others = record {
  sound =
      λ q p e.
      elim (cases_eq q id) [
        | inl same ↦
            (let at : n ≡ p = same_Some n p (sym here ∙ ap find' (sym same) ∙ e) in
            (omega (arith, length_push names id), get_or_push names id 0 p (sym size ∙ at) ∙ sym same))
        | inr other ↦
            (let old = h.sound q p (sym (others q (ne_eqb id q (λ same. other (sym same)))) ∙ e) in
            (omega (arith, length_push names id, old.0), get_or_append_left names (id ∷ []) 0 p old.0 ∙ old.1))
      ];
  complete =
      λ p in'.
      elim (cases_lt p (length names)) [
        | inl less ↦
            (let e = get_or_append_left names (id ∷ []) 0 p less in
            let old = h.complete p less in
            let other : get_or names p 0 ≢ id = λ same. some_none p (sym old ∙ ap find same ∙ none) in
            ap find' e ∙ others (get_or names p 0) (ne_eqb id _ (λ same. other (sym same))) ∙ old)
        | inr more ↦
            (let last : p ≡ length names = omega (arith, length_push names id) in
            ap find' (get_or_push names id 0 p (sym last)) ∙ here ∙ ap Some (size ∙ sym last))
      ];
}

-- a name that is found is one of the names
pub found_in : (names : List ℕ) (find : ℕ → Option ℕ) (id p : ℕ) → ArePlaces names find → find id ≡ Some p → Contains names id
found_in names find id p h some =
    let s = h.sound id p some in
    (p, s.0, get_or_default names p id 0 s.0 ∙ s.1)

-- the name of a transaction
pub name_at : (txs : List (ℕ × ℤ × ℕ)) (k : ℕ) → k < length txs → get_or (map (λ tx. tx.0) txs) k 0 ≡ (get_or txs k (0, pos 0, 0)).0
name_at txs k in' = get_or-map (λ (tx : ℕ × ℤ × ℕ). tx.0) txs k (0, pos 0, 0) 0 in'

-- each name is found
pub finds_name : (names : List ℕ) (find : ℕ → Option ℕ) (id : ℕ) → ArePlaces names find → Contains names id → Finds find id
finds_name names find id h (k, low, at) = (k, ap find (sym (get_or_default names k 0 id low ∙ at)) ∙ h.complete k low)

-- the first names have no place for another one
not_yet : (names : List ℕ) (k id : ℕ) (find : ℕ → Option ℕ) → k < length names → get_or names k 0 ≡ id → ArePlaces (take k names) find
    → AreDistinct names → (o : Option ℕ) → find id ≡ o → find id ≡ None
not_yet names k id find low is h once None e = e
not_yet names k id find low is h once (Some p) e = absurd (repeated names k id 0 low is (found_in (take k names) find id p h e) once)

-- one more name
pub places_next : (txs : List (ℕ × ℤ × ℕ)) (k : ℕ) (find find' : ℕ → Option ℕ) → k < length txs → AreDistinct (map (λ tx. tx.0) txs)
    → ArePlaces (take k (map (λ tx. tx.0) txs)) find → find' (get_or txs k (0, pos 0, 0)).0 ≡ Some k
    → ((q : ℕ) → eqb (get_or txs k (0, pos 0, 0)).0 q ≡ false → find' q ≡ find q) → ArePlaces (take (k + 1) (map (λ tx. tx.0) txs)) find'
places_next txs k find find' in' once h here others =
    let names : List ℕ = map (λ (tx : ℕ × ℤ × ℕ). tx.0) txs in
    let id = (get_or txs k (0, pos 0, 0)).0 in
    let long : length names ≡ length txs = length-map txs (λ (tx : ℕ × ℤ × ℕ). tx.0) in
    let low : k < length names = omega arith in
    let is = name_at txs k in' in
    subst (λ l. ArePlaces l find') (sym (take_more names k 0 low ∙ ap (λ x. take k names ++ (x ∷ [])) is))
    (more_places (take k names) find find' id k h (sym (length-take-le k names (omega arith)))
    (not_yet names k id find low is h once (find id) refl) here others)

-- ---- pairs as steps

-- pairs of names have both ends found
pub ends_found : (names : List ℕ) (find : ℕ → Option ℕ) (pairs : List (ℕ × ℕ)) → ArePlaces names find → AreAmong names pairs
    → (k : ℕ) → k < length pairs → Finds find (pair_at pairs k).0 × Finds find (pair_at pairs k).1
ends_found names find pairs h among k low =
    let both = among (pair_at pairs k).0 (pair_at pairs k).1 (Contains-get_or pairs k (0, 0) low) in
    (finds_name names find _ h both.0, finds_name names find _ h both.1)

-- one more step
pub steps_next : (find : ℕ → Option ℕ) (pairs steps : List (ℕ × ℕ)) (k p c : ℕ) → k < length pairs → AreSteps find (take k pairs) steps
    → find (pair_at pairs k).0 ≡ Some p → find (pair_at pairs k).1 ≡ Some c → AreSteps find (take (k + 1) pairs) (steps ++ (p, c) ∷ [])
steps_next find pairs steps k p c low h first second =
    let s = h.sized in
    let size : length steps ≡ k = h.sized ∙ length-take-le k pairs (omega arith) in
    let long = length-take-le (k + 1) pairs (omega arith) in
    let longer = length_push steps (p, c) in
    record {
      sized = omega arith;
      ends = λ j in'. elim (cases_eq j k) [
        | inl same ↦
            subst (λ (i : ℕ). (find (pair_at (take (k + 1) pairs) i).0 ≡ Some (pair_at (steps ++ (p, c) ∷ []) i).0)
            × (find (pair_at (take (k + 1) pairs) i).1 ≡ Some (pair_at (steps ++ (p, c) ∷ []) i).1)) (sym same)
            (let old : ◌≡◌ {A = ℕ × ℕ} (pair_at (take (k + 1) pairs) k) (pair_at pairs k) = get_or-take (k + 1) pairs k (0, 0) (omega arith) in
            let new : ◌≡◌ {A = ℕ × ℕ} (pair_at (steps ++ (p, c) ∷ []) k) (p, c) = get_or_push steps (p, c) (0, 0) k size in (
              ap (λ (x : ℕ × ℕ). find x.0) old ∙ first ∙ ap (λ (x : ℕ × ℕ). Some x.0) (sym new),
              ap (λ (x : ℕ × ℕ). find x.1) old ∙ second ∙ ap (λ (x : ℕ × ℕ). Some x.1) (sym new),
            ))
        | inr other ↦
            let less : j < k = omega arith in
            let there = h.ends j (omega (arith, length-take-le k pairs (omega arith))) in
            let old : ◌≡◌ {A = ℕ × ℕ} (pair_at (take (k + 1) pairs) j) (pair_at (take k pairs) j) =
            get_or-take (k + 1) pairs j (0, 0) (omega arith) ∙ sym (get_or-take k pairs j (0, 0) less) in
            let new : ◌≡◌ {A = ℕ × ℕ} (pair_at (steps ++ (p, c) ∷ []) j) (pair_at steps j) = get_or_append_left steps ((p, c) ∷ []) (0, 0) j (omega arith) in (
              ap (λ (x : ℕ × ℕ). find x.0) old ∙ there.0 ∙ ap (λ (x : ℕ × ℕ). Some x.0) (sym new),
              ap (λ (x : ℕ × ℕ). find x.1) old ∙ there.1 ∙ ap (λ (x : ℕ × ℕ). Some x.1) (sym new),
            )
      ];
    }

-- steps are between places of names
pub steps_within : (names : List ℕ) (find : ℕ → Option ℕ) (pairs steps : List (ℕ × ℕ)) → ArePlaces names find → AreSteps find pairs steps
    → AreWithin (length names) steps
steps_within names find pairs steps h s k d low =
    let size = s.sized in
    let ends = s.ends k (omega arith) in
    let first = (h.sound (pair_at pairs k).0 (pair_at steps k).0 ends.0).0 in
    let second = (h.sound (pair_at pairs k).1 (pair_at steps k).1 ends.1).0 in
    let is : ◌≡◌ {A = ℕ × ℕ} (get_or steps k (0, 0)) (get_or steps k d) = get_or_default steps k (0, 0) d low in
    subst (λ (x : ℕ × ℕ). (x.0 < length names) × (x.1 < length names)) is (first, second)
