-- Names and their places.
use Rattle.std.proofs.Common.{◌≡◌, ◌≢◌, ℕ, ◌+◌, ◌<◌, List, [], ◌∷◌, ◌++◌, length, sym, ap, ◌∙◌, subst, arith, get_or, take, map, Option, Some, None, eqb, false, ℤ}
use Rattle.std.specs.Prelude.{Contains}
use Rattle.std.proofs.lemmas.List.{length-take-le, get_or_default, take_more, map-append}
use Rattle.std.proofs.lemmas.List.Elements.{All-push, Contains-get_or}
use Rattle.std.proofs.lemmas.Option.{same_Some}
use Rattle.lists.proofs.Cases.{some_none}
use Rattle.lists.proofs.Distinct.{distinct_from_places, repeated}
use Rattle.lists.specs.Distinct.{AreDistinct}
use Rattle.places.specs.Places.{ArePlaces, AreAmong}
use Rattle.places.proofs.Placing.{more_places, found_in}
use Rattle.certificate.specs.Places.{named, ArePairs}

pub places_distinct : (names : List ℕ) (find : ℕ → Option ℕ) → ArePlaces names find → AreDistinct names
places_distinct names find h =
    distinct_from_places names
    (λ i j d less in' e.
    let i_in : i < length names = omega arith in
    let same : get_or names i 0 ≡ get_or names j 0 = get_or_default names i 0 d i_in ∙ e ∙ get_or_default names j d 0 in' in
    let p : Some i ≡ Some j = sym (h.complete i i_in) ∙ ap find same ∙ h.complete j in' in
    let q = same_Some i j p in
    omega arith)

-- a number that isn't found is no name
pub not_found : (names : List ℕ) (find : ℕ → Option ℕ) (id : ℕ) → ArePlaces names find → find id ≡ None → Contains names id → ⊥
not_found names find id h none (k, in', e) =
    some_none k (sym (h.complete k in') ∙ ap find (get_or_default names k 0 id in' ∙ e) ∙ none)

-- ---- a list of names, one more
pub places_next : (names : List ℕ) (k id : ℕ) (find find' : ℕ → Option ℕ) → k < length names
    → get_or names k 0 ≡ id → ArePlaces (take k names) find → find id ≡ None → find' id ≡ Some k
    → ((q : ℕ) → eqb id q ≡ false → find' q ≡ find q) → ArePlaces (take (k + 1) names) find'
places_next names k id find find' in' e h none here others =
    subst (λ l. ArePlaces l find') (sym (take_more names k 0 in' ∙ ap (λ x. take k names ++ (x ∷ [])) e))
    (more_places (take k names) find find' id k h (sym (length-take-le k names (omega arith))) none here others)

pub places_again : (names : List ℕ) (k id p : ℕ) (find : ℕ → Option ℕ) → k < length names
    → get_or names k 0 ≡ id → ArePlaces (take k names) find → find id ≡ Some p → AreDistinct names → ⊥
places_again names k id p find in' e h some = repeated names k id 0 in' e (found_in (take k names) find id p h some)

-- ---- edges as pairs of places
edge_here : (edges : List (ℕ × ℕ)) (k : ℕ) → k < length edges → Contains {X = ℕ × ℕ} edges ((get_or edges k (0, 0)).0, (get_or edges k (0, 0)).1)
edge_here edges k in' = Contains-get_or edges k (0, 0) in'

pub no_parent : (list : List ℕ) (find : ℕ → Option ℕ) (edges : List (ℕ × ℕ)) (k : ℕ) → k < length edges
    → ArePlaces list find → find (get_or edges k (0, 0)).0 ≡ None → AreAmong list edges → ⊥
no_parent list find edges k in' h none all = not_found list find _ h none (all _ _ (edge_here edges k in')).0

pub no_child : (list : List ℕ) (find : ℕ → Option ℕ) (edges : List (ℕ × ℕ)) (k : ℕ) → k < length edges
    → ArePlaces list find → find (get_or edges k (0, 0)).1 ≡ None → AreAmong list edges → ⊥
no_child list find edges k in' h none all = not_found list find _ h none (all _ _ (edge_here edges k in')).1

pub more_pairs : (list : List ℕ) (find : ℕ → Option ℕ) (edges pairs : List (ℕ × ℕ)) (k p c : ℕ) → k < length edges
    → ArePlaces list find → find (get_or edges k (0, 0)).0 ≡ Some p → find (get_or edges k (0, 0)).1 ≡ Some c
    → ArePairs list (take k edges) pairs → ArePairs list (take (k + 1) edges) (pairs ++ ((p, c) ∷ []))
more_pairs list find edges pairs k p c in' h some other pre =
    let a = h.sound _ p some in
    let b = h.sound _ c other in
    let e : ◌≡◌ {A = ℕ × ℕ} (get_or edges k (0, 0)) (named list (p, c)) =
    ap (λ x. let y : ℕ × ℕ = (x, (get_or edges k (0, 0)).1) in y) (sym a.1) ∙ ap (λ x. let y : ℕ × ℕ = (get_or list p 0, x) in y) (sym b.1) in
    record {
      within = All-push (λ (pair : ℕ × ℕ). (pair.0 < length list) × (pair.1 < length list)) pairs (p, c) pre.within (a.0, b.0);
      same = take_more edges k (0, 0) in' ∙ ap (λ l. l ++ (get_or edges k (0, 0) ∷ [])) pre.same
          ∙ ap (λ x. map (named list) pairs ++ (x ∷ [])) e ∙ sym (map-append (named list) pairs ((p, c) ∷ []));
    }
