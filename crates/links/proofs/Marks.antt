-- Places that were found, each with a mark.
use Rattle.std.proofs.Common.{length-append, ◌≡◌, ◌≢◌, ℕ, zero, suc, ◌+◌, ◌<◌, ◌≤◌, Bool, true, false, List, [], ◌∷◌, ◌++◌, length, get_or, set, take, Option, Some, true≢false, refl, sym, ap, ◌∙◌, subst, inl, inr, arith}
use Rattle.std.specs.Prelude.{Contains, ◌↔◌}
use Rattle.std.proofs.lemmas.Bool.{cases_eq}
use Rattle.std.proofs.lemmas.List.{get_or-set_same, get_or-set_other, length-set, get_or_default, length_push, get_or_append_left, take_more}
use Rattle.std.proofs.lemmas.Option.{same_Some}
use Rattle.std.proofs.lemmas.List.Elements.{Contains-push, Contains-push_cases, Contains-append_left, Contains-append_cases}
use Rattle.std.proofs.lemmas.List.FromFn.{length-range_with_len}
use Rattle.std.specs.List.{range_with_len}
use Rattle.lists.specs.Distinct.{AreDistinct}
use Rattle.lists.proofs.Distinct.{distinct_push, distinct_within}
use Rattle.lists.proofs.Ranges.{Contains-range}
use Rattle.graphs.specs.Graphs.{Walk, IsAncestor}
use Rattle.graphs.proofs.WalkLemmas.{walk_cons}
use Rattle.links.specs.Places.{IsPlaceOf}
use Rattle.links.specs.Walkers.{mark_at, AreMarked, Finds, FindsAll, FindsFrom}

-- places below a count, each once, are no more
pub few_below : (count : ℕ) (xs : List ℕ) → AreDistinct xs → ((p : ℕ) → Contains xs p → p < count) → length xs ≤ count
few_below count xs once below =
    let most = distinct_within (λ (p : ℕ). 0) xs (range_with_len 0 count) once (λ p here. Contains-range count p (below p here)) in
    omega (arith, most.0, length-range_with_len 0 count)

pub few_found : (count : ℕ) (marks : List Bool) (found : List ℕ) → AreMarked count marks found → length found ≤ count
few_found count marks found m = few_below count found m.once m.within

-- one more is found
pub found_more : (count : ℕ) (marks : List Bool) (found : List ℕ) (place : ℕ) → AreMarked count marks found → place < count
    → mark_at marks place ≡ false → AreMarked count (set marks place true) (found ++ place ∷ [])
found_more count marks found place m low none =
    let inside : place < length marks = let s = m.sized in omega arith in
    record {
      sized = length-set marks place true ∙ m.sized;
      once = distinct_push found place m.once (λ there. true≢false (sym ((m.exact place low).1 there) ∙ none));
      within = λ q here. elim (Contains-push_cases found place q here) [
        | inl old ↦ m.within q old
        | inr same ↦ subst (λ (x : ℕ). x < count) same low
      ];
      exact = λ q below. elim (cases_eq q place) [
        | inl same ↦ (
          (λ _. subst (λ (x : ℕ). Contains (found ++ place ∷ []) x) (sym same) (Contains-push found place)),
          (λ _. ap (mark_at (set marks place true)) same ∙ get_or-set_same marks place true false inside),
        )
        | inr other ↦ (
          (λ marked. Contains-append_left found (place ∷ []) q ((m.exact q below).0 (sym (get_or-set_other marks place q true false other) ∙ marked))),
          (λ here. get_or-set_other marks place q true false other ∙ elim (Contains-push_cases found place q here) [
            | inl old ↦ (m.exact q below).1 old
            | inr same ↦ absurd (other (sym same))
          ]),
        )
      ];
    }

-- so there was room for it
pub room_for : (count : ℕ) (marks : List Bool) (found : List ℕ) (place : ℕ) → AreMarked count marks found → place < count
    → mark_at marks place ≡ false → length found < count
room_for count marks found place m low none =
    let more = few_found count (set marks place true) (found ++ place ∷ []) (found_more count marks found place m low none) in
    omega (arith, more, length_push found place)

-- ---- marks that are taken away

-- the places that still have a mark were found from position `at` on
abbrev pub AreLeft : ℕ → List Bool → List ℕ → ℕ → Type 0
AreLeft count marks found at = (p : ℕ) → p < count → mark_at marks p ≡ true → (j : ℕ) × (at ≤ j) × (j < length found) × (get_or found j 0 ≡ p)

pub none_left : (count : ℕ) (marks : List Bool) (found : List ℕ) (at : ℕ) → AreLeft count marks found at → length found ≤ at
    → (p : ℕ) → p < count → mark_at marks p ≡ false
none_left count marks found at left all p low = unmarked (mark_at marks p) refl (λ marked. let here = left p low marked in omega (arith, here.1, here.2))
  where
    unmarked : (b : Bool) → mark_at marks p ≡ b → (mark_at marks p ≡ true → ⊥) → mark_at marks p ≡ false
    unmarked true is other = absurd (other is)
    unmarked false is other = is

-- ---- a walk

-- a list with what leads to its entries has what leads to them over walks
pub closed_has : (steps : List (ℕ × ℕ)) (found : List ℕ)
    → ((j to : ℕ) → j < length found → Contains {X = ℕ × ℕ} steps (to, get_or found j 0) → Contains found to)
    → (a b n : ℕ) → Walk steps a b n → Contains found b → Contains found a
closed_has steps found closed a b zero same here = subst (λ (x : ℕ). Contains found x) (sym same) here
closed_has steps found closed a b (suc n) (c, walk, step) (j, low, at) =
    let is : get_or found j 0 ≡ b = get_or_default found j 0 b low ∙ at in
    closed_has steps found closed a c n walk (closed j c low (subst (λ (x : ℕ). Contains {X = ℕ × ℕ} steps (c, x)) (sym is) step))

-- how far a walk from some starts has come: the places before `done` were looked around from
pub record IsOnWay (steps : List (ℕ × ℕ)) (starts : List ℕ) (done : ℕ) (found : List ℕ) : Type 0 where
  pub done_is : done ≤ length found
  pub start : (p : ℕ) → Contains starts p → Contains found p
  pub sound : (p : ℕ) → Contains found p → (from : ℕ) × Contains starts from × IsAncestor steps p from
  pub closed : (j to : ℕ) → j < done → Contains {X = ℕ × ℕ} steps (to, get_or found j 0) → Contains found to

pub way_first : (steps : List (ℕ × ℕ)) (starts : List ℕ) → IsOnWay steps starts 0 starts
way_first steps starts = record {
  done_is = omega arith;
  start = λ p here. here;
  sound = λ p here. (p, here, (0, refl));
  closed = λ j to low step. absurd (omega arith);
}

pub found_stays : (P : ℕ → Type 0) (old new : List ℕ) (p : ℕ) → Finds P old new → Contains old p → Contains new p
found_stays P old new p finds here = subst (λ (xs : List ℕ). Contains xs p) (sym finds.is) (Contains-append_left old finds.more p here)

pub found_longer : (P : ℕ → Type 0) (old new : List ℕ) → Finds P old new → length old ≤ length new
found_longer P old new finds = omega (arith, ap length finds.is, length-append old finds.more)

pub way_next : (steps : List (ℕ × ℕ)) (starts : List ℕ) (done place : ℕ) (old new : List ℕ) → IsOnWay steps starts done old → done < length old
    → get_or old done 0 ≡ place → Finds (λ to. Contains {X = ℕ × ℕ} steps (to, place)) old new
    → ((to : ℕ) → Contains {X = ℕ × ℕ} steps (to, place) → Contains new to) → IsOnWay steps starts (done + 1) new
way_next steps starts done place old new way low is finds all =
    let P : ℕ → Type 0 = λ to. Contains {X = ℕ × ℕ} steps (to, place) in
    let longer : length old ≤ length new = found_longer P old new finds in
    let kept : (j : ℕ) → j < length old → get_or new j 0 ≡ get_or old j 0 =
    λ j in'. ap (λ (xs : List ℕ). get_or xs j 0) finds.is ∙ get_or_append_left old finds.more 0 j in' in
    let (from, begun, walk) = way.sound place (done, low, get_or_default old done place 0 low ∙ is) in
    record {
      done_is = omega arith;
      start = λ p here. found_stays P old new p finds (way.start p here);
      sound = λ p here. elim (Contains-append_cases old finds.more p (subst (λ (xs : List ℕ). Contains xs p) finds.is here)) [
        | inl there ↦ way.sound p there
        | inr fresh ↦ (from, begun, (suc walk.0, walk_cons steps p place from walk.0 (finds.each p fresh) walk.1))
      ];
      closed = λ j to below step. elim (cases_eq j done) [
        | inl same ↦
            let at : get_or new j 0 ≡ place = ap (λ k. get_or new k 0) same ∙ kept done low ∙ is in
            all to (subst (λ (x : ℕ). Contains {X = ℕ × ℕ} steps (to, x)) at step)
        | inr other ↦
            let less : j < done = omega arith in
            found_stays P old new to finds (way.closed j to less
            (subst (λ (x : ℕ). Contains {X = ℕ × ℕ} steps (to, x)) (kept j (omega arith)) step))
      ];
    }

pub way_all : (steps : List (ℕ × ℕ)) (starts : List ℕ) (done : ℕ) (found : List ℕ) → IsOnWay steps starts done found → length found ≤ done
    → AreDistinct found → FindsFrom steps (Contains starts) found
way_all steps starts done found way all once = record {
  once = once;
  exact = λ p. (
    (λ here. way.sound p here),
    (λ (from, begun, walk). closed_has steps found (λ j to low step. way.closed j to (omega arith) step) p from walk.0 walk.1 (way.start from begun)),
  );
}

-- ---- where a walk starts

-- from one place
pub found_from_one : (steps : List (ℕ × ℕ)) (from : ℕ) (starts found : List ℕ) → Finds (λ p. p ≡ from) [] starts → Contains starts from
    → FindsFrom steps (Contains starts) found → FindsAll steps from found
found_from_one steps from starts found finds here all = record {
  once = all.once;
  exact = λ p. (
    (λ there.
        let (q, begun, walk) = (all.exact p).0 there in
        subst (IsAncestor steps p) (finds.each q (subst (λ (xs : List ℕ). Contains xs q) finds.is begun)) walk),
    (λ walk. (all.exact p).1 (from, here, walk)),
  );
}

-- from the places of names
pub found_from_places : (find : ℕ → Option ℕ) (ids : List ℕ) (steps : List (ℕ × ℕ)) (starts found : List ℕ)
    → ((p : ℕ) → Contains starts p ↔ IsPlaceOf find ids p) → FindsFrom steps (Contains starts) found → FindsFrom steps (IsPlaceOf find ids) found
found_from_places find ids steps starts found are all = record {
  once = all.once;
  exact = λ p. (
    (λ there. let (q, begun, walk) = (all.exact p).0 there in (q, (are q).0 begun, walk)),
    (λ (q, begun, walk). (all.exact p).1 (q, (are q).1 begun, walk)),
  );
}

-- one name more
pub places_more : (find : ℕ → Option ℕ) (ids : List ℕ) (k place : ℕ) (old new : List ℕ) → k < length ids → find (get_or ids k 0) ≡ Some place
    → ((p : ℕ) → Contains old p ↔ IsPlaceOf find (take k ids) p) → Finds (λ p. p ≡ place) old new → Contains new place
    → (p : ℕ) → Contains new p ↔ IsPlaceOf find (take (k + 1) ids) p
places_more find ids k place old new low at are finds here p =
    let id : ℕ = get_or ids k 0 in
    let grown : take (k + 1) ids ≡ take k ids ++ id ∷ [] = take_more ids k 0 low in
    subst (λ (xs : List ℕ). Contains new p ↔ IsPlaceOf find xs p) (sym grown) (
      (λ there. elim (Contains-append_cases old finds.more p (subst (λ (xs : List ℕ). Contains xs p) finds.is there)) [
        | inl early ↦ let (a, in', is) = (are p).0 early in (a, Contains-append_left (take k ids) (id ∷ []) a in', is)
        | inr late ↦ (id, Contains-push (take k ids) id, at ∙ ap Some (sym (finds.each p late)))
      ]),
      (λ (a, in', is). elim (Contains-push_cases (take k ids) id a in') [
        | inl early ↦ found_stays (λ q. q ≡ place) old new p finds ((are p).1 (a, early, is))
        | inr same ↦ subst (Contains new) (same_Some place p (sym at ∙ ap find same ∙ is)) here
      ]),
    )
