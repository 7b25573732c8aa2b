-- Trails between places as trails between names, and as walks along steps both ways.
use Rattle.std.proofs.Common.{◌≡◌, ℕ, zero, suc, ◌<◌, ◌⊎◌, inl, inr, List, length, map, get_or, Option, Some, refl, sym, ap, ◌∙◌, subst}
use Rattle.std.specs.Prelude.{Contains, ◌↔◌}
use Rattle.std.proofs.lemmas.List.Elements.{Contains-append_left, Contains-append_right, Contains-append_cases, All-append}
use Rattle.std.proofs.lemmas.Option.{same_Some}
use Rattle.lists.proofs.Entries.{Contains-map, map-Contains}
use Rattle.graphs.specs.Graphs.{Walk, Trail, AreConnected}
use Rattle.graphs.proofs.WalkLemmas.{trail_cons}
use Rattle.places.specs.Places.{ArePlaces, AreSteps}
use Rattle.places.specs.Chains.{AreWithin, turned}
use Rattle.links.specs.Walkers.{FindsAll}
use Rattle.links.specs.Gathering.{both_ways, AreInto, AreClosed}
use Rattle.links.proofs.Turning.{turned_within, turned_step, step_turned}
use Rattle.links.proofs.Walking.{found_below, step_named, named_step}

pub both_within : (count : ℕ) (steps : List (ℕ × ℕ)) → AreWithin count steps → AreWithin count (both_ways steps)
both_within count steps within =
    All-append (λ (step : ℕ × ℕ). (step.0 < count) × (step.1 < count)) (map turned steps) steps (turned_within count steps within) within

-- ---- walks along steps both ways

walk_trail : (steps : List (ℕ × ℕ)) (a b n : ℕ) → Walk (both_ways steps) a b n → Trail steps a b n
walk_trail steps a b zero same = same
walk_trail steps a b (suc n) (c, walk, step) = (
  c,
  walk_trail steps a c n walk,
  elim (Contains-append_cases (map turned steps) steps (c, b) step) [
    | inl back ↦ inr (turned_step steps c b back)
    | inr there ↦ inl there
  ],
)

trail_walk : (steps : List (ℕ × ℕ)) (a b n : ℕ) → Trail steps a b n → Walk (both_ways steps) a b n
trail_walk steps a b zero same = same
trail_walk steps a b (suc n) (c, trail, step) = (
  c,
  trail_walk steps a c n trail,
  elim step [
    | inl there ↦ Contains-append_right (map turned steps) steps (c, b) there
    | inr back ↦ Contains-append_left (map turned steps) steps (c, b) (step_turned steps b c back)
  ],
)

-- what a walk finds is closed under the steps
pub found_closed : (count : ℕ) (steps : List (ℕ × ℕ)) (from : ℕ) (found : List ℕ) → AreWithin count steps → from < count
    → FindsAll (both_ways steps) from found → AreClosed count steps found
found_closed count steps from found within low all = record {
  within = found_below count (both_ways steps) from found (both_within count steps within) low all;
  once = all.once;
  closed = λ p q step here.
      let walk = (all.exact q).0 here in
      let trail = trail_cons steps p q from walk.0 (inl step) (walk_trail steps q from walk.0 walk.1) in
      (all.exact p).1 (suc walk.0, trail_walk steps p from (suc walk.0) trail);
}

-- ---- by names

trail_named : (names : List ℕ) (find : ℕ → Option ℕ) (pairs steps : List (ℕ × ℕ)) → ArePlaces names find → AreSteps find pairs steps
    → (p q n : ℕ) → Trail steps p q n → Trail pairs (get_or names p 0) (get_or names q 0) n
trail_named names find pairs steps h s p q zero same = ap (λ x. get_or names x 0) same
trail_named names find pairs steps h s p q (suc n) (c, trail, step) = (
  get_or names c 0,
  trail_named names find pairs steps h s p c n trail,
  elim step [
    | inl there ↦ inl (step_named names find pairs steps h s c q there)
    | inr back ↦ inr (step_named names find pairs steps h s q c back)
  ],
)

-- one pair back from a place, in either direction
pair_back : (find : ℕ → Option ℕ) (pairs steps : List (ℕ × ℕ)) → AreSteps find pairs steps → (c b p : ℕ) → find b ≡ Some p
    → Contains {X = ℕ × ℕ} pairs (c, b) ⊎ Contains {X = ℕ × ℕ} pairs (b, c)
    → (q : ℕ) × (find c ≡ Some q) × (Contains {X = ℕ × ℕ} steps (q, p) ⊎ Contains {X = ℕ × ℕ} steps (p, q))
pair_back find pairs steps s c b p at (inl there) =
    let (pc, pb, step, first, second) = named_step find pairs steps s c b there in
    (pc, first, inl (subst (λ (x : ℕ). Contains {X = ℕ × ℕ} steps (pc, x)) (same_Some pb p (sym second ∙ at)) step))
pair_back find pairs steps s c b p at (inr back) =
    let (pb, pc, step, first, second) = named_step find pairs steps s b c back in
    (pc, second, inr (subst (λ (x : ℕ). Contains {X = ℕ × ℕ} steps (x, pc)) (same_Some pb p (sym first ∙ at)) step))

trail_back : (find : ℕ → Option ℕ) (pairs steps : List (ℕ × ℕ)) → AreSteps find pairs steps → (a b n p : ℕ) → find b ≡ Some p → Trail pairs a b n
    → (q : ℕ) × (find a ≡ Some q) × Trail steps q p n
trail_back find pairs steps s a b zero p at same = (p, ap find same ∙ at, refl)
trail_back find pairs steps s a b (suc n) p at (c, trail, pair) =
    let (pc, first, step) = pair_back find pairs steps s c b p at pair in
    let rest = trail_back find pairs steps s a c n pc first trail in
    (rest.0, rest.1, (pc, rest.2, step))

-- the names that a walk finds along steps both ways are those that are connected to its first one
pub found_around : (names : List ℕ) (find : ℕ → Option ℕ) (pairs steps : List (ℕ × ℕ)) (p : ℕ) (found : List ℕ) → ArePlaces names find
    → AreSteps find pairs steps → p < length names → FindsAll (both_ways steps) p found
    → (a : ℕ) → Contains (map (λ q. get_or names q 0) found) a ↔ AreConnected pairs a (get_or names p 0)
found_around names find pairs steps p found h s low all a =
    let nm : ℕ → ℕ = λ q. get_or names q 0 in (
      (λ here.
          let (q, there, is) = map-Contains nm found a here in
          let walk = (all.exact q).0 there in (
            walk.0,
            subst (λ (x : ℕ). Trail pairs x (nm p) walk.0) is (trail_named names find pairs steps h s q p walk.0 (walk_trail steps q p walk.0 walk.1)),
          )),
      (λ trail.
          let (q, at, back) = trail_back find pairs steps s a (nm p) trail.0 p (h.complete p low) trail.1 in
          subst (λ (x : ℕ). Contains (map nm found) x) (h.sound a q at).1
          (Contains-map nm found q ((all.exact q).1 (trail.0, trail_walk steps q p trail.0 back)))),
    )

-- ---- trails within some names

-- A trail that ends among names which hold what is connected to them goes along the pairs into these names.
pub trail_inside : (pairs inner : List (ℕ × ℕ)) (names : List ℕ) → AreInto names pairs inner
    → ((a b : ℕ) → Contains names b → AreConnected pairs a b → Contains names a)
    → (a b n : ℕ) → Contains names b → Trail pairs a b n → Trail inner a b n
trail_inside pairs inner names into closed a b zero here same = same
trail_inside pairs inner names into closed a b (suc n) here (c, trail, step) =
    let before : Contains names c = closed c b here (1, (c, refl, step)) in (
      c,
      trail_inside pairs inner names into closed a c n before trail,
      elim step [
        | inl there ↦ inl ((into c b).1 (there, here))
        | inr back ↦ inr ((into b c).1 (back, before))
      ],
    )
