-- Walks between places as walks between names.
use Rattle.std.proofs.Common.{◌≡◌, ℕ, zero, suc, ◌<◌, List, [], ◌∷◌, nat_eq, length, map, get_or, Option, Some, refl, sym, ap, ◌∙◌, subst, arith}
use Rattle.std.specs.Prelude.{Contains, ◌↔◌}
use Rattle.std.specs.HashMap as hash
use Rattle.std.proofs.lemmas.List.{get_or_default}
use Rattle.std.proofs.lemmas.List.Elements.{Contains-get_or}
use Rattle.std.proofs.lemmas.Option.{same_Some}
use Rattle.lists.specs.Distinct.{AreDistinct}
use Rattle.lists.proofs.Distinct.{distinct_map}
use Rattle.lists.proofs.Entries.{Contains-head, Contains-map, Contains-one, map-Contains}
use Rattle.graphs.specs.Graphs.{Walk, IsAncestor}
use Rattle.graphs.specs.Certificates.{Txs}
use Rattle.graphs.specs.Unions.{IsKin}
use Rattle.graphs.specs.declared.names.Kin.{Kin}
use Rattle.graphs.specs.declared.names.Kin.TheVariants.{Ancestors, Descendants}
use Rattle.places.specs.Chains.{pair_at, AreWithin, turned}
use Rattle.links.specs.Kept.{AreMaps, names_of, ways_to}
use Rattle.places.specs.Places.{ArePlaces, AreSteps, Finds}
use Rattle.links.specs.Places.{IsPlaceOf}
use Rattle.links.specs.Walkers.{FindsAll, FindsFrom}
use Rattle.links.specs.declared.maps.Maps.{Maps}
use Rattle.links.proofs.Turning.{turned_ancestors}

-- ---- places that are found are among so many

walk_below : (count : ℕ) (steps : List (ℕ × ℕ)) → AreWithin count steps → (a b n : ℕ) → b < count → Walk steps a b n → a < count
walk_below count steps within a b zero low same = subst (λ (x : ℕ). x < count) (sym same) low
walk_below count steps within a b (suc n) low (c, walk, (k, inside, at)) =
    let ends = within k (c, b) inside in
    walk_below count steps within a c n (subst (λ (s : ℕ × ℕ). s.0 < count) at ends.0) walk

pub found_below : (count : ℕ) (steps : List (ℕ × ℕ)) (from : ℕ) (found : List ℕ) → AreWithin count steps → from < count → FindsAll steps from found
    → (p : ℕ) → Contains found p → p < count
found_below count steps from found within low all p here =
    let walk = (all.exact p).0 here in
    walk_below count steps within p from walk.0 low walk.1

-- ---- one step and one pair

pub step_named : (names : List ℕ) (find : ℕ → Option ℕ) (pairs steps : List (ℕ × ℕ)) → ArePlaces names find → AreSteps find pairs steps
    → (p q : ℕ) → Contains {X = ℕ × ℕ} steps (p, q) → Contains {X = ℕ × ℕ} pairs (get_or names p 0, get_or names q 0)
step_named names find pairs steps h s p q (k, inside, at) =
    let size = s.sized in
    let low : k < length pairs = omega arith in
    let ends = s.ends k low in
    let is : ◌≡◌ {A = ℕ × ℕ} (pair_at steps k) (p, q) = get_or_default steps k (0, 0) (p, q) inside ∙ at in
    let first : get_or names p 0 ≡ (pair_at pairs k).0 =
    (h.sound (pair_at pairs k).0 p (ends.0 ∙ ap (λ (x : ℕ × ℕ). Some x.0) is)).1 in
    let second : get_or names q 0 ≡ (pair_at pairs k).1 =
    (h.sound (pair_at pairs k).1 q (ends.1 ∙ ap (λ (x : ℕ × ℕ). Some x.1) is)).1 in
    subst (λ (x : ℕ). Contains {X = ℕ × ℕ} pairs (x, get_or names q 0)) (sym first)
    (subst (λ (x : ℕ). Contains {X = ℕ × ℕ} pairs ((pair_at pairs k).0, x)) (sym second) (Contains-get_or pairs k (0, 0) low))

pub named_step : (find : ℕ → Option ℕ) (pairs steps : List (ℕ × ℕ)) → AreSteps find pairs steps → (a b : ℕ) → Contains {X = ℕ × ℕ} pairs (a, b)
    → (p q : ℕ) × Contains {X = ℕ × ℕ} steps (p, q) × (find a ≡ Some p) × (find b ≡ Some q)
named_step find pairs steps s a b (k, low, at) =
    let size = s.sized in
    let ends = s.ends k low in
    let is : ◌≡◌ {A = ℕ × ℕ} (pair_at pairs k) (a, b) = get_or_default pairs k (0, 0) (a, b) low ∙ at in (
      (pair_at steps k).0,
      (pair_at steps k).1,
      Contains-get_or steps k (0, 0) (omega arith),
      ap (λ (x : ℕ × ℕ). find x.0) (sym is) ∙ ends.0,
      ap (λ (x : ℕ × ℕ). find x.1) (sym is) ∙ ends.1,
    )

-- ---- walks

walk_named : (names : List ℕ) (find : ℕ → Option ℕ) (pairs steps : List (ℕ × ℕ)) → ArePlaces names find → AreSteps find pairs steps
    → (p q n : ℕ) → Walk steps p q n → Walk pairs (get_or names p 0) (get_or names q 0) n
walk_named names find pairs steps h s p q zero same = ap (λ x. get_or names x 0) same
walk_named names find pairs steps h s p q (suc n) (c, walk, step) =
    (get_or names c 0, walk_named names find pairs steps h s p c n walk, step_named names find pairs steps h s c q step)

-- up from a place
walk_up : (find : ℕ → Option ℕ) (pairs steps : List (ℕ × ℕ)) → AreSteps find pairs steps → (a b n p : ℕ) → find b ≡ Some p → Walk pairs a b n
    → (q : ℕ) × (find a ≡ Some q) × Walk steps q p n
walk_up find pairs steps s a b zero p at same = (p, ap find same ∙ at, refl)
walk_up find pairs steps s a b (suc n) p at (c, walk, pair) =
    let (pc, pb, step, first, second) = named_step find pairs steps s c b pair in
    let rest = walk_up find pairs steps s a c n pc first walk in
    let same : pb ≡ p = same_Some pb p (sym second ∙ at) in
    (rest.0, rest.1, (pc, rest.2, subst (λ (x : ℕ). Contains {X = ℕ × ℕ} steps (pc, x)) same step))

-- down from a place
walk_down : (find : ℕ → Option ℕ) (pairs steps : List (ℕ × ℕ)) → AreSteps find pairs steps → (a b n p : ℕ) → find a ≡ Some p → Walk pairs a b n
    → (q : ℕ) × (find b ≡ Some q) × Walk steps p q n
walk_down find pairs steps s a b zero p at same = (p, ap find (sym same) ∙ at, refl)
walk_down find pairs steps s a b (suc n) p at (c, walk, pair) =
    let (pc, pb, step, first, second) = named_step find pairs steps s c b pair in
    let rest = walk_down find pairs steps s a c n p at walk in
    let same : pc ≡ rest.0 = same_Some pc rest.0 (sym first ∙ rest.1) in
    (pb, second, (rest.0, rest.2, subst (λ (x : ℕ). Contains {X = ℕ × ℕ} steps (x, pb)) same step))

-- ---- what walks find, by names

-- kin of places are kin of their names
kin_named : (kin : Kin) (names : List ℕ) (find : ℕ → Option ℕ) (pairs steps : List (ℕ × ℕ)) → ArePlaces names find → AreSteps find pairs steps
    → (p q : ℕ) → IsKin kin steps p q → IsKin kin pairs (get_or names p 0) (get_or names q 0)
kin_named Ancestors names find pairs steps h s p q walk = (walk.0, walk_named names find pairs steps h s p q walk.0 walk.1)
kin_named Descendants names find pairs steps h s p q walk = (walk.0, walk_named names find pairs steps h s q p walk.0 walk.1)

kin_placed : (kin : Kin) (find : ℕ → Option ℕ) (pairs steps : List (ℕ × ℕ)) → AreSteps find pairs steps → (a b p : ℕ) → find b ≡ Some p
    → IsKin kin pairs a b → (q : ℕ) × (find a ≡ Some q) × IsKin kin steps q p
kin_placed Ancestors find pairs steps s a b p at walk =
    let (q, there, back) = walk_up find pairs steps s a b walk.0 p at walk.1 in (q, there, (walk.0, back))
kin_placed Descendants find pairs steps s a b p at walk =
    let (q, there, way) = walk_down find pairs steps s b a walk.0 p at walk.1 in (q, there, (walk.0, way))

-- the ways to kin lead to them
ways_lead : (kin : Kin) (maps : Maps) → maps.down.steps.items ≡ map turned maps.up.steps.items
    → (p q : ℕ) → IsAncestor (ways_to kin maps).steps.items p q ↔ IsKin kin maps.up.steps.items p q
ways_lead Ancestors maps back p q = ((λ walk. walk), (λ walk. walk))
ways_lead Descendants maps back p q =
    subst (λ (ss : List (ℕ × ℕ)). IsAncestor ss p q ↔ IsAncestor maps.up.steps.items q p) (sym back) (turned_ancestors maps.up.steps.items p q)

pub found_kin : (kin : Kin) (txs : Txs) (pairs : List (ℕ × ℕ)) (maps : Maps) (ids found : List ℕ) → AreMaps txs pairs maps
    → ((id : ℕ) → Contains ids id → Finds (hash.get nat_eq maps.places) id)
    → FindsFrom (ways_to kin maps).steps.items (IsPlaceOf (hash.get nat_eq maps.places) ids) found
    → (a : ℕ) → Contains (map (λ q. get_or (names_of txs) q 0) found) a ↔ ((id : ℕ) × Contains ids id × IsKin kin pairs a id)
found_kin kin txs pairs maps ids found are placed all a =
    let names : List ℕ = names_of txs in
    let find : ℕ → Option ℕ = hash.get nat_eq maps.places in
    let steps : List (ℕ × ℕ) = maps.up.steps.items in
    let h = are.places in
    let nm : ℕ → ℕ = λ q. get_or names q 0 in
    let lead = ways_lead kin maps are.back in (
      (λ here.
          let (q, there, is) = map-Contains nm found a here in
          let (p, (id, listed, at), walk) = (all.exact q).0 there in
          let near : IsKin kin pairs (nm q) (nm p) = kin_named kin names find pairs steps h are.steps q p ((lead q p).0 walk) in
          let own : IsKin kin pairs (nm q) id = subst (IsKin kin pairs (nm q)) (h.sound id p at).1 near in
          (id, listed, subst (λ (x : ℕ). IsKin kin pairs x id) is own)),
      (λ (id, listed, near).
          let (p, at) = placed id listed in
          let (q, there, close) = kin_placed kin find pairs steps are.steps a id p at near in
          subst (Contains (map nm found)) (h.sound a q there).1
          (Contains-map nm found q ((all.exact q).1 (p, (id, listed, at), (lead q p).1 close)))),
    )

-- what a call finds that lists one name
pub kin_of_one : (kin : Kin) (pairs : List (ℕ × ℕ)) (id : ℕ) (found : List ℕ)
    → ((a : ℕ) → Contains found a ↔ ((x : ℕ) × Contains (id ∷ []) x × IsKin kin pairs a x)) → (a : ℕ) → Contains found a ↔ IsKin kin pairs a id
kin_of_one kin pairs id found exact a = (
  (λ here. let (x, listed, near) = (exact a).0 here in subst (IsKin kin pairs a) (sym (Contains-one id x listed)) near),
  (λ near. (exact a).1 (id, Contains-head id [], near)),
)

-- each name once
pub names_once : (names : List ℕ) (find : ℕ → Option ℕ) (found : List ℕ) → ArePlaces names find → AreDistinct found
    → ((p : ℕ) → Contains found p → p < length names) → AreDistinct (map (λ q. get_or names q 0) found)
names_once names find found h once below =
    distinct_map (λ (q : ℕ). get_or names q 0) found once
    (λ x y first second same. same_Some x y (sym (h.complete x (below x first)) ∙ ap find same ∙ h.complete y (below y second)))

-- whether a place is found tells of its name
pub reaches_up : (names : List ℕ) (find : ℕ → Option ℕ) (pairs steps : List (ℕ × ℕ)) (a b p q : ℕ) (found : List ℕ) → ArePlaces names find
    → AreSteps find pairs steps → find a ≡ Some p → find b ≡ Some q → FindsAll steps q found → Contains found p ↔ IsAncestor pairs a b
reaches_up names find pairs steps a b p q found h s first second all = (
  (λ here.
      let walk = (all.exact p).0 here in (
        walk.0,
        subst (λ (x : ℕ). Walk pairs x b walk.0) (h.sound a p first).1 (subst (λ (x : ℕ). Walk pairs (get_or names p 0) x walk.0) (h.sound b q second).1
            (walk_named names find pairs steps h s p q walk.0 walk.1)),
      )),
  (λ walk.
      let (r, at, back) = walk_up find pairs steps s a b walk.0 q second walk.1 in
      subst (λ (x : ℕ). Contains found x) (same_Some r p (sym at ∙ first)) ((all.exact r).1 (walk.0, back))),
)
