-- Walks one way or both: how they begin, go on and stay within a closed list.
use Rattle.std.proofs.Common.{◌≡◌, ℕ, suc, zero, ◌+◌, ◌<◌, ◌≤◌, List, [], ◌∷◌, ◌++◌, length, get_or, take, sym, refl, subst, inl, inr}
use Rattle.std.proofs.lemmas.List.{take_more, take_all}
use Rattle.std.proofs.lemmas.List.Elements.{Contains-push_cases}
use Rattle.std.specs.Prelude.{Contains}
use Rattle.graphs.specs.Graphs.{Walk, Trail}
use Rattle.graphs.proofs.WalkLemmas.{walk_cons}
use Rattle.plain_graph.specs.declared.walk.Way.{Way}
use Rattle.plain_graph.specs.declared.walk.Way.TheVariants.{Up, Down, Either}
use Rattle.plain_graph.specs.Walks.{Leads, Reaches, ReachesFrom, PairStays, IsClosed, LeadsOut}

pub reaches_on : (way : Way) (pairs : List (ℕ × ℕ)) (a b c : ℕ) → Reaches way pairs a b → Leads way pairs b c → Reaches way pairs a c
reaches_on Up pairs a b c walk lead = elim lead [
  | inl up ↦ (suc walk.0, walk_cons pairs c b a walk.0 up.1 walk.1)
  | inr down ↦ absurd (let e = down.0 in cc)
]
reaches_on Down pairs a b c walk lead = elim lead [
  | inl up ↦ absurd (let e = up.0 in cc)
  | inr down ↦ (suc walk.0, (b, walk.1, down.1))
]
reaches_on Either pairs a b c walk lead = elim lead [
  | inl up ↦ (suc walk.0, (b, walk.1, inr up.1))
  | inr down ↦ (suc walk.0, (b, walk.1, inl down.1))
]

stays_up : (way : Way) (pairs : List (ℕ × ℕ)) (ids : List ℕ) (a b n : ℕ)
    → ((p c : ℕ) → Contains pairs (p, c) → Contains ids c → Contains ids p) → Contains ids a → Walk pairs b a n → Contains ids b
stays_up way pairs ids a b zero closed inside same = subst (Contains ids) (sym same) inside
stays_up way pairs ids a b (suc n) closed inside walk = stays_up way pairs ids walk.0 b n closed (closed walk.0 a walk.2 inside) walk.1

stays_down : (pairs : List (ℕ × ℕ)) (ids : List ℕ) (a b n : ℕ)
    → ((p c : ℕ) → Contains pairs (p, c) → Contains ids p → Contains ids c) → Contains ids a → Walk pairs a b n → Contains ids b
stays_down pairs ids a b zero closed inside same = subst (Contains ids) same inside
stays_down pairs ids a b (suc n) closed inside walk = closed walk.0 b walk.2 (stays_down pairs ids a walk.0 n closed inside walk.1)

stays_either : (pairs : List (ℕ × ℕ)) (ids : List ℕ) (a b n : ℕ) → IsClosed Either pairs ids → Contains ids a → Trail pairs a b n → Contains ids b
stays_either pairs ids a b zero closed inside same = subst (Contains ids) same inside
stays_either pairs ids a b (suc n) closed inside trail =
    let here : Contains ids trail.0 = stays_either pairs ids a trail.0 n closed inside trail.1 in elim trail.2 [
      | inl down ↦ (closed trail.0 b down).down refl here
      | inr up ↦ (closed b trail.0 up).up refl here
    ]

-- a walk from a list that no pair leads out of ends in it
pub stays : (way : Way) (pairs : List (ℕ × ℕ)) (ids : List ℕ) (a b : ℕ) → IsClosed way pairs ids → Contains ids a → Reaches way pairs a b → Contains ids b
stays Up pairs ids a b closed inside walk = stays_up Up pairs ids a b walk.0 (λ p c pair. (closed p c pair).up refl) inside walk.1
stays Down pairs ids a b closed inside walk = stays_down pairs ids a b walk.0 (λ p c pair. (closed p c pair).down refl) inside walk.1
stays Either pairs ids a b closed inside trail = stays_either pairs ids a b trail.0 closed inside trail.1

-- what a pair leads out to is reached
pub reached_next : (way : Way) (pairs : List (ℕ × ℕ)) (starts ids : List ℕ) (id : ℕ)
    → ((q : ℕ) → Contains ids q → ReachesFrom way pairs starts q) → LeadsOut way pairs ids id → ReachesFrom way pairs starts id
reached_next way pairs starts ids id reached out =
    let walk : ReachesFrom way pairs starts out.from = reached out.from out.inside in
    (walk.0, walk.1, reaches_on way pairs walk.0 out.from id walk.2 out.lead)

same_pair : (way : Way) (ids : List ℕ) (pair : ℕ × ℕ) (parent child : ℕ)
    → ◌≡◌ {A = ℕ × ℕ} pair (parent, child) → PairStays way ids pair.0 pair.1 → PairStays way ids parent child
same_pair way ids pair parent child same stay = subst (λ (pair : ℕ × ℕ). PairStays way ids pair.0 pair.1) same stay

pub closed_push : (way : Way) (pairs : List (ℕ × ℕ)) (ids : List ℕ) (pair : ℕ × ℕ)
    → IsClosed way pairs ids → PairStays way ids pair.0 pair.1 → IsClosed way (pairs ++ pair ∷ []) ids
closed_push way pairs ids pair closed stay parent child here = elim (Contains-push_cases pairs pair (parent, child) here) [
  | inl before ↦ closed parent child before
  | inr same ↦ same_pair way ids pair parent child same stay
]

pub closed_more : (way : Way) (pairs : List (ℕ × ℕ)) (ids : List ℕ) (i : ℕ) (d : ℕ × ℕ) → i < length pairs
    → IsClosed way (take i pairs) ids → PairStays way ids (get_or pairs i d).0 (get_or pairs i d).1 → IsClosed way (take (i + 1) pairs) ids
closed_more way pairs ids i d below closed stay =
    subst (λ (front : List (ℕ × ℕ)). IsClosed way front ids) (sym (take_more pairs i d below))
    (closed_push way (take i pairs) ids (get_or pairs i d) closed stay)

pub closed_all : (way : Way) (pairs : List (ℕ × ℕ)) (ids : List ℕ) (i : ℕ) → length pairs ≤ i → IsClosed way (take i pairs) ids → IsClosed way pairs ids
closed_all way pairs ids i past closed = subst (λ (front : List (ℕ × ℕ)). IsClosed way front ids) (take_all i pairs past) closed
