-- What one more pair does to walks and trails.
use Rattle.std.proofs.Common.{◌≡◌, ℕ, suc, zero, List, [], ◌∷◌, ◌++◌, sym, refl, subst, ap, inl, inr, ◌⊎◌, ◌↔◌}
use Rattle.std.specs.Prelude.{Contains}
use Rattle.std.proofs.lemmas.List.Elements.{Contains-push, Contains-push_cases, Contains-append_left}
use Rattle.graphs.specs.Graphs.{Walk, IsAncestor, Trail, AreConnected}
use Rattle.graphs.specs.Graphs.{HasNoCycle}
use Rattle.graphs.proofs.WalkLemmas.{walk_within, IsAncestor-trans, AreConnected-trans, AreConnected-itself, IsAncestor-itself}

-- the pairs with one more
abbrev with_pair : List (ℕ × ℕ) → ℕ → ℕ → List (ℕ × ℕ)
with_pair pairs p c = pairs ++ (p, c) ∷ []

ancestor_kept : (pairs : List (ℕ × ℕ)) (p c a b : ℕ) → IsAncestor pairs a b → IsAncestor (with_pair pairs p c) a b
ancestor_kept pairs p c a b walk =
    (walk.0, walk_within pairs (with_pair pairs p c) (λ x y pair. Contains-append_left pairs ((p, c) ∷ []) (x, y) pair) a b walk.0 walk.1)

new_pair : (pairs : List (ℕ × ℕ)) (p c : ℕ) → IsAncestor (with_pair pairs p c) p c
new_pair pairs p c = (1, (p, refl, Contains-push pairs (p, c)))

-- a pair of the longer list is an old one, or the new one
either_pair : (pairs : List (ℕ × ℕ)) (p c a b : ℕ) → Contains (with_pair pairs p c) (a, b) → Contains pairs (a, b) ⊎ ((a ≡ p) × (b ≡ c))
either_pair pairs p c a b here = elim (Contains-push_cases pairs (p, c) (a, b) here) [
  | inl old ↦ inl old
  | inr same ↦ inr (ap (λ (pair : ℕ × ℕ). pair.0) (sym same), ap (λ (pair : ℕ × ℕ). pair.1) (sym same))
]

ancestor_step : (pairs : List (ℕ × ℕ)) (a b c : ℕ) → IsAncestor pairs a b → Contains pairs (b, c) → IsAncestor pairs a c
ancestor_step pairs a b c walk pair = (suc walk.0, (b, walk.1, pair))

-- an ancestor with the new pair: by old pairs, or down to its parent and on from its child
abbrev pub ThroughPair : List (ℕ × ℕ) → ℕ → ℕ → ℕ → ℕ → Type 0
ThroughPair pairs p c a b = IsAncestor pairs a b ⊎ (IsAncestor pairs a p × IsAncestor pairs c b)

through_old : (pairs : List (ℕ × ℕ)) (p c a d b : ℕ) → ThroughPair pairs p c a d → Contains pairs (d, b) → ThroughPair pairs p c a b
through_old pairs p c a d b through pair = elim through [
  | inl old ↦ inl (ancestor_step pairs a d b old pair)
  | inr parts ↦ inr (parts.0, ancestor_step pairs c d b parts.1 pair)
]

through_new : (pairs : List (ℕ × ℕ)) (p c a d b : ℕ) → ThroughPair pairs p c a d → d ≡ p → b ≡ c → ThroughPair pairs p c a b
through_new pairs p c a d b through first second = elim through [
  | inl old ↦ inr (subst (IsAncestor pairs a) first old, IsAncestor-itself pairs c b (sym second))
  | inr parts ↦ inr (parts.0, IsAncestor-itself pairs c b (sym second))
]

through : (pairs : List (ℕ × ℕ)) (p c a b n : ℕ) → Walk (with_pair pairs p c) a b n → ThroughPair pairs p c a b
through pairs p c a b zero same = inl (0, same)
through pairs p c a b (suc n) walk =
    let before : ThroughPair pairs p c a walk.0 = through pairs p c a walk.0 n walk.1 in elim (either_pair pairs p c walk.0 b walk.2) [
      | inl old ↦ through_old pairs p c a walk.0 b before old
      | inr new ↦ through_new pairs p c a walk.0 b before new.0 new.1
    ]

through_back : (pairs : List (ℕ × ℕ)) (p c a b : ℕ) → ThroughPair pairs p c a b → IsAncestor (with_pair pairs p c) a b
through_back pairs p c a b through = elim through [
  | inl old ↦ ancestor_kept pairs p c a b old
  | inr parts ↦ IsAncestor-trans (with_pair pairs p c) a p b (ancestor_kept pairs p c a p parts.0)
      (IsAncestor-trans (with_pair pairs p c) p c b (new_pair pairs p c) (ancestor_kept pairs p c c b parts.1))
]

pub ancestors_through : (pairs : List (ℕ × ℕ)) (p c a b : ℕ) → IsAncestor (pairs ++ (p, c) ∷ []) a b ↔ ThroughPair pairs p c a b
ancestors_through pairs p c a b = (λ walk. through pairs p c a b walk.0 walk.1, through_back pairs p c a b)

trail_kept : (pairs : List (ℕ × ℕ)) (p c a b n : ℕ) → Trail pairs a b n → Trail (with_pair pairs p c) a b n
trail_kept pairs p c a b zero same = same
trail_kept pairs p c a b (suc n) trail = (
  trail.0,
  trail_kept pairs p c a trail.0 n trail.1,
  elim trail.2
      [ inl down ↦ inl (Contains-append_left pairs ((p, c) ∷ []) (trail.0, b) down) | inr up ↦ inr (Contains-append_left pairs ((p, c) ∷ []) (b, trail.0) up) ],
)

connected_kept : (pairs : List (ℕ × ℕ)) (p c a b : ℕ) → AreConnected pairs a b → AreConnected (with_pair pairs p c) a b
connected_kept pairs p c a b trail = (trail.0, trail_kept pairs p c a b trail.0 trail.1)

down_pair : (pairs : List (ℕ × ℕ)) (p c : ℕ) → AreConnected (with_pair pairs p c) p c
down_pair pairs p c = (1, (p, refl, inl (Contains-push pairs (p, c))))

up_pair : (pairs : List (ℕ × ℕ)) (p c : ℕ) → AreConnected (with_pair pairs p c) c p
up_pair pairs p c = (1, (c, refl, inr (Contains-push pairs (p, c))))

-- connected with the new pair: by old pairs, or through it, down or up
abbrev pub Across : List (ℕ × ℕ) → ℕ → ℕ → ℕ → ℕ → Type 0
Across pairs p c a b = AreConnected pairs a b ⊎ ((AreConnected pairs a p × AreConnected pairs c b) ⊎ (AreConnected pairs a c × AreConnected pairs p b))

connected_step : (pairs : List (ℕ × ℕ)) (a d b : ℕ) → AreConnected pairs a d → Contains pairs (d, b) ⊎ Contains pairs (b, d) → AreConnected pairs a b
connected_step pairs a d b trail step = (suc trail.0, (d, trail.1, step))

across_old : (pairs : List (ℕ × ℕ)) (p c a d b : ℕ) → Across pairs p c a d → Contains pairs (d, b) ⊎ Contains pairs (b, d) → Across pairs p c a b
across_old pairs p c a d b across step = elim across [
  | inl old ↦ inl (connected_step pairs a d b old step)
  | inr new ↦ elim new [
    | inl down ↦ inr (inl (down.0, connected_step pairs c d b down.1 step))
    | inr up ↦ inr (inr (up.0, connected_step pairs p d b up.1 step))
  ]
]

across_down : (pairs : List (ℕ × ℕ)) (p c a d b : ℕ) → Across pairs p c a d → d ≡ p → b ≡ c → Across pairs p c a b
across_down pairs p c a d b across first second = elim across [
  | inl old ↦ inr (inl (subst (AreConnected pairs a) first old, AreConnected-itself pairs c b (sym second)))
  | inr new ↦ elim new [
    | inl down ↦ inr (inl (down.0, AreConnected-itself pairs c b (sym second)))
    | inr up ↦ inl (subst (AreConnected pairs a) (sym second) up.0)
  ]
]

across_up : (pairs : List (ℕ × ℕ)) (p c a d b : ℕ) → Across pairs p c a d → b ≡ p → d ≡ c → Across pairs p c a b
across_up pairs p c a d b across first second = elim across [
  | inl old ↦ inr (inr (subst (AreConnected pairs a) second old, AreConnected-itself pairs p b (sym first)))
  | inr new ↦ elim new [
    | inl down ↦ inl (subst (AreConnected pairs a) (sym first) down.0)
    | inr up ↦ inr (inr (up.0, AreConnected-itself pairs p b (sym first)))
  ]
]

across_step : (pairs : List (ℕ × ℕ)) (p c a d b : ℕ) → Across pairs p c a d
    → Contains (with_pair pairs p c) (d, b) ⊎ Contains (with_pair pairs p c) (b, d) → Across pairs p c a b
across_step pairs p c a d b across step = elim step [
  | inl there ↦ elim (either_pair pairs p c d b
      there) [ inl old ↦ across_old pairs p c a d b across (inl old) | inr new ↦ across_down pairs p c a d b across new.0 new.1 ]
  | inr back ↦
      elim (either_pair pairs p c b d back) [ inl old ↦ across_old pairs p c a d b across (inr old) | inr new ↦ across_up pairs p c a d b across new.0 new.1 ]
]

across : (pairs : List (ℕ × ℕ)) (p c a b n : ℕ) → Trail (with_pair pairs p c) a b n → Across pairs p c a b
across pairs p c a b zero same = inl (0, same)
across pairs p c a b (suc n) trail = across_step pairs p c a trail.0 b (across pairs p c a trail.0 n trail.1) trail.2

across_back : (pairs : List (ℕ × ℕ)) (p c a b : ℕ) → Across pairs p c a b → AreConnected (with_pair pairs p c) a b
across_back pairs p c a b across = elim across [
  | inl old ↦ connected_kept pairs p c a b old
  | inr new ↦ elim new [
    | inl down ↦ AreConnected-trans (with_pair pairs p c) a p b (connected_kept pairs p c a p down.0)
        (AreConnected-trans (with_pair pairs p c) p c b (down_pair pairs p c) (connected_kept pairs p c c b down.1))
    | inr up ↦ AreConnected-trans (with_pair pairs p c) a c b (connected_kept pairs p c a c up.0)
        (AreConnected-trans (with_pair pairs p c) c p b (up_pair pairs p c) (connected_kept pairs p c p b up.1))
  ]
]

pub connected_across : (pairs : List (ℕ × ℕ)) (p c a b : ℕ) → AreConnected (pairs ++ (p, c) ∷ []) a b ↔ Across pairs p c a b
connected_across pairs p c a b = (λ trail. across pairs p c a b trail.0 trail.1, across_back pairs p c a b)

closes : (pairs : List (ℕ × ℕ)) (p c : ℕ) → HasNoCycle (with_pair pairs p c) → IsAncestor pairs c p → ⊥
closes pairs p c none walk = let kept = ancestor_kept pairs p c c p walk in none c kept.0 (p, kept.1, Contains-push pairs (p, c))

-- the last pair of a cycle is an old one
old_last : (pairs : List (ℕ × ℕ)) (p c a d : ℕ) → HasNoCycle pairs → (IsAncestor pairs c p → ⊥) → ThroughPair pairs p c a d → Contains pairs (d, a) → ⊥
old_last pairs p c a d none apart through pair = elim through [
  | inl old ↦ none a old.0 (d, old.1, pair)
  | inr parts ↦ apart (IsAncestor-trans pairs c a p (ancestor_step pairs c d a parts.1 pair) parts.0)
]

-- the last pair of a cycle is the new one
new_last : (pairs : List (ℕ × ℕ)) (p c a d : ℕ) → (IsAncestor pairs c p → ⊥) → ThroughPair pairs p c a d → d ≡ p → a ≡ c → ⊥
new_last pairs p c a d apart through first second = elim through [
  | inl old ↦ apart (subst (λ (x : ℕ). IsAncestor pairs x p) second (subst (IsAncestor pairs a) first old))
  | inr parts ↦ apart (subst (IsAncestor pairs c) first parts.1)
]

opens : (pairs : List (ℕ × ℕ)) (p c : ℕ) → HasNoCycle pairs → (IsAncestor pairs c p → ⊥) → HasNoCycle (with_pair pairs p c)
opens pairs p c none apart a n walk =
    let before : ThroughPair pairs p c a walk.0 = through pairs p c a walk.0 n walk.1 in elim (either_pair pairs p c walk.0 a walk.2) [
      | inl old ↦ old_last pairs p c a walk.0 none apart before old
      | inr new ↦ new_last pairs p c a walk.0 apart before new.0 new.1
    ]

pub no_cycle_with_pair : (pairs : List (ℕ × ℕ)) (p c : ℕ) → HasNoCycle pairs → HasNoCycle (pairs ++ (p, c) ∷ []) ↔ (IsAncestor pairs c p → ⊥)
no_cycle_with_pair pairs p c none = (closes pairs p c, opens pairs p c none)
