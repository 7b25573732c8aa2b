-- Steps the other way.
use Rattle.std.proofs.Common.{ℕ, zero, suc, ◌<◌, List, map, sym, ap, subst}
use Rattle.std.specs.Prelude.{Contains, ◌↔◌}
use Rattle.std.proofs.lemmas.List.Elements.{All-map}
use Rattle.lists.proofs.Entries.{Contains-map, map-Contains}
use Rattle.graphs.specs.Graphs.{Walk, IsAncestor}
use Rattle.graphs.proofs.WalkLemmas.{walk_cons}
use Rattle.places.specs.Chains.{AreWithin, turned}

pub turned_within : (count : ℕ) (steps : List (ℕ × ℕ)) → AreWithin count steps → AreWithin count (map turned steps)
turned_within count steps within =
    let P : ℕ × ℕ → Type 0 = λ step. (step.0 < count) × (step.1 < count) in
    All-map P turned steps (λ k d less. let w = within k d less in (w.1, w.0))

pub turned_step : (steps : List (ℕ × ℕ)) (a b : ℕ) → Contains {X = ℕ × ℕ} (map turned steps) (a, b) → Contains {X = ℕ × ℕ} steps (b, a)
turned_step steps a b here =
    let found = map-Contains turned steps (a, b) here in
    subst (λ (s : ℕ × ℕ). Contains {X = ℕ × ℕ} steps s) (ap turned found.2) found.1

pub step_turned : (steps : List (ℕ × ℕ)) (a b : ℕ) → Contains {X = ℕ × ℕ} steps (a, b) → Contains {X = ℕ × ℕ} (map turned steps) (b, a)
step_turned steps a b here = Contains-map turned steps (a, b) here

walk_turned : (steps : List (ℕ × ℕ)) (a b n : ℕ) → Walk (map turned steps) a b n → IsAncestor steps b a
walk_turned steps a b zero same = (0, sym same)
walk_turned steps a b (suc n) (c, walk, step) =
    let rest : IsAncestor steps c a = walk_turned steps a c n walk in
    (suc rest.0, walk_cons steps b c a rest.0 (turned_step steps c b step) rest.1)

walk_back : (steps : List (ℕ × ℕ)) (a b n : ℕ) → Walk steps a b n → IsAncestor (map turned steps) b a
walk_back steps a b zero same = (0, sym same)
walk_back steps a b (suc n) (c, walk, step) =
    let rest : IsAncestor (map turned steps) c a = walk_back steps a c n walk in
    (suc rest.0, walk_cons (map turned steps) b c a rest.0 (step_turned steps c b step) rest.1)

-- ancestors along turned steps are descendants
pub turned_ancestors : (steps : List (ℕ × ℕ)) (a b : ℕ) → IsAncestor (map turned steps) a b ↔ IsAncestor steps b a
turned_ancestors steps a b = ((λ h. walk_turned steps a b h.0 h.1), (λ h. walk_back steps b a h.0 h.1))
