-- A graph without a set of names that has all their ancestors, or all their descendants.
use Rattle.std.proofs.Common.{◌≡◌, ℕ, suc, zero, Bool, true, not, ◌&&◌, List, sym, subst, ap, inl, inr, ◌⊎◌, ◌↔◌}
use Rattle.std.specs.Prelude.{Contains}
use Rattle.std.specs.List.{filter}
use Rattle.std.proofs.lemmas.Bool.{cases_Bool, not-true, both_ways, and_parts, and_from}
use Rattle.lists.proofs.Distinct.{distinct-filter}
use Rattle.lists.proofs.Entries.{Contains-filter, filter-Contains}
use Rattle.graphs.specs.Graphs.{Graph, Walk, IsAncestor, IsCover, IsGraph}
use Rattle.graphs.specs.Drops.{HasParents, HasChildren, DropsNames}
use Rattle.graphs.proofs.BestLemmas.{among, among_yes, among_is}

-- what an ancestor closed set has, it has with all ancestors, and a descendant closed one with all descendants
pub up_walk : (pairs : List (ℕ × ℕ)) (set : List ℕ) → HasParents pairs set → (a b n : ℕ) → Walk pairs a b n → Contains set b → Contains set a
up_walk pairs set closed a b zero same h = subst (Contains set) (sym same) h
up_walk pairs set closed a b (suc n) walk h = up_walk pairs set closed a walk.0 n walk.1 (closed walk.0 b walk.2 h)

pub down_walk : (pairs : List (ℕ × ℕ)) (set : List ℕ) → HasChildren pairs set → (a b n : ℕ) → Walk pairs a b n → Contains set a → Contains set b
down_walk pairs set closed a b zero same h = subst (Contains set) same h
down_walk pairs set closed a b (suc n) walk h = closed walk.0 b walk.2 (down_walk pairs set closed a walk.0 n walk.1 h)

module _ (old new : Graph) (gone : List ℕ) (left : DropsNames old gone new) where
  old_walk : (a b n : ℕ) → Walk new.pairs a b n → Walk old.pairs a b n
  old_walk a b zero same = same
  old_walk a b (suc n) walk = (walk.0, old_walk a walk.0 n walk.1, ((left.pairs walk.0 b).0 walk.2).2)

  start_left : (a b n : ℕ) → Walk new.pairs a b (suc n) → Contains gone a → ⊥
  start_left a b zero walk = subst (λ (x : ℕ). Contains gone x → ⊥) (sym walk.1) ((left.pairs walk.0 b).0 walk.2).0
  start_left a b (suc n) walk = start_left a walk.0 n walk.1

  pub graph_left : IsGraph old → IsGraph new
  graph_left graph = record {
    names = left.names_once;
    pairs = left.pairs_once;
    ends = λ parent child pair.
        let there = (left.pairs parent child).0 pair in
        let both = graph.ends parent child there.2 in
        ((left.names parent).1 (both.0, there.0), (left.names child).1 (both.1, there.1));
    acyclic = λ a n walk. graph.acyclic a n (old_walk a a (suc n) walk);
  }

  -- no walk between two names that stay enters what goes
  new_walk : HasParents old.pairs gone ⊎ HasChildren old.pairs gone → (a b n : ℕ) → (Contains gone a → ⊥) → (Contains gone b → ⊥)
      → Walk old.pairs a b n → Walk new.pairs a b n
  new_walk closed a b zero first last same = same
  new_walk closed a b (suc n) first last walk =
      let here : Contains gone walk.0 → ⊥ = λ h. elim closed [
        | inl up ↦ first (up_walk old.pairs gone up a walk.0 n walk.1 h)
        | inr down ↦ last (down walk.0 b walk.2 h)
      ] in
      (walk.0, new_walk closed a walk.0 n first here walk.1, (left.pairs walk.0 b).1 (here, last, walk.2))

  old_ancestor : (a b n : ℕ) → Walk new.pairs a b n → (a ≡ b) ⊎ ((Contains gone a → ⊥) × (Contains gone b → ⊥) × IsAncestor old.pairs a b)
  old_ancestor a b zero same = inl same
  old_ancestor a b (suc n) walk = inr (start_left a b n walk, ((left.pairs walk.0 b).0 walk.2).1, (suc n, old_walk a b (suc n) walk))

  pub ancestors_left : HasParents old.pairs gone ⊎ HasChildren old.pairs gone
      → (a b : ℕ) → IsAncestor new.pairs a b ↔ ((a ≡ b) ⊎ ((Contains gone a → ⊥) × (Contains gone b → ⊥) × IsAncestor old.pairs a b))
  ancestors_left closed a b = (
    λ walk. old_ancestor a b walk.0 walk.1,
    λ there. elim there [
      | inl same ↦ (0, same)
      | inr far ↦ (far.2.0, new_walk closed a b far.2.0 far.0 far.1 far.2.1)
    ],
  )

  -- what stands between two names that stay, stays
  between_left : HasParents old.pairs gone ⊎ HasChildren old.pairs gone → (a b c : ℕ) → (Contains gone a → ⊥) → (Contains gone b → ⊥)
      → IsAncestor old.pairs a c → IsAncestor old.pairs c b → Contains gone c → ⊥
  between_left closed a b c first last above below h = elim closed [
    | inl up ↦ first (up_walk old.pairs gone up a c above.0 above.1 h)
    | inr down ↦ last (down_walk old.pairs gone down c b below.0 below.1 h)
  ]

  old_cover : HasParents old.pairs gone ⊎ HasChildren old.pairs gone → (a b : ℕ) → IsCover new.pairs a b
      → (Contains gone a → ⊥) × (Contains gone b → ⊥) × IsCover old.pairs a b
  old_cover closed a b cover = elim ((ancestors_left closed a b).0 cover.ancestor) [
    | inl same ↦ absurd (cover.other same)
    | inr there ↦ (
      there.0,
      there.1,
      record {
        ancestor = there.2;
        other = cover.other;
        between = λ c above below.
            let stays = between_left closed a b c there.0 there.1 above below in
            cover.between c (above.0, new_walk closed a c above.0 there.0 stays above.1) (below.0, new_walk closed c b below.0 stays there.1 below.1);
      },
    )
  ]

  pub covers_left : HasParents old.pairs gone ⊎ HasChildren old.pairs gone → (a b : ℕ)
      → IsCover new.pairs a b ↔ ((Contains gone a → ⊥) × (Contains gone b → ⊥) × IsCover old.pairs a b)
  covers_left closed a b = (
    old_cover closed a b,
    λ there. record {
      ancestor = (there.2.ancestor.0, new_walk closed a b there.2.ancestor.0 there.0 there.1 there.2.ancestor.1);
      other = there.2.other;
      between = λ c above below. there.2.between c (above.0, old_walk a c above.0 above.1) (below.0, old_walk c b below.0 below.1);
    },
  )

-- ---- every graph has one without a list of names
module _ (old : Graph) (gone : List ℕ) (graph : IsGraph old) where
  stays : ℕ → Bool
  stays id = not (among gone id)

  both_stay : ℕ × ℕ → Bool
  both_stay pair = stays pair.0 && stays pair.1

  stays_is : (id : ℕ) → stays id ≡ true → Contains gone id → ⊥
  unfolding stays
  stays_is id e h = both_ways (among gone id) (not-true (among gone id) e) (among_is gone id h)

  is_stays : (id : ℕ) → (Contains gone id → ⊥) → stays id ≡ true
  unfolding stays
  is_stays id out = elim (cases_Bool (among gone id)) [
    | inl inside ↦ absurd (out (among_yes gone id inside))
    | inr beyond ↦ ap not beyond
  ]

  pub some_left : (new : Graph) × DropsNames old gone new
  unfolding both_stay
  some_left = (
    record { names = filter stays old.names; pairs = filter both_stay old.pairs },
    record {
      names = λ a. (
        (λ h. let there = filter-Contains stays old.names a h in (there.1, stays_is a there.0)),
        (λ there. Contains-filter stays old.names a (is_stays a there.1) there.0),
      );
      names_once = distinct-filter stays old.names graph.names;
      pairs = λ a b. (
        (λ h.
            let there = filter-Contains both_stay old.pairs (a, b) h in
            let ends = and_parts (stays a) (stays b) there.0 in
            (stays_is a ends.0, stays_is b ends.1, there.1)),
        (λ there. Contains-filter both_stay old.pairs (a, b) (and_from (stays a) (stays b) (is_stays a there.0) (is_stays b there.1)) there.2),
      );
      pairs_once = distinct-filter both_stay old.pairs graph.pairs;
    },
  )
