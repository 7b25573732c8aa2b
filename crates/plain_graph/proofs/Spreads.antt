-- The list of names found so far, while names that pairs lead to are added.
use Rattle.std.proofs.Common.{◌≡◌, ℕ, ◌+◌, ◌-◌, ◌<◌, ◌≤◌, List, [], ◌∷◌, ◌++◌, length, subst, inl, inr, arith}
use Rattle.std.specs.Prelude.{Contains, nat_eq}
use Rattle.std.specs.List.{IsDistinct}
use Rattle.std.specs.List.Sorted.{IsPermutation, IsNonDecreasing}
use Rattle.std.specs.Cmp.{nat_eq_equiv}
use Rattle.std.proofs.lemmas.List.{length_push}
use Rattle.std.proofs.lemmas.List.Elements.{Contains-push_cases, Contains-append_left}
use Rattle.std.proofs.lemmas.List.Sorted.{Contains-permutation, IsPermutation-sym}
use Rattle.std.proofs.lemmas.Bool.Decides.{Decides-eqb}
use Rattle.std.proofs.lemmas.Map.Keys.{IsDistinct-push, IsDistinct-IsPermutation, IsStrictlyIncreasing-from_distinct}
use Rattle.std.proofs.lemmas.Map.Made.{is_member-Decides}
use Rattle.std.proofs.lemmas.Bool.{false_from_ne_true}
use Rattle.graphs.specs.Rooms.{Room}
use Rattle.graphs.specs.Graphs.{Lists}
use Rattle.graphs.proofs.ListLemmas.{length-within}
use Rattle.plain_graph.specs.declared.walk.Way.{Way}
use Rattle.plain_graph.specs.Walks.{Leads, ReachesFrom, IsClosed, LeadsOut, EndsAreAmong, HoldsAll}
use Rattle.plain_graph.proofs.Ways.{reached_next, stays}

-- The list begins with the starts, holds names that walks lead to, each once, and has room for all of them.
pub record Spreading (way : Way) (pairs : List (ℕ × ℕ)) (first now : Room) : Type 0 where
  pub held : HoldsAll pairs now.ids (length now.ids + now.room)
  pub distinct : IsDistinct nat_eq now.ids
  pub starts : (id : ℕ) → Contains first.ids id → Contains now.ids id
  pub reached : (id : ℕ) → Contains now.ids id → ReachesFrom way pairs first.ids id
  pub same_room : length now.ids + now.room ≡ length first.ids + first.room

distinct_push : (ids : List ℕ) (id : ℕ) → IsDistinct nat_eq ids → (Contains ids id → ⊥) → IsDistinct nat_eq (ids ++ id ∷ [])
distinct_push ids id distinct outside =
    IsDistinct-push nat_eq_equiv ids id distinct (false_from_ne_true _ (λ is. outside ((is_member-Decides Decides-eqb ids id).0 is)))

lead_inside : (way : Way) (pairs : List (ℕ × ℕ)) (names : List ℕ) (a b : ℕ) → EndsAreAmong names pairs → Leads way pairs a b → Contains names b
lead_inside way pairs names a b ends lead = elim lead [ inl up ↦ (ends b a up.1).0 | inr down ↦ (ends a b down.1).1 ]

-- the names found and the next one are among the names that the places hold
inside_push : (way : Way) (pairs : List (ℕ × ℕ)) (ids names : List ℕ) (id : ℕ) → EndsAreAmong names pairs
    → ((q : ℕ) → Contains ids q → Contains names q) → LeadsOut way pairs ids id → (q : ℕ) → Contains (ids ++ id ∷ []) q → Contains names q
inside_push way pairs ids names id ends inside out q here = elim (Contains-push_cases ids id q here) [
  | inl before ↦ inside q before
  | inr same ↦ subst (Contains names) same (lead_inside way pairs names out.from id ends out.lead)
]

pub room_left : (way : Way) (pairs : List (ℕ × ℕ)) (first now : Room) (id : ℕ) → Spreading way pairs first now → LeadsOut way pairs now.ids id → 0 < now.room
room_left way pairs first now id so out =
    let within : length (now.ids ++ id ∷ []) ≤ length so.held.names =
    length-within (now.ids ++ id ∷ []) so.held.names (distinct_push now.ids id so.distinct out.outside)
    (inside_push way pairs now.ids so.held.names id so.held.ends so.held.inside out) in
    let longer : length (now.ids ++ id ∷ []) ≡ length now.ids + 1 = length_push now.ids id in
    let enough : length so.held.names ≤ length now.ids + now.room = so.held.enough in
    omega arith

pub spreading_on : (way : Way) (pairs : List (ℕ × ℕ)) (first now : Room) (id : ℕ) → Spreading way pairs first now
    → LeadsOut way pairs now.ids id → Spreading way pairs first (record { ids = now.ids ++ id ∷ []; room = now.room - 1 })
spreading_on way pairs first now id so out =
    let left : 0 < now.room = room_left way pairs first now id so out in
    let longer : length (now.ids ++ id ∷ []) ≡ length now.ids + 1 = length_push now.ids id in
    let enough : length so.held.names ≤ length now.ids + now.room = so.held.enough in
    let same : length now.ids + now.room ≡ length first.ids + first.room = so.same_room in
    record {
      held = record {
        names = so.held.names;
        ends = so.held.ends;
        inside = inside_push way pairs now.ids so.held.names id so.held.ends so.held.inside out;
        enough = omega arith;
      };
      distinct = distinct_push now.ids id so.distinct out.outside;
      starts = λ q here. Contains-append_left now.ids (id ∷ []) q (so.starts q here);
      reached = λ q here. elim (Contains-push_cases now.ids id q here) [
        | inl before ↦ so.reached q before
        | inr same ↦ subst (ReachesFrom way pairs first.ids) same (reached_next way pairs first.ids now.ids id so.reached out)
      ];
      same_room = omega arith;
    }

-- where no pair leads out, the sorted list is the list of the names that walks lead to
pub spread_lists : (way : Way) (pairs : List (ℕ × ℕ)) (first now : Room) (sorted : List ℕ) → Spreading way pairs first now
    → IsClosed way pairs now.ids → IsPermutation now.ids sorted → IsNonDecreasing sorted → Lists (ReachesFrom way pairs first.ids) sorted
spread_lists way pairs first now sorted so closed moved rising = record {
  rising = IsStrictlyIncreasing-from_distinct sorted rising (IsDistinct-IsPermutation nat_eq nat_eq_equiv.symm now.ids sorted moved so.distinct);
  exact = λ id. (
    λ here. so.reached id (Contains-permutation sorted now.ids id (IsPermutation-sym now.ids sorted moved) here),
    λ walk. Contains-permutation now.ids sorted id moved (stays way pairs now.ids walk.0 id closed (so.starts walk.0 walk.1) walk.2),
  );
}
