-- Where the clusters of components that stay stand under their numbers still, a level keeps their parts. So it is where clusters are exchanged, and
-- no component that stays has a name of those that go out.
use Rattle.std.proofs.Common.{◌≡◌, ℕ, ◌*◌, List, [], ◌∷◌, Contains, Some, inl, inr, sym, ap, ◌∙◌, subst}
use Rattle.std.specs.Prelude.{slice_get}
use Rattle.std.proofs.lemmas.Option.{same_Some}
use Rattle.lists.proofs.Entries.{Contains-head, Contains-cases, none_in_empty}
use Rattle.graphs.specs.declared.names.Level.{Level}
use Rattle.graphs.specs.Certificates.{Part}
use Rattle.graphs.specs.Closures.{Closure}
use Rattle.cluster.specs.Clusters.{Cluster}
use Rattle.cluster_store.specs.Laws.{Stands, StandsAt, Stays}
use Rattle.cluster_store.specs.Stores.{Stored, Numbered, IsStore}
use Rattle.cluster_store.proofs.Orders.{orders_are_kept}
use Rattle.levels.specs.Changes.{IsNamed, IsRebuilt, Rebuilds}
use Rattle.levels.specs.Levels.{OneLevel}
use Rattle.levels.specs.Shelves.{Shelf, IsInOrder, one_of, seen_at, view_of}
use Rattle.levels.specs.Stays.{IsComponent, IsSameComponent, IsOfSameComponent, KeepsComponents}
use Rattle.levels.specs.Views.{View, IsIndexed, graph_of}
use Rattle.levels.proofs.Finds.{indexed_at}
use Rattle.levels.proofs.Graphs.{live_in, one_number}
use Rattle.levels.proofs.Placing.{placed, shown, in_cluster, parts_before, places_before}
use Rattle.levels.proofs.Rebuilt.{named_out, stays}
use Rattle.levels.proofs.Shelved.{stands_seen}

-- ---- a level whose clusters of components that stay are where they were

-- components of a level that stay keep their parts
abbrev pub LevelKeeps : OneLevel → OneLevel → Type 0
LevelKeeps old new = KeepsComponents old.graph old.parts new.graph new.parts

-- a cluster that has a name of a component that stays is seen under its number still
abbrev pub StaySeen : View → View → Type 0
StaySeen old new =
    (ids : List ℕ) (n id : ℕ) (c : Cluster) → IsSameComponent (graph_of old) (graph_of new) ids → Contains ids id → old.at n ≡ Some c → Contains c.names id
    → new.at n ≡ Some c

-- the cluster that stands under a number is stored there still
stays_under : (level : Level) (old new : Numbered) (n : ℕ) (c : Cluster) → Stands level old n c → Stands level new n c → Stays old new n
stays_under level old new n c was now s is =
    (now.0, now.1, now.2 ∙ sym was.2 ∙ ap (λ (s : Stored). s.cluster) (same_Some was.0 s (sym was.1 ∙ is)))

module _ (most : ℕ) (level : Level) (old new : Shelf) (one : IsIndexed most (view_of level old)) (two : IsIndexed most (view_of level new))
    (was : IsStore most old.store) (is : IsStore most new.store) (still : StaySeen (view_of level old) (view_of level new)) where
  abbrev IsOfSame : Part → Type 0
  IsOfSame = IsOfSameComponent (graph_of (view_of level old)) (graph_of (view_of level new))

  abbrev StoodAt : ℕ × ℕ → Part → Type 0
  StoodAt = StandsAt level old.store.clusters

  abbrev StandsNow : ℕ × ℕ → Part → Type 0
  StandsNow = StandsAt level new.store.clusters

  -- a cluster with a part of a component that stays stands under its number still
  cluster_still : (place : ℕ × ℕ) (part : Part) → IsOfSame part → (stood : StoodAt place part) → Stands level new.store.clusters place.0 stood.0
  cluster_still place part of stood =
      let here = in_cluster most level old.store was place part stood of.1 of.4 in
      (stands_seen level new.store.clusters place.0 stood.0).1
      (still of.0 place.0 of.1 stood.0 of.2 of.3 ((stands_seen level old.store.clusters place.0 stood.0).0 stood.1) here)

  -- and so does the part
  part_still : (place : ℕ × ℕ) (part : Part) → IsOfSame part → StoodAt place part → StandsNow place part
  part_still place part of stood = (stood.0, cluster_still place part of stood, stood.2)

  number_still : (place : ℕ × ℕ) (part : Part) → IsOfSame part → StoodAt place part → Stays old.store.clusters new.store.clusters place.0
  number_still place part of stood =
      stays_under level old.store.clusters new.store.clusters place.0 stood.0 stood.1 (cluster_still place part of stood)

  -- a part that stands there now did so before
  part_stood : (place : ℕ × ℕ) (part : Part) → IsOfSame part → StandsNow place part → StoodAt place part
  part_stood place part of stands =
      let at = live_in most (view_of level old) one of.1 (of.2.before.members of.1 of.3) in
      let c = at.2.cluster in
      let kept = still of.0 at.0 of.1 c of.2 of.3 at.2.there at.2.here in
      let seen = (stands_seen level new.store.clusters place.0 stands.0).0 stands.1 in
      let held = in_cluster most level new.store is place part stands of.1 of.4 in
      let number : at.0 ≡ place.0 = one_number most (view_of level new) two at.0 place.0 of.1 c stands.0 kept seen at.2.here held in
      let same : c ≡ stands.0 = same_Some c stands.0 (sym kept ∙ ap (seen_at level new.store.clusters) number ∙ seen) in (
        c,
        (stands_seen level old.store.clusters place.0 c).1 (ap (seen_at level old.store.clusters) (sym number) ∙ at.2.there),
        ap (λ (d : Cluster). slice_get d.parts place.1) same ∙ stands.2,
      )

  pub components_stay : LevelKeeps (one_of level old) (one_of level new)
  components_stay = record {
    parts = λ part of. (
      λ here. let at = placed most level old.store was part here in shown most level new.store is at.0 part (part_still at.0 part of at.1),
      λ there. let at = placed most level new.store is part there in shown most level old.store was at.0 part (part_stood at.0 part of at.1),
    );
    in_order = λ p q p_of q_of before.
        let at = places_before most level old.store was p q before in
        parts_before most level new.store is at.x at.y p q (part_still at.x p p_of at.first) (part_still at.y q q_of at.second)
        (orders_are_kept.kept old.store new.store was.ordered is.ordered at.x at.y (number_still at.x p p_of at.first)
        (number_still at.y q q_of at.second) at.before);
  }

-- ---- clusters are exchanged

-- no component that stays has a name of these clusters
abbrev pub AreAway : List Cluster → Closure → Closure → Type 0
AreAway olds old new = (ids : List ℕ) (id : ℕ) → IsSameComponent old new ids → Contains ids id → IsNamed olds id → ⊥

module _ (most : ℕ) (outs made : List ℕ) (olds news : List Cluster) (gone : List ℕ) (old new : View) (indexed : IsIndexed most old)
    (r : Rebuilds most outs made olds news gone old new) (away : AreAway olds (graph_of old) (graph_of new)) where
  stay_seen : StaySeen old new
  stay_seen ids n id c same in_ids is here =
      stays most outs made olds news gone old new indexed r n c
      (λ out. away ids id same in_ids (named_out most outs made olds news gone old new indexed r n id c out is here)) is

pub rebuilt_stays : (w : ℕ) (level : Level) (outs made : List ℕ) (olds news : List Cluster) (gone : List ℕ) (old new : Shelf)
    → IsInOrder w old → IsInOrder w new
    → Rebuilds (64 * w) outs made olds news gone (view_of level old) (view_of level new)
    → AreAway olds (graph_of (view_of level old)) (graph_of (view_of level new)) → LevelKeeps (one_of level old) (one_of level new)
rebuilt_stays w level outs made olds news gone old new before after r away =
    components_stay (64 * w) level old new (indexed_at w old before level) (indexed_at w new after level) before.store after.store
    (stay_seen (64 * w) outs made olds news gone (view_of level old) (view_of level new) (indexed_at w old before level) r away)

-- ---- where one cluster goes out, or two

module _ (olds news : List Cluster) (gone : List ℕ) (g h : Closure) (r : IsRebuilt olds news gone g h) (ids : List ℕ) where
  -- a component has all names of a cluster that goes out, or none
  pub whole_before : IsComponent g ids → (c : Cluster) → Contains olds c → (a b : ℕ) → Contains c.names a → Contains c.names b → Contains ids a → Contains ids b
  whole_before component c listed a b a_in b_in here = component.alone a b here ((r.was c a listed a_in).0.linked b b_in)

-- a cluster has a name that no component that stays has
pub one_away : (c : Cluster) (news : List Cluster) (gone : List ℕ) (g h : Closure) → IsRebuilt (c ∷ []) news gone g h → (id : ℕ) → Contains c.names id
    → ((ids : List ℕ) → IsSameComponent g h ids → Contains ids id → ⊥) → AreAway (c ∷ []) g h
one_away c news gone g h r id held none ids q same here named = elim (Contains-cases c named.0 [] named.1) [
  | inl is ↦
      let q_in : Contains c.names q = subst (λ (d : Cluster). Contains d.names q) (sym is) named.2 in
      none ids same (whole_before (c ∷ []) news gone g h r ids same.before c (Contains-head c []) q id q_in held here)
  | inr later ↦ none_in_empty named.0 later
]
