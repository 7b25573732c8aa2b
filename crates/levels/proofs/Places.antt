-- Where the parts of names stand in a level, and what stands there.
use Rattle.std.proofs.Common.{◌≡◌, ◌≢◌, ℕ, ◌*◌, ◌&&◌, nat_eq, true, false, true≢false, eq-eqb, eqb-true, List, [], flat_map, Contains, Some, sym, ap, ◌∙◌, subst}
use Rattle.std.proofs.lemmas.Bool.{and_parts, and_from}
use Rattle.std.proofs.lemmas.Option.{same_Some, slice_get_within, get_or_from_slice_get}
use Rattle.std.specs.Prelude.{slice_get}
use Rattle.graphs.specs.declared.names.Level.{Level}
use Rattle.graphs.specs.Certificates.{Part}
use Rattle.graphs.specs.Closures.{is_ancestor, IsCover}
use Rattle.graphs.specs.Linearizations.{StandsBefore}
use Rattle.graphs.specs.Merges.{Precedes}
use Rattle.graphs.proofs.MergeLemmas.{stands_within}
use Rattle.lists.proofs.Entries.{none_in_empty}
use Rattle.cluster.specs.Clusters.{Cluster}
use Rattle.cluster.specs.Covers.{ListsInOrder}
use Rattle.cluster_store.specs.Laws.{Stands, StandsAt, PartsStandInOrder}
use Rattle.cluster_store.specs.Stores.{Stored, Numbered}
use Rattle.cluster_store.proofs.Before.{parts_stand_in_order}
use Rattle.graph_model.specs.Answers.{order_of}
use Rattle.levels.specs.Orders.{ListsCovers}
use Rattle.levels.specs.Places.{HasPart}
use Rattle.levels.specs.Shelves.{Shelf, IsInOrder, one_of, seen_at, stored_at, view_of}
use Rattle.levels.specs.Views.{IsClusterOf, graph_of}
use Rattle.levels.proofs.Finds.{indexed_at}
use Rattle.levels.proofs.Preceding.{unfiltered}
use Rattle.levels.proofs.Found.{cluster_of}
use Rattle.levels.proofs.Seen.{seen_is_stored}
use Rattle.levels.proofs.Shelved.{stands_seen}

pub same_place : (x y : ℕ × ℕ) → (nat_eq x.0 y.0 && nat_eq x.1 y.1) ≡ true → x ≡ y
same_place x y e =
    let both = and_parts (nat_eq x.0 y.0) (nat_eq x.1 y.1) e in
    let one = eqb-true x.0 y.0 both.0 in
    let two = eqb-true x.1 y.1 both.1 in
    λ i. (one i, two i)

pub other_place : (x y : ℕ × ℕ) → (nat_eq x.0 y.0 && nat_eq x.1 y.1) ≡ false → x ≢ y
other_place x y e same =
    let one = eq-eqb x.0 y.0 (ap (λ (p : ℕ × ℕ). p.0) same) in
    let two = eq-eqb x.1 y.1 (ap (λ (p : ℕ × ℕ). p.1) same) in
    true≢false (sym (and_from (nat_eq x.0 y.0) (nat_eq x.1 y.1) one two) ∙ e)

-- ---- one part stands at a place

one_part : (level : Level) (clusters : Numbered) (place : ℕ × ℕ) (p q : Part) → StandsAt level clusters place p → StandsAt level clusters place q → p ≡ q
one_part level clusters place p q one two =
    let stored = same_Some one.1.0 two.1.0 (sym one.1.1 ∙ two.1.1) in
    let cluster : one.0 ≡ two.0 = sym one.1.2 ∙ ap (λ (s : Stored). s.cluster) stored ∙ two.1.2 in
    same_Some p q (sym one.2 ∙ ap (λ (c : Cluster). slice_get c.parts place.1) cluster ∙ two.2)

pub has_here : (level : Level) (shelf : Shelf) (place : ℕ × ℕ) (part : Part) (id : ℕ) → StandsAt level shelf.store.clusters place part
    → HasPart level shelf place id → Contains part.ids id
has_here level shelf place part id there has =
    subst (λ (p : Part). Contains p.ids id) (one_part level shelf.store.clusters place has.0 part has.1 there) has.2

-- what is stored where a part stands is seen in the level
pub seen_there : (level : Level) (clusters : Numbered) (place : ℕ × ℕ) (part : Part) (c : Cluster) → StandsAt level clusters place part
    → stored_at clusters place.0 ≡ Some c → seen_at level clusters place.0 ≡ Some c
seen_there level clusters place part c there is =
    let seen = (stands_seen level clusters place.0 there.0).0 there.1 in
    seen ∙ ap Some (same_Some there.0 c (sym (seen_is_stored level clusters place.0 there.0 seen) ∙ is))

-- and it has parts
pub part_ordered : (level : Level) (clusters : Numbered) (place : ℕ × ℕ) (part : Part) → StandsAt level clusters place part
    → (c : Cluster) × (stored_at clusters place.0 ≡ Some c) × (c.parts ≢ [])
part_ordered level clusters place part there = (
  there.0,
  seen_is_stored level clusters place.0 there.0 ((stands_seen level clusters place.0 there.0).0 there.1),
  λ none. none_in_empty part (subst (λ (ps : List Part). Contains ps part) none (
    place.1,
    slice_get_within there.0.parts place.1 part there.2,
    get_or_from_slice_get there.0.parts place.1 part part there.2,
  )),
)

module _ (w : ℕ) (shelf : Shelf) (order : IsInOrder w shelf) (level : Level) where
  stands : (n : ℕ) (c : Cluster) → seen_at level shelf.store.clusters n ≡ Some c → Stands level shelf.store.clusters n c
  stands n c is = (stands_seen level shelf.store.clusters n c).1 is

  in_order : PartsStandInOrder level shelf.store
  in_order = parts_stand_in_order (64 * w) level shelf.store order.store

  -- ---- parts at places

  pub part_there : (place : ℕ × ℕ) (c : Cluster) (part : Part) → seen_at level shelf.store.clusters place.0 ≡ Some c → slice_get c.parts place.1 ≡ Some part
      → StandsAt level shelf.store.clusters place part
  part_there place c part is part_is = (c, stands place.0 c is, part_is)

  pub part_shown : (place : ℕ × ℕ) (part : Part) → StandsAt level shelf.store.clusters place part → Contains (one_of level shelf).parts part
  part_shown place part there = in_order.shown place part there

  pub has_part : (id number at : ℕ) (c : Cluster) (part : Part) → seen_at level shelf.store.clusters number ≡ Some c → slice_get c.parts at ≡ Some part
      → Contains part.ids id → HasPart level shelf (number, at) id
  has_part id number at c part is part_is here = (part, part_there (number, at) c part is part_is, here)

  pub place_listed : (place : ℕ × ℕ) (id : ℕ) → HasPart level shelf place id → Contains shelf.store.order place
  place_listed place id has = in_order.there place has.0 has.1

  pub within_part : (place : ℕ × ℕ) (part : Part) (a b : ℕ) → StandsAt level shelf.store.clusters place part → StandsBefore part.ids a b
      → StandsBefore (order_of (one_of level shelf).parts) a b
  within_part place part a b there before =
      let at = slice_get_within there.0.parts place.1 part there.2 in
      let is = get_or_from_slice_get there.0.parts place.1 part part there.2 in
      in_order.inside place.0 there.0 there.1 a b (stands_within (λ (p : Part). p.ids) there.0.parts part a b (place.1, at, is) before)

  pub part_by_part : (x y : ℕ × ℕ) (a b : ℕ) → HasPart level shelf x a → HasPart level shelf y b → Precedes shelf.store.order x y
      → StandsBefore (order_of (one_of level shelf).parts) a b
  part_by_part x y a b first second before = in_order.before x y first.0 second.0 a b first.1 second.1 before first.2 second.2

  -- ---- parents with nothing between

  module _ (id number : ℕ) (c : Cluster) (is : seen_at level shelf.store.clusters number ≡ Some c) (here : Contains c.names id) where
    of : IsClusterOf (graph_of (view_of level shelf)) id c
    of = cluster_of (64 * w) (view_of level shelf) (indexed_at w shelf order level) number c is id here

    -- an ancestor of a name of the cluster is one of its names
    above_here : (m : ℕ) → is_ancestor c.graph m id ≡ true → Contains c.names m
    above_here m up =
        let whole = ((indexed_at w shelf order level).whole number c is).connected in
        (whole.members m).0 (whole.order.among m id up).0

    cover_out : (a : ℕ) → IsCover c.graph a id → IsCover (graph_of (view_of level shelf)) a id
    cover_out a cover = record {
      ancestor = of.above a id here ∙ cover.ancestor;
      other = cover.other;
      direct = λ m up down.
          let low : is_ancestor c.graph m id ≡ true = sym (of.above m id here) ∙ down in
          cover.direct m (sym (of.above a m (above_here m low)) ∙ up) low;
    }

    cover_in : (a : ℕ) → IsCover (graph_of (view_of level shelf)) a id → IsCover c.graph a id
    cover_in a cover = record {
      ancestor = sym (of.above a id here) ∙ cover.ancestor;
      other = cover.other;
      direct = λ m up down. cover.direct m (of.above a m (above_here m down) ∙ up) (of.above m id here ∙ down);
    }

    pub lists_covers : (covers : List ℕ) → ListsInOrder (λ a. IsCover c.graph a id) (flat_map (λ part. part.ids) c.parts) covers
        → ListsCovers (one_of level shelf).graph (order_of (one_of level shelf).parts) id covers
    lists_covers covers listed = record {
      exact = λ a. ((λ there. cover_out a ((listed.exact a).0 there)), (λ cover. (listed.exact a).1 (cover_in a cover)));
      in_order = λ a b before.
          in_order.inside number c (stands number c is) a b
          (unfiltered listed.in_order.0 (flat_map (λ (part : Part). part.ids) c.parts) a b (subst (λ ids. Precedes ids a b) listed.in_order.1 before));
    }
