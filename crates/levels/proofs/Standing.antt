-- What a shelf that is in order says of each level, and a shelf without clusters.
use Rattle.std.proofs.Common.{◌≡◌, ℕ, ◌*◌, ◌≤◌, Contains, Option, Some, None, refl, sym, ap, ◌∙◌, subst}
use Rattle.std.specs.Prelude.{IfSome, option_map}
use Rattle.std.specs.Ordering.{nat_cmp}
use Rattle.std.proofs.lemmas.Option.{none-some}
use Rattle.std.specs.FinMap as finmap
use Rattle.graphs.specs.declared.names.Level.{Level}
use Rattle.graphs.specs.declared.names.Level.TheVariants.{Main, Top}
use Rattle.cluster.specs.Clusters.{Cluster}
use Rattle.graph_model.specs.declared.names.Limits.{Limits}
use Rattle.graph_model.specs.Limits.{AreInRange, bounds_of}
use Rattle.cluster_store.specs.Stores.{Store, Stored, IsStore}
use Rattle.staging.specs.Maps.{Maps, map_of}
use Rattle.levels.specs.Shelves.{Shelf, IsInOrder, no_clusters, numbers_at, seen_at, stored_at, view_of}
use Rattle.levels.specs.Views.{IsIndexed}
use Rattle.levels.proofs.Calls.{shelf_of}
use Rattle.cluster_store.proofs.Seen.{free_unseen}

pub indexed_at : (w : ℕ) (level : Level) (shelf : Shelf) → IsInOrder w shelf → IsIndexed (64 * w) (view_of level shelf)
indexed_at w Main shelf order = order.main
indexed_at w Top shelf order = order.top

-- the numbers of a level, as the two maps tell it
pub numbers_told : (level : Level) (limits : Limits) (numbers : Maps ℕ) (store : Store)
    → map_of level numbers ≡ numbers_at level (shelf_of limits numbers store)
numbers_told Main limits numbers store = refl
numbers_told Top limits numbers store = refl

-- the number of a name, if it has one, has a cluster with the name
pub stands_under : (w : ℕ) (level : Level) (shelf : Shelf) (id : ℕ) (o : Option ℕ) → IsInOrder w shelf → o ≡ finmap.get (numbers_at level shelf) id
    → IfSome o (λ number. (c : Cluster) × (seen_at level shelf.store.clusters number ≡ Some c) × Contains c.names id)
stands_under w level shelf id None order is = tt
stands_under w level shelf id (Some number) order is =
    let at = (indexed_at w level shelf order).stands id number (sym is) in (at.cluster, at.there, at.here)

-- ---- no cluster

-- other limits, where there is no cluster
pub order_limited : (w : ℕ) (limits : Limits) (shelf : Shelf) → IsInOrder w shelf → ((n : ℕ) → stored_at shelf.store.clusters n ≡ None)
    → AreInRange (64 * w) (bounds_of limits) → IsInOrder w (record shelf { limits = limits })
order_limited w limits shelf order none in_range = record {
  wide = order.wide;
  narrow = order.narrow;
  main = order.main;
  top = order.top;
  store = order.store;
  in_range = in_range;
  fitted = λ n c is. absurd (none-some c (sym (none n) ∙ is));
  both = order.both;
}

module _ (w : ℕ) (limits : Limits) (shelf : Shelf) (empty : shelf ≡ no_clusters limits) where
  no_number : (level : Level) (id : ℕ) → finmap.get (numbers_at level shelf) id ≡ None
  no_number level id = ap (λ (s : Shelf). finmap.get (numbers_at level s) id) empty ∙ none_at level
    where
      none_at : (l : Level) → finmap.get (numbers_at l (no_clusters limits)) id ≡ None
      none_at Main = finmap.get-empty nat_cmp id
      none_at Top = finmap.get-empty nat_cmp id

  none_stored : (number : ℕ) → finmap.get shelf.store.clusters number ≡ None
  none_stored number = ap (λ (s : Shelf). finmap.get s.store.clusters number) empty ∙ finmap.get-empty nat_cmp number

  none_seen : (level : Level) (number : ℕ) → seen_at level shelf.store.clusters number ≡ None
  none_seen level number = free_unseen level shelf.store.clusters number (none_stored number)

  indexed_empty : (level : Level) → IsIndexed (64 * w) (view_of level shelf)
  indexed_empty level = record {
    stands = λ id number is. absurd (none-some number (sym (no_number level id) ∙ is));
    listed = λ number id c is here. absurd (none-some c (sym (none_seen level number) ∙ is));
    whole = λ number c is. absurd (none-some c (sym (none_seen level number) ∙ is));
  }

  pub order_empty : 1 ≤ w → w ≤ 2 → AreInRange (64 * w) (bounds_of limits) → IsStore (64 * w) shelf.store → IsInOrder w shelf
  order_empty wide narrow in_range store = record {
    wide = wide;
    narrow = narrow;
    main = indexed_empty Main;
    top = indexed_empty Top;
    store = store;
    in_range = subst (λ (s : Shelf). AreInRange (64 * w) (bounds_of s.limits)) (sym empty) in_range;
    fitted = λ number c is. absurd (none-some c (sym (ap (option_map (λ (s : Stored). s.cluster)) (none_stored number)) ∙ is));
    both = λ none number s is. absurd (none-some s (sym (none_stored number) ∙ is));
  }
