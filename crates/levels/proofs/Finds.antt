-- What the levels of a shelf say of names.
use Rattle.std.proofs.Common.{◌≡◌, ℕ, ◌*◌, Some, None, is_some, sym, ap, ap₂, ◌∙◌, subst, subst₂, Contains}
use Rattle.std.specs.FinMap as finmap
use Rattle.graphs.specs.Closures.{Closure, is_member}
use Rattle.graphs.specs.declared.names.Level.{Level}
use Rattle.graphs.specs.declared.names.Level.TheVariants.{Main, Top}
use Rattle.cluster.specs.Clusters.{Cluster}
use Rattle.record.specs.Records.{IsRecord}
use Rattle.cluster_store.specs.Laws.{Stands, IsLevel}
use Rattle.cluster_store.specs.Stores.{IsStore}
use Rattle.graph_model.specs.declared.names.Limits.{Limits}
use Rattle.levels.specs.Levels.{OneLevel, Levels, IsWithin, level_at}
use Rattle.levels.specs.Oversize.{IsOversized}
use Rattle.levels.specs.Shelves.{Shelf, IsInOrder, levels_of, numbers_at, one_of, seen_at, view_of}
use Rattle.levels.specs.Views.{IsIndexed, IsClusterOf, graph_of}
use Rattle.levels.proofs.Found.{cluster_of}
use Rattle.levels.proofs.Graphs.{above_in, in_above, in_live, live_in, member-number, one_number, rate_in_cluster}
use Rattle.levels.proofs.Shelved.{level_of_shelf, one_view, same_level, stands_seen}

module _ (most : ℕ) (level : Level) (shelf : Shelf) (indexed : IsIndexed most (view_of level shelf)) (store : IsStore most shelf.store) where
  pub seen : (n : ℕ) (c : Cluster) → Stands level shelf.store.clusters n c → seen_at level shelf.store.clusters n ≡ Some c
  seen n c stands = (stands_seen level shelf.store.clusters n c).0 stands

  pub unseen : (n : ℕ) (c : Cluster) → seen_at level shelf.store.clusters n ≡ Some c → Stands level shelf.store.clusters n c
  unseen n c is = (stands_seen level shelf.store.clusters n c).1 is

  pub is_level : IsLevel level shelf.store.clusters (graph_of (view_of level shelf))
  is_level = record {
    apart = λ n m id c d first second here there. one_number most (view_of level shelf) indexed n m id c d (seen n c first) (seen m d second) here there;
    members = λ id. (
      λ live. let at = live_in most (view_of level shelf) indexed id live in (at.0, at.2.cluster, unseen at.0 at.2.cluster at.2.there, at.2.here),
      λ at. in_live most (view_of level shelf) indexed at.0 id at.1 (seen at.0 at.1 at.2) at.3,
    );
    ancestors = λ a d. (
      λ up. let at = in_above most (view_of level shelf) indexed a d up in (at.number, at.cluster, unseen at.number at.cluster at.there, at.above),
      λ at. above_in most (view_of level shelf) indexed at.0 a d at.1 (seen at.0 at.1 at.2) at.3,
    );
    rates = λ n id c is here. rate_in_cluster most (view_of level shelf) indexed n id c (seen n c is) here;
  }

module _ (w : ℕ) (shelf : Shelf) (order : IsInOrder w shelf) where
  pub indexed_at : (level : Level) → IsIndexed (64 * w) (view_of level shelf)
  indexed_at Main = order.main
  indexed_at Top = order.top

  -- without a staging both levels are one
  pub alike : shelf.staging ≡ None → one_of Main shelf ≡ one_of Top shelf
  alike none = same_level (64 * w) Main Top shelf shelf order.store order.store (one_view shelf none (order.both none))

-- ---- seen from the levels

module _ (w issued : ℕ) (shelf : Shelf) (now : Levels) (order : IsInOrder w shelf) (view : levels_of shelf issued ≡ now) where
  pub level_is : (level : Level) → level_at now level ≡ one_of level shelf
  level_is level = ap (λ (l : Levels). level_at l level) (sym view) ∙ level_of_shelf level shelf issued (alike w shelf order)

  pub graph_is : (level : Level) → (level_at now level).graph ≡ graph_of (view_of level shelf)
  graph_is level = ap (λ (l : OneLevel). l.graph) (level_is level)

  pub member_is : (level : Level) (id : ℕ) → is_member (level_at now level).graph id ≡ is_some (finmap.get (numbers_at level shelf) id)
  member_is level id = ap (λ (g : Closure). is_member g id) (graph_is level) ∙ member-number (view_of level shelf) id

  pub cluster_is : (level : Level) (number id : ℕ) (c : Cluster) → seen_at level shelf.store.clusters number ≡ Some c → Contains c.names id
      → IsClusterOf (level_at now level).graph id c
  cluster_is level number id c is here =
      subst (λ (g : Closure). IsClusterOf g id c) (sym (graph_is level))
      (cluster_of (64 * w) (view_of level shelf) (indexed_at w shelf order level) number c is id here)

  pub whole_at : (level : Level) (number : ℕ) (c : Cluster) → seen_at level shelf.store.clusters number ≡ Some c → IsRecord (64 * w) c
  whole_at level number c is = (indexed_at w shelf order level).whole number c is

  -- the limits are the shelf's, and so it is with what is over them
  pub limits_is : now.limits ≡ shelf.limits
  limits_is = sym (ap (λ (l : Levels). l.limits) view)

  pub over_is : (level : Level) → IsOversized now.limits (level_at now level).graph ≡ IsOversized shelf.limits (graph_of (view_of level shelf))
  over_is level = ap₂ IsOversized limits_is (graph_is level)

  pub within_at : (level : Level) → IsWithin now level → IsOversized shelf.limits (graph_of (view_of level shelf)) → ⊥
  within_at level = subst₂ (λ (l : Limits) (g : Closure). IsOversized l g → ⊥) limits_is (graph_is level)

  pub both_at : IsWithin now Main × IsWithin now Top → (level : Level) → IsOversized shelf.limits (graph_of (view_of level shelf)) → ⊥
  both_at within Main = within_at Main within.0
  both_at within Top = within_at Top within.1
