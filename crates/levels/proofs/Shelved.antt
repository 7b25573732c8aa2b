-- A shelf whose top level changed.
use Rattle.std.proofs.Common.{◌≡◌, ℕ, ◌*◌, Bool, true, false, List, Contains, Option, Some, None, is_some, IsSome, inl, inr, ◌⊎◌, ◌↔◌, refl, sym, ap, ◌∙◌, subst, true≢false}
use Rattle.std.specs.Prelude.{option_map, unwrap_or, cond}
use Rattle.std.proofs.lemmas.Option.{none-some, same_Some}
use Rattle.std.specs.FinMap as finmap
use Rattle.graphs.specs.declared.names.Level.{Level}
use Rattle.graphs.specs.declared.names.Level.TheVariants.{Main, Top}
use Rattle.chunk_index.specs.declared.entry.Tag.TheVariants.{Both}
use Rattle.chunk_index.specs.Items.{is_in}
use Rattle.cluster.specs.Clusters.{Cluster}
use Rattle.cluster_store.specs.Stores.{Stored, Numbered, Store, IsStore, parts_of_level}
use Rattle.cluster_store.specs.Laws.{Stands}
use Rattle.cluster_store.proofs.Told.{parts_are_told_by_clusters}
use Rattle.levels.specs.Levels.{level_at, with_top}
use Rattle.graph_model.specs.declared.names.Limits.{Limits}
use Rattle.graph_model.specs.Limits.{AreInRange, bounds_of}
use Rattle.record.specs.Records.{IsFitted}
use Rattle.levels.specs.Shelves.{AllHave, Shelf, IsInOrder, levels_of, one_of, seen_at, seen_in, stored_at, view_of}
use Rattle.levels.specs.Tops.{TopRebuilds}
use Rattle.levels.specs.Views.{View, IsIndexed, Numbers, graph_of}
use Rattle.levels.proofs.Rebuilt.{came, indexed_rebuilt}
use Rattle.cluster_store.proofs.Seen.{seen_stored}
use Rattle.levels.proofs.Seen.{both_seen, seen_is_stored, stored_is_seen}

-- two views are one where the numbers are the same, and the cluster under each number
pub same_view : (a b : View) → b.numbers ≡ a.numbers → ((n : ℕ) → b.at n ≡ a.at n) → b ≡ a
same_view a b numbers at = λ i. record { numbers = numbers i; at = λ n. at n i }

-- a staging or none
pub cases_staging : (o : Option Numbers) → (o ≡ None) ⊎ IsSome o
cases_staging None = inl refl
cases_staging (Some m) = inr refl

pub none_of : (o p : Option Numbers) → is_some o ≡ is_some p → p ≡ None → o ≡ None
none_of o p same none = elim (cases_staging o) [
  | inl is ↦ is
  | inr some ↦ absurd (true≢false (sym some ∙ same ∙ ap is_some none))
]

pub some_of : (o p : Option Numbers) → is_some o ≡ is_some p → IsSome p → IsSome o
some_of o p same some = same ∙ some

-- ---- without a staging both levels are one

module _ (shelf : Shelf) (none : shelf.staging ≡ None) (both : AllHave Both shelf.store.clusters) where
  pub one_view : view_of Main shelf ≡ view_of Top shelf
  one_view = same_view (view_of Top shelf) (view_of Main shelf) (sym (ap (λ o. unwrap_or o shelf.main) none))
      (λ n. both_seen Main shelf.store.clusters both n ∙ sym (both_seen Top shelf.store.clusters both n))

-- ---- a change of the top level

module _ (w : ℕ) (outs made : List ℕ) (olds news : List Cluster) (gone : List ℕ) (old new : Shelf) (order : IsInOrder w old)
    (r : TopRebuilds w outs made olds news gone old new)
    (news_fitted : (c : Cluster) → Contains news c → IsFitted (64 * w) old.limits c)
    (both : new.staging ≡ None → AllHave Both new.store.clusters) (store : IsStore (64 * w) new.store) where
  top_indexed : IsIndexed (64 * w) (view_of Top new)
  top_indexed = indexed_rebuilt (64 * w) outs made olds news gone (view_of Top old) (view_of Top new) order.top r.top

  pub main_view : IsSome old.staging → view_of Main new ≡ view_of Main old
  main_view some = same_view (view_of Main old) (view_of Main new) (r.base some) (r.main some)

  -- what stands in the top level came in, or was there, and so it is with main
  top_fitted : (n : ℕ) (c : Cluster) → seen_at Top new.store.clusters n ≡ Some c → IsFitted (64 * w) old.limits c
  top_fitted n c is = elim (came (64 * w) outs made olds news gone (view_of Top old) (view_of Top new) order.top r.top n c is) [
    | inl here ↦ news_fitted c here
    | inr was ↦ order.fitted n c (seen_is_stored Top old.store.clusters n c was)
  ]

  main_fitted : (n : ℕ) (c : Cluster) → seen_at Main new.store.clusters n ≡ Some c → IsFitted (64 * w) old.limits c
  main_fitted n c is = elim (cases_staging old.staging) [
    | inl none ↦
        let all = both (none_of new.staging old.staging r.staged none) in
        top_fitted n c (both_seen Top new.store.clusters all n ∙ sym (both_seen Main new.store.clusters all n) ∙ is)
    | inr some ↦ order.fitted n c (seen_is_stored Main old.store.clusters n c (sym (r.main some n) ∙ is))
  ]

  fitted_changed : (n : ℕ) (c : Cluster) → stored_at new.store.clusters n ≡ Some c → IsFitted (64 * w) new.limits c
  fitted_changed n c is =
      subst (λ (l : Limits). IsFitted (64 * w) l c) (sym r.limits)
      (elim (stored_is_seen new.store.clusters n c is) [ inl main ↦ main_fitted n c main | inr top ↦ top_fitted n c top ])

  pub order_changed : IsInOrder w new
  order_changed = record {
    wide = order.wide;
    narrow = order.narrow;
    main = elim (cases_staging old.staging) [
      | inl none ↦
          let is = none_of new.staging old.staging r.staged none in
          subst (IsIndexed (64 * w)) (sym (one_view new is (both is))) top_indexed
      | inr some ↦ subst (IsIndexed (64 * w)) (sym (main_view some)) order.main
    ];
    top = top_indexed;
    in_range = subst (λ (l : Limits). AreInRange (64 * w) (bounds_of l)) (sym r.limits) order.in_range;
    fitted = fitted_changed;
    store = store;
    both = both;
  }

-- ---- the parts of a level are told by its clusters

-- a cluster stands in a level where it is seen there
pub seen_of : (level : Level) (o : Option Stored) (c : Cluster) → seen_in level o ≡ Some c
    → (s : Stored) × (o ≡ Some s) × (s.cluster ≡ c) × (is_in level s.tag ≡ true)
seen_of level None c is = absurd (none-some c is)
seen_of level (Some s) c is = from (is_in level s.tag) refl is
  where
    from : (b : Bool) → is_in level s.tag ≡ b → cond b (Some s.cluster) None ≡ Some c
        → (t : Stored) × (Some s ≡ Some t) × (t.cluster ≡ c) × (is_in level t.tag ≡ true)
    from true there e = (s, refl, same_Some s.cluster c e, there)
    from false there e = absurd (none-some c e)

pub stands_seen : (level : Level) (clusters : Numbered) (n : ℕ) (c : Cluster) → Stands level clusters n c ↔ (seen_at level clusters n ≡ Some c)
stands_seen level clusters n c = (
  λ stands. seen_stored level clusters n stands.0 stands.1 stands.3 ∙ ap Some stands.2,
  seen_of level (finmap.get clusters n) c,
)

pub same_parts : (most : ℕ) (a b : Level) (one two : Store) → IsStore most one
    → IsStore most two → ((n : ℕ) → seen_at a one.clusters n ≡ seen_at b two.clusters n)
    → parts_of_level a one ≡ parts_of_level b two
same_parts most a b one two first second same = parts_are_told_by_clusters.parts a b one two first.ordered second.ordered (λ n c. (
  λ stands. (stands_seen b two.clusters n c).1 (sym (same n) ∙ (stands_seen a one.clusters n c).0 stands),
  λ stands. (stands_seen a one.clusters n c).1 (same n ∙ (stands_seen b two.clusters n c).0 stands),
))

-- a level is what is seen of it
pub same_level : (most : ℕ) (a b : Level) (one two : Shelf) → IsStore most one.store → IsStore most two.store → view_of a one ≡ view_of b two
    → one_of a one ≡ one_of b two
same_level most a b one two first second same = λ i. record {
  graph = ap graph_of same i;
  parts = same_parts most a b one.store two.store first second (λ n j. (same j).at n) i;
}

-- the levels of a shelf by their words
pub level_of_shelf : (level : Level) (shelf : Shelf) (issued : ℕ) → (shelf.staging ≡ None → one_of Main shelf ≡ one_of Top shelf)
    → level_at (levels_of shelf issued) level ≡ one_of level shelf
level_of_shelf Main shelf issued alike = refl
level_of_shelf Top shelf issued alike = from shelf.staging alike
  where
    from : (o : Option Numbers) → (o ≡ None → one_of Main shelf ≡ one_of Top shelf)
        → level_at (record { limits = shelf.limits; main = one_of Main shelf; staging = option_map (λ _. one_of Top shelf) o; issued = issued }) Top ≡ one_of Top shelf
    from None alike = alike refl
    from (Some m) alike = refl

-- the levels of a shelf whose top level changed
pub levels_changed : (old new : Shelf) (issued : ℕ) → new.limits ≡ old.limits → is_some new.staging ≡ is_some old.staging → (IsSome old.staging → one_of Main new ≡ one_of Main old)
    → (old.staging ≡ None → one_of Main new ≡ one_of Top new) → levels_of new issued ≡ with_top (levels_of old issued) (one_of Top new)
levels_changed old new issued limits same kept alike = from new.staging old.staging same kept alike
  where
    from : (o p : Option Numbers) → is_some o ≡ is_some p → (IsSome p → one_of Main new ≡ one_of Main old) → (p ≡ None → one_of Main new ≡ one_of Top new)
        → record { limits = new.limits; main = one_of Main new; staging = option_map (λ _. one_of Top new) o; issued = issued }
        ≡ with_top (record { limits = old.limits; main = one_of Main old; staging = option_map (λ _. one_of Top old) p; issued = issued }) (one_of Top new)
    from None None is kept alike = λ i. record { limits = limits i; main = alike refl i; staging = None; issued = issued }
    from None (Some p) is kept alike = absurd (true≢false (sym is))
    from (Some o) None is kept alike = absurd (true≢false is)
    from (Some o) (Some p) is kept alike = λ i. record { limits = limits i; main = kept refl i; staging = Some (one_of Top new); issued = issued }
