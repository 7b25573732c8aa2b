-- A staging that is closed: each cluster is settled.
use Rattle.std.proofs.Common.{◌≡◌, ℕ, ◌*◌, cond, Option, Some, None, sym, ap, ◌∙◌, subst, refl}
use Rattle.std.proofs.lemmas.Option.{none-some, same_Some}
use Rattle.std.specs.FinMap as finmap
use Rattle.graphs.specs.declared.names.Level.{Level}
use Rattle.graphs.specs.declared.names.Level.TheVariants.{Main, Top}
use Rattle.chunk_index.specs.declared.entry.Tag.{Tag}
use Rattle.chunk_index.specs.declared.entry.Tag.TheVariants.{Both, MainOnly, TopOnly}
use Rattle.chunk_index.specs.Items.{is_in}
use Rattle.cluster_store.specs.Stores.{Stored, Numbered, Store, IsStore}
use Rattle.cluster_store.specs.Changes.{moved_to, settled, settled_to}
use Rattle.staging.specs.Maps.{Maps}
use Rattle.levels.specs.Shelves.{AllHave, IsInOrder, Shelf, numbers_at, seen_at, seen_in, view_of}
use Rattle.graph_model.specs.declared.names.Limits.{Limits}
use Rattle.graph_model.specs.Limits.{AreInRange, bounds_of}
use Rattle.record.specs.Records.{IsFitted}
use Rattle.levels.proofs.Seen.{both_seen, seen_is_stored}
use Rattle.levels.specs.Views.{IsIndexed}
use Rattle.levels.proofs.Calls.{shelf_of}
use Rattle.levels.proofs.Shelved.{one_view, same_view}
use Rattle.levels.proofs.Standing.{indexed_at}

-- ---- what is settled

-- it is seen in main as it was in the level that stays
seen_settled : (stays : Level) (o : Option Stored) → seen_in Main (settled stays o) ≡ seen_in stays o
seen_settled stays None = refl
seen_settled Main (Some s) = from s.tag
  where
    from : (t : Tag) → seen_in Main (moved_to (settled_to Main t) (Some s)) ≡ cond (is_in Main t) (Some s.cluster) None
    from Both = refl
    from MainOnly = refl
    from TopOnly = refl
seen_settled Top (Some s) = from s.tag
  where
    from : (t : Tag) → seen_in Main (moved_to (settled_to Top t) (Some s)) ≡ cond (is_in Top t) (Some s.cluster) None
    from Both = refl
    from MainOnly = refl
    from TopOnly = refl

-- and it stands in both levels
both_to : (stays : Level) (t : Tag) (s x : Stored) → moved_to (settled_to stays t) (Some s) ≡ Some x → x.tag ≡ Both
both_to Main Both s x is = ap (λ (y : Stored). y.tag) (sym (same_Some (record { cluster = s.cluster; tag = Both }) x is))
both_to Top Both s x is = ap (λ (y : Stored). y.tag) (sym (same_Some (record { cluster = s.cluster; tag = Both }) x is))
both_to Main MainOnly s x is = ap (λ (y : Stored). y.tag) (sym (same_Some (record { cluster = s.cluster; tag = Both }) x is))
both_to Main TopOnly s x is = absurd (none-some x is)
both_to Top MainOnly s x is = absurd (none-some x is)
both_to Top TopOnly s x is = ap (λ (y : Stored). y.tag) (sym (same_Some (record { cluster = s.cluster; tag = Both }) x is))

both_settled : (stays : Level) (o : Option Stored) (x : Stored) → settled stays o ≡ Some x → x.tag ≡ Both
both_settled stays None x is = absurd (none-some x is)
both_settled stays (Some s) x is = both_to stays s.tag s x is

-- ---- all of them

module _ (w : ℕ) (stays : Level) (numbers : Maps ℕ) (store : Store) (new : Numbered) (limits : Limits) (order : IsInOrder w (shelf_of limits numbers store))
    (all : (n : ℕ) → finmap.get new n ≡ settled stays (finmap.get store.clusters n)) where
  abbrev old : Numbered
  old = store.clusters

  pub seen_closed : (n : ℕ) → seen_at Main new n ≡ seen_at stays old n
  seen_closed n = ap (seen_in Main) (all n) ∙ seen_settled stays (finmap.get old n)

  both_closed : AllHave Both new
  both_closed n x is = both_settled stays (finmap.get old n) x (sym (all n) ∙ is)

  -- main is what stays, and there is no staging
  pub order_closed : (after : Shelf) → after.store.clusters ≡ new → IsStore (64 * w) after.store → after.staging ≡ None
      → after.main ≡ numbers_at stays (shelf_of limits numbers store) → after.limits ≡ limits → IsInOrder w after
  order_closed after is sound none main same =
      let both = subst (AllHave Both) (sym is) both_closed in
      let seen : (n : ℕ) → seen_at Main after.store.clusters n ≡ seen_at stays old n = λ n.
      ap (λ (m : Numbered). seen_at Main m n) is ∙ seen_closed n in
      let view = same_view (view_of stays (shelf_of limits numbers store)) (view_of Main after) main seen in
      let indexed = subst (IsIndexed (64 * w)) (sym view) (indexed_at w stays (shelf_of limits numbers store) order) in
      record {
        wide = order.wide;
        narrow = order.narrow;
        main = indexed;
        top = subst (IsIndexed (64 * w)) (one_view after none both) indexed;
        store = sound;
        in_range = subst (λ (l : Limits). AreInRange (64 * w) (bounds_of l)) (sym same) order.in_range;
        fitted = λ n c at. subst (λ (l : Limits). IsFitted (64 * w) l c) (sym same)
            (order.fitted n c (seen_is_stored stays old n c (sym (seen n) ∙ both_seen Main after.store.clusters both n ∙ at)));
        both = λ _. both;
      }
