-- Clusters in the places of others of the same names, each under its number and in the same levels.
use Rattle.std.proofs.Common.{◌≡◌, ◌≢◌, ℕ, ◌*◌, Bool, true, false, cond, List, [], ◌∷◌, map, Contains, Option, Some, None, Result, Ok, Err, inl, inr, ◌⊎◌, refl, sym, ap, ◌∙◌, subst}
use Rattle.std.specs.Prelude.{option_map, OnOk, OnErr}
use Rattle.std.proofs.lemmas.Option.{none-some, same_Some}
use Rattle.std.specs.FinMap as finmap
use Rattle.lists.proofs.Entries.{map-Contains, none_in_empty}
use Rattle.lists.proofs.Told.{told_number}
use Rattle.graphs.specs.declared.names.Level.{Level}
use Rattle.graphs.specs.declared.names.Level.TheVariants.{Main, Top}
use Rattle.chunk_index.specs.declared.entry.Tag.TheVariants.{Both}
use Rattle.chunk_index.specs.Items.{is_in}
use Rattle.cluster.specs.Clusters.{Cluster}
use Rattle.graph_model.specs.declared.names.Limits.{Limits}
use Rattle.graph_model.specs.Limits.{AreInRange, bounds_of}
use Rattle.record.specs.Records.{IsFitted, IsRecord}
use Rattle.cluster_store.specs.Changes.{ExchangesEach, with_cluster}
use Rattle.cluster_store.specs.Stores.{Stored, Exchange, IsStore, Store}
use Rattle.staging.specs.Maps.{Maps}
use Rattle.levels.specs.Changes.{Rebuilds}
use Rattle.levels.specs.Shelves.{AllHave, IsInOrder, Shelf, numbers_at, seen_at, seen_in, stored_at, view_of}
use Rattle.levels.specs.Tops.{HaveSameNames}
use Rattle.levels.specs.Views.{IsIndexed, Numbers, StandsAt, View}
use Rattle.levels.proofs.Graphs.{cases_option}
use Rattle.levels.proofs.Calls.{shelf_of}
use Rattle.cluster_store.proofs.Listed.{at_one, other_one}
use Rattle.levels.proofs.Finds.{indexed_at}
use Rattle.levels.proofs.Making.{named_one, one_named, pairs_one, points_one, all_one}
use Rattle.cluster_store.proofs.Seen.{same_seen}
use Rattle.name_book.proofs.Entries.{some_key}
use Rattle.levels.proofs.Seen.{seen_is_stored, stored_is_seen}
use Rattle.levels.proofs.Ordered.{fitted_record}

-- ---- a level in which a cluster takes the place of another of the same names

pub rebuilds_swapped : (most number : ℕ) (a c : Cluster) (old new : View)
    → IsIndexed most old → new.numbers ≡ old.numbers → IsRecord most c → c.names ≡ a.names
    → old.at number ≡ Some a → new.at number ≡ Some c → ((n : ℕ) → n ≢ number → new.at n ≡ old.at n)
    → Rebuilds most (number ∷ []) (number ∷ []) (a ∷ []) (c ∷ []) [] old new
rebuilds_swapped most number a c old new indexed numbers whole names was now others =
    let back : (q : ℕ) → Contains c.names q → Contains a.names q = λ q here. subst (λ (xs : List ℕ). Contains xs q) names here in
    let forth : (q : ℕ) → Contains a.names q → Contains c.names q = λ q here. subst (λ (xs : List ℕ). Contains xs q) (sym names) here in
    record {
      taken = at_one old.at number a was;
      exchanges = record {
        once = ((λ here. none_in_empty number here), tt);
        stand = at_one new.at number c now;
        room = λ n here. inl here;
        cleared = λ n here free. absurd (free here);
        elsewhere = λ n out free. others n (other_one number n out);
      };
      points = points_one number c old.numbers new.numbers
          (λ q here. ap (λ (m : Numbers). finmap.get m q) numbers ∙ indexed.listed number q a was (back q here))
          (λ q out. ap (λ (m : Numbers). finmap.get m q) numbers);
      covers = record {
        whole = all_one (IsRecord most) c whole;
        apart = pairs_one c;
        from = λ q named. inl (one_named a q (back q (named_one c q named)));
        kept = λ q named. inl (one_named c q (forth q (named_one a q named)));
        lose = λ q here. absurd (none_in_empty q here);
      };
    }

-- what is seen of another cluster in the same levels
seen_with : (level : Level) (c : Cluster) (o : Option Stored) → seen_in level (with_cluster c o) ≡ option_map (λ _. c) (seen_in level o)
seen_with level c None = refl
seen_with level c (Some s) = from (is_in level s.tag)
  where
    from : (b : Bool) → cond b (Some c) None ≡ option_map (λ _. c) (cond b (Some s.cluster) None)
    from true = refl
    from false = refl

-- a number whose cluster is exchanged
pub record IsExchanged (exchanged : List Exchange) (old new : Shelf) (number : ℕ) : Type 0 where
  pub by : Exchange
  pub in_list : Contains exchanged by
  pub number_is : by.number ≡ number
  pub seen : (level : Level) → seen_at level new.store.clusters number ≡ option_map (λ _. by.cluster) (seen_at level old.store.clusters number)
  pub tag : (s : Stored) → finmap.get new.store.clusters number ≡ Some s → (t : Stored) × (finmap.get old.store.clusters number ≡ Some t) × (s.tag ≡ t.tag)

module _ (w : ℕ) (exchanged : List Exchange) (old new : Shelf) (order : IsInOrder w old) (same : HaveSameNames w exchanged old)
    (x : ExchangesEach exchanged old.store.clusters new.store.clusters) (numbers : (level : Level) → numbers_at level new ≡ numbers_at level old) where
  pub exchanged_at : (number : ℕ) → Contains (map (λ y. y.number) exchanged) number → IsExchanged exchanged old new number
  exchanged_at number here =
      let y = map-Contains (λ (y : Exchange). y.number) exchanged number here in
      let s = some_key (finmap.get old.store.clusters number) (same.held.there number here) in
      let is : finmap.get old.store.clusters y.0.number ≡ Some s.0 = ap (finmap.get old.store.clusters) y.2 ∙ s.1 in
      let now : finmap.get new.store.clusters number ≡ with_cluster y.0.cluster (Some s.0) =
      ap (finmap.get new.store.clusters) (sym y.2) ∙ x.exchanges y.0 s.0 y.1 is in
      record {
        by = y.0;
        in_list = y.1;
        number_is = y.2;
        seen = λ level. ap (seen_in level) now ∙ seen_with level y.0.cluster (Some s.0) ∙ ap (λ o. option_map (λ _. y.0.cluster) (seen_in level o)) (sym s.1);
        tag = λ t at. (s.0, s.1, sym (ap (λ (z : Stored). z.tag) (same_Some (record { cluster = y.0.cluster; tag = s.0.tag }) t (sym now ∙ at))));
      }

  pub by_number : (number : ℕ) → (finmap.get new.store.clusters number ≡ finmap.get old.store.clusters number) ⊎ IsExchanged exchanged old new number
  by_number number = elim (told_number (map (λ y. y.number) exchanged) number) [
    | inl here ↦ inr (exchanged_at number here)
    | inr out ↦ inl (x.others number out)
  ]

  -- what is seen now is what was seen, or has its names
  record Follows (level : Level) (number : ℕ) (c : Cluster) : Type 0 where
    pub was : Cluster
    pub at : seen_at level old.store.clusters number ≡ Some was
    pub names : c.names ≡ was.names
    pub whole : IsRecord (64 * w) c
    pub fitted : IsFitted (64 * w) old.limits c

  follows : (level : Level) (number : ℕ) (c : Cluster) → seen_at level new.store.clusters number ≡ Some c → Follows level number c
  follows level number c is = elim (by_number number) [
    | inl stays ↦
        let at = sym (same_seen level old.store.clusters new.store.clusters number stays) ∙ is in
        record {
          was = c;
          at = at;
          names = refl;
          whole = (indexed_at w old order level).whole number c at;
          fitted = order.fitted number c (seen_is_stored level old.store.clusters number c at);
        }
    | inr e ↦ elim (cases_option (seen_at level old.store.clusters number)) [
      | inl none ↦ absurd (none-some c (ap (option_map (λ _. e.by.cluster)) (sym none) ∙ sym (e.seen level) ∙ is))
      | inr some ↦
          let one : e.by.cluster ≡ c = same_Some e.by.cluster c (ap (option_map (λ _. e.by.cluster)) (sym some.1) ∙ sym (e.seen level) ∙ is) in
          let stored = ap (stored_at old.store.clusters) e.number_is ∙ seen_is_stored level old.store.clusters number some.0 some.1 in
          record {
            was = some.0;
            at = some.1;
            names = subst (λ (d : Cluster). d.names ≡ some.0.names) one (same.names e.by some.0 e.in_list stored);
            whole = subst (IsRecord (64 * w)) one (fitted_record (64 * w) old.limits e.by.cluster (same.fitted e.by e.in_list));
            fitted = subst (IsFitted (64 * w) old.limits) one (same.fitted e.by e.in_list);
          }
    ]
  ]

  stands_now : (level : Level) (id number : ℕ) → StandsAt (view_of level old) number id → StandsAt (view_of level new) number id
  stands_now level id number s = elim (by_number number) [
    | inl stays ↦ record { cluster = s.cluster; there = same_seen level old.store.clusters new.store.clusters number stays ∙ s.there; here = s.here }
    | inr e ↦
        let stored = ap (stored_at old.store.clusters) e.number_is ∙ seen_is_stored level old.store.clusters number s.cluster s.there in
        record {
          cluster = e.by.cluster;
          there = e.seen level ∙ ap (option_map (λ _. e.by.cluster)) s.there;
          here = subst (λ (xs : List ℕ). Contains xs id) (sym (same.names e.by s.cluster e.in_list stored)) s.here;
        }
  ]

  indexed_now : (level : Level) → IsIndexed (64 * w) (view_of level new)
  indexed_now level =
      let was = indexed_at w old order level in
      let number_is : (id : ℕ) → finmap.get (numbers_at level new) id ≡ finmap.get (numbers_at level old) id = λ id. ap (λ (m : Numbers). finmap.get m id) (numbers level) in
      record {
        stands = λ id number is. stands_now level id number (was.stands id number (sym (number_is id) ∙ is));
        listed = λ number id c is here.
            let f = follows level number c is in number_is id ∙ was.listed number id f.was f.at (subst (λ (xs : List ℕ). Contains xs id) f.names here);
        whole = λ number c is. (follows level number c is).whole;
      }

  fitted_now : (number : ℕ) (c : Cluster) → stored_at new.store.clusters number ≡ Some c → IsFitted (64 * w) old.limits c
  fitted_now number c is = elim (stored_is_seen new.store.clusters number c is) [
    | inl main ↦ (follows Main number c main).fitted
    | inr top ↦ (follows Top number c top).fitted
  ]

  pub order_exchanged : IsStore (64 * w) new.store → new.staging ≡ old.staging → new.limits ≡ old.limits → IsInOrder w new
  order_exchanged store staging limits = record {
    wide = order.wide;
    narrow = order.narrow;
    main = indexed_now Main;
    top = indexed_now Top;
    store = store;
    in_range = subst (λ (l : Limits). AreInRange (64 * w) (bounds_of l)) (sym limits) order.in_range;
    fitted = λ number c is. subst (λ (l : Limits). IsFitted (64 * w) l c) (sym limits) (fitted_now number c is);
    both = λ none number s is.
        let all : AllHave Both old.store.clusters = order.both (sym staging ∙ none) in
        elim (by_number number) [ inl stays ↦ all number s (sym stays ∙ is) | inr e ↦ let t = e.tag s is in t.2 ∙ all number t.0 t.1 ];
  }

-- ---- where a call may fail

pub by_result : {X E P Q R : Type 0} (r : Result X E) → OnOk r P → OnErr r Q → (P → R) → (Q → R) → R
by_result (Ok x) ok err first second = first ok
by_result (Err e) ok err first second = second err

pub same_numbers : (level : Level) (limits : Limits) (numbers : Maps ℕ) (s t : Store)
    → numbers_at level (shelf_of limits numbers t) ≡ numbers_at level (shelf_of limits numbers s)
same_numbers Main limits numbers s t = refl
same_numbers Top limits numbers s t = refl
