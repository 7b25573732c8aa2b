-- What is kept of the levels, seen from the levels.
use Rattle.std.proofs.Common.{◌≡◌, ◌↔◌, ℕ, ◌≤◌, List, length, Option, Some, None, is_some, IsSome, inl, inr, refl, sym, ap, ◌∙◌, subst, arith, true≢false}
use Rattle.std.specs.Prelude.{option_map}
use Rattle.std.proofs.lemmas.Option.{none-some}
use Rattle.std.specs.Ordering.{nat_cmp}
use Rattle.std.specs.FinMap as finmap
use Rattle.std.specs.FinSet as set
use Rattle.lists.proofs.Keys.{set_len}
use Rattle.lists.proofs.Cases.{none_of}
use Rattle.graphs.specs.Closures.{Closure}
use Rattle.graphs.specs.Graphs.{Lists}
use Rattle.graphs.specs.declared.names.Level.{Level}
use Rattle.graphs.specs.declared.names.Level.TheVariants.{Main, Top}
use Rattle.fee_rate.specs.declared.limits.TheConstants.{MAX_TOTAL}
use Rattle.graph_model.specs.declared.names.Limits.{Limits}
use Rattle.name_book.specs.Books.{IsNamed}
use Rattle.name_book.specs.Calls.{HasNone}
use Rattle.cluster_store.specs.Stores.{parts_of_level, places_by}
use Rattle.levels.specs.Kept.{IsKept, SuitsShelf}
use Rattle.levels.specs.Levels.{Levels, IsLive, level_at, no_names}
use Rattle.levels.specs.Rings.{Ringed, AreRight}
use Rattle.levels.specs.Shelves.{Shelf, IsInOrder, levels_of, seen_at, no_clusters, numbers_at, one_of, view_of}
use Rattle.levels.specs.Views.{Numbers, graph_of}
use Rattle.levels.proofs.Counts.{graph_len, lists_once, set_listed}
use Rattle.levels.proofs.Fewer.{few_at}
use Rattle.levels.proofs.Finds.{alike, graph_is, level_is, member_is}
use Rattle.levels.proofs.Unmoved.{same_one}

module _ (w issued : ℕ) (shelf : Shelf) (now : Levels) (order : IsInOrder w shelf) (view : levels_of shelf issued ≡ now) where
  -- a level has as many names as it has numbers
  pub level_len : (level : Level) → finmap.len (numbers_at level shelf) ≡ finmap.len (level_at now level).graph
  level_len level =
      sym (graph_len (view_of level shelf)) ∙ ap (λ (g : Closure). finmap.len g) (sym (graph_is w issued shelf now order view level))

  -- a live name is one of the rings
  pub live_named : (rings : Ringed) → SuitsShelf rings shelf → (id : ℕ) → IsLive now id ↔ IsNamed rings.book id
  live_named rings right id = (
    λ live. (right.names id).1 (elim live [
      | inl main ↦ inl (sym (member_is w issued shelf now order view Main id) ∙ main)
      | inr top ↦ inr (sym (member_is w issued shelf now order view Top id) ∙ top)
    ]),
    λ named. elim ((right.names id).0 named) [
      | inl main ↦ inl (member_is w issued shelf now order view Main id ∙ main)
      | inr top ↦ inr (member_is w issued shelf now order view Top id ∙ top)
    ],
  )

  pub live_counted : (rings : Ringed) → SuitsShelf rings shelf → (ids : List ℕ) → Lists (IsLive now) ids → length ids ≡ set.len rings.book.names
  live_counted rings right ids lists =
      set_len rings.book.names ids (lists_once ids lists) (λ id. (
        λ here. (live_named rings right id).0 ((lists.exact id).0 here),
        λ named. (lists.exact id).1 ((live_named rings right id).1 named),
      ))

  pub live_listed : (rings : Ringed) → SuitsShelf rings shelf → (ids : List ℕ) × Lists (IsLive now) ids × (set.len rings.book.names ≡ length ids)
  live_listed rings right =
      let names = set_listed rings.book.names in
      let lists : Lists (IsLive now) names.0 = record {
        rising = names.1.rising;
        exact = λ id. (
          λ here. (live_named rings right id).1 ((names.1.exact id).0 here),
          λ live. (names.1.exact id).1 ((live_named rings right id).0 live),
        );
      } in
      (names.0, lists, sym (live_counted rings right names.0 lists))

-- ---- no name, and a staging that is opened

no_name : (id : ℕ) → IsSome (finmap.get {X = ℕ} (finmap.empty {R = nat_cmp}) id) → ⊥
no_name id some = true≢false (sym some ∙ ap is_some (finmap.get-empty nat_cmp id))

right_none : (rings : Ringed) → HasNone rings → AreRight rings finmap.empty finmap.empty
right_none rings none = record {
  names = λ id. (λ named. absurd (none.names id named), λ held. absurd (elim held [ inl main ↦ no_name id main | inr top ↦ no_name id top ]));
  zero = λ a b. (
    λ share. absurd (none.names a share.from),
    λ is. absurd (elim is [ inl one ↦ none.names a one.0 | inr of ↦ none-some of.0 (sym (finmap.get-empty nat_cmp a) ∙ of.1) ]),
  );
  touched = λ id. (λ marked. absurd (none.touched id marked), λ apart. absurd (apart refl));
}

pub kept_none : (w : ℕ) (limits : Limits) (shelf : Shelf) (rings : Ringed) → shelf ≡ no_clusters limits → IsInOrder w shelf → HasNone rings → IsKept w shelf rings 0 0 0
kept_none w limits shelf rings empty order none = record {
  order = order;
  right = subst (λ (s : Shelf). SuitsShelf rings s) (sym empty) (right_none rings none);
  mains = sym (ap (λ (s : Shelf). finmap.len s.main) empty ∙ finmap.len-empty nat_cmp ℕ);
  tops = sym (ap (λ (s : Shelf). finmap.len (numbers_at Top s)) empty ∙ finmap.len-empty nat_cmp ℕ);
  issued = sym none.issued;
  few = subst (λ n. n ≤ MAX_TOTAL) (sym none.len) (omega arith);
}

pub levels_none : (limits : Limits) (shelf : Shelf) → shelf ≡ no_clusters limits → levels_of shelf 0 ≡ no_names limits
unfolding places_by
levels_none limits shelf empty =
    let graph : graph_of (view_of Main (no_clusters limits)) ≡ finmap.empty =
    finmap.empty_of_len (graph_of (view_of Main (no_clusters limits))) (graph_len (view_of Main (no_clusters limits)) ∙ finmap.len-empty nat_cmp ℕ) in
    ap (λ (s : Shelf). levels_of s 0) empty
    ∙ (λ i. record {
      limits = limits;
      main = record { graph = graph i; parts = parts_of_level Main (no_clusters limits).store };
      staging = None;
      issued = 0;
    })

-- other limits
pub kept_limited : (w mains tops issued : ℕ) (limits : Limits) (old new : Shelf) (rings : Ringed) → new ≡ record old { limits = limits } → IsInOrder w new
    → IsKept w old rings mains tops issued → IsKept w new rings mains tops issued
kept_limited w mains tops issued limits old new rings is order kept = record {
  order = order;
  right = subst (λ (s : Shelf). SuitsShelf rings s) (sym is) kept.right;
  mains = subst (λ (s : Shelf). mains ≡ finmap.len s.main) (sym is) kept.mains;
  tops = subst (λ (s : Shelf). tops ≡ finmap.len (numbers_at Top s)) (sym is) kept.tops;
  issued = kept.issued;
  few = kept.few;
}

pub levels_limited : (limits : Limits) (old new : Shelf) (issued : ℕ) (now : Levels) → levels_of old issued ≡ now → new ≡ record old { limits = limits }
    → levels_of new issued ≡ record now { limits = limits }
levels_limited limits old new issued now view is =
    ap (λ (s : Shelf). levels_of s issued) is ∙ ap (λ (l : Levels). record l { limits = limits }) view

-- there is a staging of the shelf where the levels have one
pub shelf_staged : (shelf : Shelf) (issued : ℕ) (now : Levels) → levels_of shelf issued ≡ now → is_some shelf.staging ≡ is_some now.staging
shelf_staged shelf issued now view = from shelf.staging ∙ ap (λ (l : Levels). is_some l.staging) view
  where
    from : (o : Option Numbers) → is_some o ≡ is_some (option_map (λ _. one_of Top shelf) o)
    from None = refl
    from (Some m) = refl

pub shelf_alone : (shelf : Shelf) (issued : ℕ) (now : Levels) → levels_of shelf issued ≡ now → now.staging ≡ None → shelf.staging ≡ None
shelf_alone shelf issued now view none = none_of shelf.staging (shelf_staged shelf issued now view ∙ ap is_some none)

pub levels_begun : (w issued : ℕ) (shelf new : Shelf) (now : Levels) → IsInOrder w shelf → levels_of shelf issued ≡ now → now.staging ≡ None
    → new ≡ record shelf { staging = Some shelf.main } → levels_of new issued ≡ record now { staging = Some now.main }
levels_begun w issued shelf new now order view none is =
    let alone = shelf_alone shelf issued now view none in
    let top : one_of Top (record shelf { staging = Some shelf.main }) ≡ one_of Main shelf =
    ap (λ o. one_of Top (record shelf { staging = o })) (sym alone) ∙ sym (alike w shelf order alone) in
    ap (λ (s : Shelf). levels_of s issued) is
    ∙ (λ i. record { limits = shelf.limits; main = one_of Main shelf; staging = Some (top i); issued = issued })
    ∙ ap (λ (l : Levels). record l { staging = Some l.main }) view

-- ---- a staging that is closed

pub levels_closed : (w issued : ℕ) (shelf new : Shelf) (now : Levels) → IsInOrder w shelf → IsInOrder w new → levels_of shelf issued ≡ now → (stays : Level)
    → new.main ≡ numbers_at stays shelf → new.staging ≡ None → new.limits ≡ shelf.limits → ((n : ℕ) → seen_at Main new.store.clusters n ≡ seen_at stays shelf.store.clusters n)
    → levels_of new issued ≡ record now { main = level_at now stays; staging = None }
levels_closed w issued shelf new now order after view stays main none limits seen =
    let same : one_of Main new ≡ level_at now stays =
    same_one w shelf new order after Main stays main seen ∙ sym (level_is w issued shelf now order view stays) in
    λ i. record { limits = (limits ∙ ap (λ (l : Levels). l.limits) view) i; main = same i; staging = option_map (λ _. one_of Top new) (none i); issued = (view i).issued }

-- each level has no more names than the levels together
pub few_kept : (w mains tops issued : ℕ) (shelf : Shelf) (rings : Ringed) → IsKept w shelf rings mains tops issued → (level : Level)
    → finmap.len (numbers_at level shelf) ≤ MAX_TOTAL
few_kept w mains tops issued shelf rings kept level =
    let among = few_at w shelf rings kept.order kept.right level in
    let few = kept.few in
    omega (arith, among, few)

pub tops_few : (w mains tops issued : ℕ) (shelf : Shelf) (rings : Ringed) → IsKept w shelf rings mains tops issued → tops ≤ MAX_TOTAL
tops_few w mains tops issued shelf rings kept =
    let few = few_kept w mains tops issued shelf rings kept Top in
    omega (arith, few, kept.tops)
