-- The rings are right again after a change of the top level of a shelf.
use Rattle.std.proofs.Common.{◌≡◌, ◌≤◌, ℕ, ◌*◌, List, [], ◌∷◌, ◌++◌, length, take, drop, Contains, Option, Some, None, IsSome, is_some, inl, inr, refl, sym, ap, ◌∙◌, subst, arith, option_to_list}
use Rattle.std.specs.Prelude.{slice_index, IfSome}
use Rattle.std.specs.List.{AllPairs}
use Rattle.std.proofs.lemmas.List.{get_or_default, get_or-take, length-drop, length-take, take-append-drop}
use Rattle.std.proofs.lemmas.List.Elements.{Contains-append_left, Contains-append_right}
use Rattle.lists.specs.Distinct.{AreDistinct}
use Rattle.lists.proofs.Distinct.{distinct_apart}
use Rattle.lists.proofs.Entries.{Contains-head}
use Rattle.graphs.specs.declared.names.Level.TheVariants.{Top}
use Rattle.cluster.specs.Clusters.{Cluster, AreApart}
use Rattle.record.specs.Records.{IsRecord}
use Rattle.name_book.specs.Books.{IsNamed}
use Rattle.name_book.specs.Calls.{GathersMain, Touches}
use Rattle.name_book.proofs.Named.{named-same}
use Rattle.name_book.proofs.Rings.{rung-linked, rung-turned}
use Rattle.levels.specs.Changes.{AreAt}
use Rattle.levels.specs.Changes.{IsNamed as HasName}
use Rattle.levels.specs.Kept.{SuitsShelf}
use Rattle.levels.specs.Rings.{Forgets, Ringed, AreRight, IsMarked, JoinsLast, LeftMain, LeftOf}
use Rattle.levels.specs.Shelves.{Shelf, IsInOrder, numbers_at, seen_at, stored_at, view_of}
use Rattle.levels.specs.Tops.{Comes, HasFront, IsMade}
use Rattle.levels.proofs.Cutting.{Cuts}
use Rattle.levels.proofs.Following.{right_alone, right_beside, right_still}
use Rattle.levels.proofs.Lookups.{placed_of}
use Rattle.levels.proofs.Pointing.{one_list}
use Rattle.levels.proofs.Rebuilding.{last_is, last_stored, no_last, pairs_left, rest_stored}
use Rattle.levels.proofs.Regathering.{Ends, regrouped}
use Rattle.levels.proofs.Regrouping.{named_olds}
use Rattle.levels.proofs.Righting.{AreLost}
use Rattle.levels.proofs.Touching.{left_untouched}

-- the first of some names isn't among those behind the first few
pub head_once : (names : List ℕ) (kept : ℕ) → AreDistinct names → 1 ≤ kept → kept ≤ length names → Contains (drop kept names) (slice_index names 0) → ⊥
head_once names kept once some low late =
    let parts : take kept names ++ drop kept names ≡ names = take-append-drop kept names in
    let first : Contains (take kept names) (slice_index names 0) = (
      0,
      omega (arith, some, low, length-take kept names),
      get_or-take kept names 0 (slice_index names 0) (omega (arith, some))
          ∙ get_or_default names 0 (slice_index names 0) 0 (omega (arith, some, low)),
    ) in
    distinct_apart (take kept names) (drop kept names) (slice_index names 0) (subst AreDistinct (sym parts) once) first late

-- ---- the names of the last that join its first ones

-- none do where all are first ones
pub joins_none : (kept : ℕ) (c : Cluster) (rings : Ringed) → length c.names ≤ kept → JoinsLast kept c rings rings
joins_none kept c rings all = record {
  names = refl;
  main = λ x y. (
    λ share. inl (share, none x, none y),
    λ either. elim either [
      | inl beside ↦ beside.0
      | inr both ↦ elim both.0 [
        | inr late ↦ absurd (none x late)
        | inl one ↦ elim both.1 [
          | inr late ↦ absurd (none y late)
          | inl two ↦ rung-linked rings.book 0 x (slice_index c.names 0) y (rung-turned rings.book 0 (slice_index c.names 0) x one) two
        ]
      ]
    ],
  );
  touched = λ x. (λ marked. marked, λ marked. marked);
  issued = refl;
}
  where
    none : (x : ℕ) → Contains (drop kept c.names) x → ⊥
    none x (i, low, at) = omega (arith, low, length-drop kept c.names, all)

pub joins_by : (kept : ℕ) (c d : Cluster) (names : List ℕ) (old new : Ringed) → names ≡ d.names → d ≡ c
    → GathersMain (slice_index names 0) (drop kept names) old new → JoinsLast kept c old new
joins_by kept c d names old new is same gathers =
    let own : names ≡ c.names = is ∙ ap (λ (e : Cluster). e.names) same in
    let made : GathersMain (slice_index c.names 0) (drop kept c.names) old new =
    subst (λ (xs : List ℕ). GathersMain (slice_index xs 0) (drop kept xs) old new) own gathers in
    record { names = made.names; main = made.main; touched = made.touched; issued = made.issued }

module _ (w : ℕ) (outs made : List ℕ) (number : Option ℕ) (rest : List Cluster) (last : Option Cluster) (kept : ℕ) (gone : List ℕ) (old new : Shelf)
    (order : IsInOrder w old) (now : IsInOrder w new) (comes : Comes w outs rest last kept gone old) (is : IsMade w outs made number rest last gone old new)
    (before : Ringed) (right : SuitsShelf before old) where
  abbrev all : List ℕ
  all = made ++ option_to_list number

  abbrev news : List Cluster
  news = rest ++ option_to_list last

  known : (x : ℕ) → HasName news x → HasName is.olds x
  known x named =
      subst (λ (cs : List Cluster). HasName cs x) (one_list (seen_at Top old.store.clusters) outs comes.olds is.olds comes.at is.rebuilds.top.taken)
      (comes.known x named)

  pub untouched : (n x : ℕ) → Contains outs n → LeftMain new n x → IsNamed before.book x × (IsMarked before x → ⊥)
  untouched = left_untouched w outs all is.olds news gone old new order now is.rebuilds before right

  -- ---- the clusters that came in

  abbrev stand : AreAt (seen_at Top new.store.clusters) (made ++ option_to_list number) (rest ++ option_to_list last)
  stand = is.rebuilds.top.exchanges.stand

  pub rest_at : AreAt (stored_at new.store.clusters) made rest
  rest_at = rest_stored made number rest last new.store.clusters stand is.count

  same_rest : (clusters : List Cluster) → AreAt (stored_at new.store.clusters) made clusters → rest ≡ clusters
  same_rest clusters are = one_list (stored_at new.store.clusters) made rest clusters rest_at are

  pub rest_apart : (clusters : List Cluster) → AreAt (stored_at new.store.clusters) made clusters → AllPairs AreApart clusters
  rest_apart clusters are = subst (AllPairs AreApart) (same_rest clusters are) (pairs_left rest (option_to_list last) is.rebuilds.top.covers.apart)

  -- the last of them stands under its number
  pub last_at : (k : ℕ) → number ≡ Some k → (c : Cluster) × (last ≡ Some c) × (stored_at new.store.clusters k ≡ Some c)
  last_at k has =
      let c = last_is made number rest last new.store.clusters stand is.count k has in
      (c.0, c.1, last_stored made number rest last new.store.clusters stand is.count k c.0 has c.1)

  pub none_at : number ≡ None → last ≡ None
  none_at = no_last made number rest last new.store.clusters stand is.count

  some : (c : Cluster) → last ≡ Some c → 1 ≤ kept
  some c is_c = comes.some (ap is_some is_c)

  pub kept_low : (c : Cluster) → last ≡ Some c → (1 ≤ kept) × (kept ≤ length c.names)
  kept_low c is_c = (
    some c is_c,
    (subst (λ o. IfSome o (λ d. HasFront kept outs d.names (numbers_at Top old))) is_c comes.front).low,
  )

  last_in : (c : Cluster) → last ≡ Some c → Contains news c
  last_in c is_c =
      subst (λ o. Contains (rest ++ option_to_list o) c) (sym is_c) (Contains-append_right rest (c ∷ []) c (Contains-head c []))

  whole_last : (c : Cluster) → last ≡ Some c → IsRecord (64 * w) c
  whole_last c is_c = is.rebuilds.top.covers.whole c (last_in c is_c)

  once : (c : Cluster) → last ≡ Some c → Contains (drop kept c.names) (slice_index c.names 0) → ⊥
  once c is_c = let low = kept_low c is_c in head_once c.names kept (whole_last c is_c).connected.once low.0 low.1

  -- ---- the rings

  -- the names that go are live
  pub gone_live : (x : ℕ) → Contains gone x → IsNamed before.book x
  gone_live x lost =
      let named = (is.rebuilds.top.covers.lose x lost).0 in
      let at = placed_of (seen_at Top old.store.clusters) outs is.olds named.0 is.rebuilds.top.taken named.1 in
      (right.names x).1 (inr (ap is_some (order.top.listed _ x named.0 at.stands named.2)))

  pub ends_of : (cut after : Ringed) → (number ≡ None → after ≡ cut)
      → ((c : Cluster) (k : ℕ) → number ≡ Some k → stored_at new.store.clusters k ≡ Some c → JoinsLast kept c cut after) → Ends kept last cut after
  ends_of cut after none joins = from number refl
    where
      from : (o : Option ℕ) → number ≡ o → Ends kept last cut after
      from None is_none = subst (λ o. Ends kept o cut after) (sym (none_at is_none)) (none is_none)
      from (Some k) is_k = let c = last_at k is_k in subst (λ o. Ends kept o cut after) (sym c.1) (joins c.0 k is_k c.2)

  module _ (mid : Ringed) (touches : Touches (LeftOf new outs) before mid) where
    pub right_staged : IsSome old.staging → (after : Ringed) → Forgets (AreLost gone new.main) mid after → SuitsShelf after new
    right_staged staged after forgets =
        right_beside w outs all is.olds news gone old new order now is.rebuilds before mid right touches staged known after forgets

    module _ (none : old.staging ≡ None) (less : Ringed) (forgets : Forgets (Contains gone) mid less) where
      still : AreRight mid (numbers_at Top old) (numbers_at Top old)
      still = right_still w outs all is.olds news gone old new order now is.rebuilds before mid right touches none

      -- the names of what came in stay in the rings
      news_named : (x : ℕ) → HasName news x → IsNamed less.book x
      news_named x named = (forgets.names x).1 (
        named_olds (64 * w) outs all is.olds news gone (view_of Top old) (view_of Top new) order.top now.top is.rebuilds.top mid still x (known x named),
        λ lost. (is.rebuilds.top.covers.lose x lost).1 named,
      )

      pub rest_named : (clusters : List Cluster) (x : ℕ) → AreAt (stored_at new.store.clusters) made clusters → HasName clusters x → IsNamed less.book x
      rest_named clusters x are named =
          let mine : HasName rest x = subst (λ (cs : List Cluster). HasName cs x) (sym (same_rest clusters are)) named in
          news_named x (mine.0, Contains-append_left rest (option_to_list last) mine.0 mine.1, mine.2)

      pub last_named : (c : Cluster) (x : ℕ) → last ≡ Some c → Contains c.names x → IsNamed less.book x
      last_named c x is_c here = news_named x (c, last_in c is_c, here)

      -- the last stands under its number, with its names in the rings
      pub last_there : (cut : Ringed) → cut.book.names ≡ less.book.names → IfSome number (λ k. (c : Cluster) × (stored_at new.store.clusters k ≡ Some c)
          × (1 ≤ kept) × (kept ≤ length c.names) × ((x : ℕ) → Contains c.names x → IsNamed cut.book x))
      last_there cut names = from number refl
        where
          from : (o : Option ℕ) → number ≡ o → IfSome o (λ k. (c : Cluster) × (stored_at new.store.clusters k ≡ Some c)
              × (1 ≤ kept) × (kept ≤ length c.names) × ((x : ℕ) → Contains c.names x → IsNamed cut.book x))
          from None is_none = tt
          from (Some k) is_k =
              let c = last_at k is_k in let low = kept_low c.0 c.1 in
              (c.0, c.2, low.0, low.1, λ x here. named-same less.book cut.book names x (last_named c.0 x c.1 here))

      pub right_gathered : (cut : Ringed) → ((clusters : List Cluster) → AreAt (stored_at new.store.clusters) made clusters → Cuts clusters less cut)
          → (after : Ringed) → Ends kept last cut after → SuitsShelf after new
      right_gathered cut cuts after ends =
          right_alone w outs all is.olds news gone old new order now is.rebuilds before mid right touches none after
          (regrouped (64 * w) outs all is.olds rest last kept gone (view_of Top old) (view_of Top new) order.top now.top is.rebuilds.top known mid still
          less cut forgets (cuts rest rest_at) comes.front some once after ends)

-- no name comes or goes with the last
pub ends_same : (kept : ℕ) (last : Option Cluster) (cut after : Ringed) → Ends kept last cut after
    → (after.book.names ≡ cut.book.names) × (after.book.issued ≡ cut.book.issued)
ends_same kept None cut after same = (ap (λ (k : Ringed). k.book.names) same, ap (λ (k : Ringed). k.book.issued) same)
ends_same kept (Some c) cut after joins = (joins.names, joins.issued)
