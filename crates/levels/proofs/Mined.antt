-- Why names can't be mined: by the names of main, and by which of them are touched.
use Rattle.std.proofs.Common.{◌≡◌, ◌≢◌, ◌↔◌, ℕ, ◌*◌, ◌≤◌, true, false, List, ◌∷◌, length, get_or, Contains, Option, Some, None, is_some, inl, inr, refl, sym, ap, ◌∙◌, subst, arith}
use Rattle.std.specs.Prelude.{unwrap_or}
use Rattle.std.specs.Ordering.{nat_cmp}
use Rattle.std.specs.FinMap as finmap
use Rattle.std.specs.FinSet as set
use Rattle.std.proofs.lemmas.List.{get_or_default}
use Rattle.fee_rate.specs.declared.limits.TheConstants.{MAX_TOTAL}
use Rattle.lists.specs.Distinct.{AreDistinct}
use Rattle.lists.proofs.Cases.{none_of}
use Rattle.lists.proofs.Distinct.{distinct_apart}
use Rattle.lists.proofs.Entries.{Contains-head}
use Rattle.graphs.specs.declared.names.Level.TheVariants.{Main, Top}
use Rattle.graphs.specs.Closures.{Closure, is_member}
use Rattle.graph_model.specs.declared.names.Refusal.TheVariants.{Unknown, Parent}
use Rattle.graph_model.specs.Refusals.{IsFirst, StandsTwice}
use Rattle.graph_model.proofs.FirstLemmas.{first_in}
use Rattle.name_book.specs.Books.{IsNamed}
use Rattle.name_book.specs.Calls.{Keeps, ReleasesAll, Touches}
use Rattle.cluster.specs.Clusters.{Cluster}
use Rattle.levels.specs.Kept.{IsKept, SuitsShelf}
use Rattle.levels.specs.Mining.{FindsFirst, LacksListed, LacksTouched, MineRefusalIs}
use Rattle.levels.specs.Rings.{Ringed, IsMarked}
use Rattle.levels.specs.Shelves.{Shelf, IsInOrder, numbers_at, seen_at, view_of}
use Rattle.levels.specs.Views.{Numbers, graph_of}
use Rattle.levels.proofs.Finds.{indexed_at}
use Rattle.levels.proofs.Gaining.{right_reserved}
use Rattle.levels.proofs.Graphs.{above_in, above_from, member-number, names_of_above}
use Rattle.levels.proofs.Seeking.{finds_alike}
use Rattle.levels.proofs.Under.{held}

-- ---- the row

module _ (g : Closure) (ids : List ℕ) where
  none_first : (P : ℕ → Type 0) → ((id : ℕ) → Contains ids id → P id → ⊥) → (id : ℕ) → IsFirst (λ before n. P n) ids id → ⊥
  none_first P none id first = none id (first_in (λ before n. P n) ids id first) first.has

  none_twice : AreDistinct ids → (id : ℕ) → IsFirst StandsTwice ids id → ⊥
  none_twice once id first =
      distinct_apart first.before (id ∷ first.after) id (subst (λ (zs : List ℕ). AreDistinct zs) first.cut once) first.has (Contains-head id first.after)

  pub row_absent : (id : ℕ) → AreDistinct ids → IsFirst (λ before n. is_member g n ≡ false) ids id → MineRefusalIs g ids (Some (Unknown id))
  row_absent id once first = inr (none_twice once, inl (id, first, refl))

  module _ (once : AreDistinct ids) (live : (id : ℕ) → Contains ids id → is_member g id ≡ false → ⊥) where
    pub row_lacking : (id : ℕ) → IsFirst (λ before n. LacksListed g ids n) ids id → MineRefusalIs g ids (Some (Parent id))
    row_lacking id first = inr (none_twice once, inr (none_first (λ n. is_member g n ≡ false) live, inl (id, first, refl)))

    pub row_none : ((id : ℕ) → Contains ids id → LacksListed g ids id → ⊥) → MineRefusalIs g ids None
    row_none none = inr (none_twice once, inr (none_first (λ n. is_member g n ≡ false) live, inr (none_first (LacksListed g ids) none, refl)))

-- ---- the names of main

pub absent_is : (shelf : Shelf) (id : ℕ) → finmap.get (numbers_at Main shelf) id ≡ None → is_member (graph_of (view_of Main shelf)) id ≡ false
absent_is shelf id none = member-number (view_of Main shelf) id ∙ ap is_some none

pub present_is : (shelf : Shelf) (id : ℕ) → finmap.get (numbers_at Main shelf) id ≢ None → is_member (graph_of (view_of Main shelf)) id ≡ false → ⊥
present_is shelf id has absent = has (none_of (finmap.get (numbers_at Main shelf) id) (sym (member-number (view_of Main shelf) id) ∙ absent))

pub live_named : (rings : Ringed) (shelf : Shelf) (id : ℕ) → SuitsShelf rings shelf → is_member (graph_of (view_of Main shelf)) id ≡ true → IsNamed rings.book id
live_named rings shelf id right live = (right.names id).1 (inl (sym (member-number (view_of Main shelf) id) ∙ live))

-- without a staging no name is touched
pub none_touched : (rings : Ringed) (shelf : Shelf) → SuitsShelf rings shelf → shelf.staging ≡ None → (x : ℕ) → IsMarked rings x → ⊥
none_touched rings shelf right alone x marked = (right.touched x).0 marked (ap (λ (o : Option Numbers). finmap.get (unwrap_or o shelf.main) x) (sym alone))

-- ---- one name of main

one_name : (xs : List ℕ) (a b : ℕ) → length xs ≡ 1 → Contains xs a → Contains xs b → a ≡ b
one_name xs a b one (i, low, is) (j, below, so) =
    let same : i ≡ j = omega (arith, one, low, below) in
    sym is ∙ ap (λ n. get_or xs n a) same ∙ get_or_default xs j a b below ∙ so

module _ (w : ℕ) (shelf : Shelf) (order : IsInOrder w shelf) (rings : Ringed) (id number : ℕ) (is : finmap.get (numbers_at Main shelf) id ≡ Some number)
    (c : Cluster) (at : seen_at Main shelf.store.clusters number ≡ Some c) where
  here : Contains c.names id
  here = held w shelf order Main id number is c at

  -- the ancestors in its cluster are those in the graph
  pub lacks_in : LacksTouched c.graph rings id ↔ LacksTouched (graph_of (view_of Main shelf)) rings id
  lacks_in = (
    λ h. (h.0, above_in (64 * w) (view_of Main shelf) (indexed_at w shelf order Main) number h.0 id c at h.1, h.2),
    λ h. (h.0, above_from (64 * w) (view_of Main shelf) (indexed_at w shelf order Main) number h.0 id c at (inr here) h.1, h.2),
  )

  -- alone in its cluster it has no other
  pub lone_lacks_none : length c.names ≡ 1 → IsMarked rings id → LacksTouched (graph_of (view_of Main shelf)) rings id → ⊥
  lone_lacks_none one marked h =
      let up = above_from (64 * w) (view_of Main shelf) (indexed_at w shelf order Main) number h.0 id c at (inr here) h.1 in
      let above = (names_of_above (64 * w) (view_of Main shelf) (indexed_at w shelf order Main) number h.0 id c at up).0 in
      h.2 (subst (IsMarked rings) (one_name c.names id h.0 one here above) marked)

pub same_lacks : (rings : Ringed) (id : ℕ) (a b : Shelf) → a ≡ b
    → LacksTouched (graph_of (view_of Main a)) rings id ↔ LacksTouched (graph_of (view_of Main b)) rings id
same_lacks rings id a b same = (
  subst (λ (s : Shelf). LacksTouched (graph_of (view_of Main s)) rings id) same,
  subst (λ (s : Shelf). LacksTouched (graph_of (view_of Main s)) rings id) (sym same),
)

-- ---- the names that are touched meanwhile

module _ (ids : List ℕ) (old mid : Ringed) (touches : Touches (Contains ids) old mid) (none : (x : ℕ) → IsMarked old x → ⊥) where
  -- the touched names are the listed ones
  pub finds_listed : (g : Closure) (found : Option ℕ) → FindsFirst (LacksTouched g mid) ids found → FindsFirst (LacksListed g ids) ids found
  finds_listed g found = finds_alike (LacksTouched g mid) (LacksListed g ids) ids found (λ id. (
    λ h. (h.0, h.1, λ listed. h.2 ((touches.touched h.0).1 (inr listed))),
    λ h. (h.0, h.1, λ marked. elim ((touches.touched h.0).0 marked) [ inl was ↦ none h.0 was | inr listed ↦ h.2 listed ]),
  ))

  -- all is as before
  pub touched_and_released : (new : Ringed) → ReleasesAll ids mid new → Keeps old new
  touched_and_released new releases = record {
    names = releases.names ∙ touches.names;
    main = λ x y. (λ share. (touches.main x y).0 ((releases.main x y).0 share), λ share. (releases.main x y).1 ((touches.main x y).1 share));
    touched = λ x. (
      λ marked.
          let was = (releases.touched x).0 marked in
          elim ((touches.touched x).0 was.0) [ inl before ↦ before | inr listed ↦ absurd (was.1 listed) ],
      λ before. absurd (none x before),
    );
    issued = releases.issued ∙ touches.issued;
  }

-- what is kept of the levels says no more of the rings
pub kept_still : (w : ℕ) (shelf : Shelf) (old new : Ringed) (mains tops issued : ℕ) → Keeps old new
    → IsKept w shelf old mains tops issued → IsKept w shelf new mains tops issued
kept_still w shelf old new mains tops issued keeps kept = record {
  order = kept.order;
  right = right_reserved old new shelf.main (numbers_at Top shelf) keeps kept.right;
  mains = kept.mains;
  tops = kept.tops;
  issued = kept.issued ∙ sym keeps.issued;
  few = subst (λ (s : set.FinSet nat_cmp). set.len s ≤ MAX_TOTAL) (sym keeps.names) kept.few;
}
