-- The names of clusters of main that the top level left are touched.
use Rattle.std.proofs.Common.{◌≡◌, ℕ, ◌+◌, ◌<◌, List, [], ◌∷◌, ◌++◌, length, slice_index_or, take, Contains, Option, Some, None, is_some, inl, inr, ◌⊎◌, ◌↔◌, refl, sym, ap, ◌∙◌, subst}
use Rattle.std.specs.Prelude.{option_map, unwrap_or}
use Rattle.std.proofs.lemmas.List.{take_more}
use Rattle.std.proofs.lemmas.List.Elements.{Contains-append_left, Contains-get_or, Contains-push, Contains-push_cases}
use Rattle.std.proofs.lemmas.Option.{none-some, same_Some}
use Rattle.std.specs.FinMap as finmap
use Rattle.lists.specs.Distinct.{AreDistinct}
use Rattle.lists.proofs.Distinct.{repeated}
use Rattle.graphs.specs.declared.names.Level.TheVariants.{Main, Top}
use Rattle.chunk_index.specs.declared.entry.Tag.TheVariants.{MainOnly}
use Rattle.cluster.specs.Clusters.{Cluster}
use Rattle.cluster_store.specs.Stores.{Stored}
use Rattle.name_book.specs.Books.{IsNamed}
use Rattle.name_book.specs.Calls.{Touches}
use Rattle.levels.specs.Kept.{SuitsShelf}
use Rattle.levels.specs.Rings.{Ringed, AreRight, IsMarked, LeftMain, LeftOf, ShareMain}
use Rattle.levels.specs.Shelves.{Shelf, IsInOrder, numbers_at, seen_at, stored_at, tag_at}
use Rattle.levels.specs.Tops.{TopRebuilds}
use Rattle.levels.specs.Views.{Numbers}
use Rattle.levels.proofs.Leaving.{left_is, none_left}
use Rattle.cluster_store.proofs.Arriving.{place_of}
use Rattle.name_book.proofs.Named.{named-same}
use Rattle.levels.proofs.Pointing.{one_at}
use Rattle.cluster_store.proofs.Seen.{seen_stored}
use Rattle.levels.proofs.Seen.{one_seen}
use Rattle.levels.proofs.Shelved.{cases_staging, none_of}

-- ---- the names of a number

pub left_names : (shelf : Shelf) (number : ℕ) (c : Cluster) → tag_at shelf.store.clusters number ≡ Some MainOnly
    → stored_at shelf.store.clusters number ≡ Some c → (x : ℕ) → LeftMain shelf number x ↔ Contains c.names x
left_names shelf number c tag stored x = (
  λ left.
      let same : left.0 ≡ c = same_Some left.0 c (sym (ap (option_map (λ (s : Stored). s.cluster)) left.1) ∙ stored) in
      subst (λ (e : Cluster). Contains e.names x) same left.2,
  λ here. (c, whole (finmap.get shelf.store.clusters number) tag stored, here),
)
  where
    whole : (o : Option Stored) → option_map (λ (s : Stored). s.tag) o ≡ Some MainOnly → option_map (λ (s : Stored). s.cluster) o ≡ Some c
        → o ≡ Some (record { cluster = c; tag = MainOnly })
    whole None t e = absurd (none-some MainOnly t)
    whole (Some s) t e =
        let cluster : s.cluster ≡ c = same_Some s.cluster c e in
        let tag : s.tag ≡ MainOnly = same_Some s.tag MainOnly t in
        λ i. Some (record { cluster = cluster i; tag = tag i })

-- a list of its names has those that are left
pub left_listed : (shelf : Shelf) (number : ℕ) (c : Cluster) (names : List ℕ) → tag_at shelf.store.clusters number ≡ Some MainOnly
    → stored_at shelf.store.clusters number ≡ Some c → names ≡ c.names → (x : ℕ) → LeftMain shelf number x ↔ Contains names x
left_listed shelf number c names tag stored same x = (
  λ left. subst (λ (xs : List ℕ). Contains xs x) (sym same) ((left_names shelf number c tag stored x).0 left),
  λ here. (left_names shelf number c tag stored x).1 (subst (λ (xs : List ℕ). Contains xs x) same here),
)

-- ---- rings

-- the same names, in the same rings
pub record KeepsAll (old new : Ringed) : Type 0 where
  pub names : (x : ℕ) → IsNamed new.book x ↔ IsNamed old.book x
  pub main : (x y : ℕ) → ShareMain new x y ↔ ShareMain old x y
  pub touched : (x : ℕ) → IsMarked new x ↔ IsMarked old x

pub same_named : (old new : Ringed) → new.book.names ≡ old.book.names → (x : ℕ) → IsNamed new.book x ↔ IsNamed old.book x
same_named old new names x = (named-same new.book old.book (sym names) x, named-same old.book new.book names x)

-- where none is touched
pub kept_by : (These : ℕ → Type 0) (old new : Ringed) → Touches These old new → ((x : ℕ) → These x → ⊥) → KeepsAll old new
kept_by These old new touches none = record {
  names = same_named old new touches.names;
  main = touches.main;
  touched = λ x. (
    λ marked. elim ((touches.touched x).0 marked) [ inl was ↦ was | inr left ↦ absurd (none x left) ],
    λ was. (touches.touched x).1 (inl was),
  );
}

-- other words for the names that are touched
pub touches_alike : (These Those : ℕ → Type 0) (old new : Ringed) → ((x : ℕ) → These x ↔ Those x) → Touches These old new → Touches Those old new
touches_alike These Those old new same touches = record {
  names = touches.names;
  main = touches.main;
  touched = λ x. (
    λ marked. elim ((touches.touched x).0 marked) [ inl was ↦ inl was | inr here ↦ inr ((same x).0 here) ],
    λ either. (touches.touched x).1 (elim either [ inl was ↦ inl was | inr here ↦ inr ((same x).1 here) ]),
  );
  spare = touches.spare;
  issued = touches.issued;
}

pub right_kept : (old new : Ringed) (main top : Numbers) → KeepsAll old new → AreRight old main top → AreRight new main top
right_kept old new main top keeps right = record {
  names = λ x. (λ named. (right.names x).0 ((keeps.names x).0 named), λ held. (keeps.names x).1 ((right.names x).1 held));
  zero = λ a b. (
    λ share. elim ((right.zero a b).0 ((keeps.main a b).0 share)) [ inl one ↦ inl ((keeps.names a).1 one.0, one.1) | inr two ↦ inr two ],
    λ either. (keeps.main a b).1 ((right.zero a b).1 (elim either [ inl one ↦ inl ((keeps.names a).0 one.0, one.1) | inr two ↦ inr two ])),
  );
  touched = λ x. (λ marked. (right.touched x).0 ((keeps.touched x).0 marked), λ apart. (keeps.touched x).1 ((right.touched x).1 apart));
}

-- without a staging both levels have one numbering
pub in_one : (rings : Ringed) (shelf : Shelf) → shelf.staging ≡ None → SuitsShelf rings shelf ↔ AreRight rings (numbers_at Top shelf) (numbers_at Top shelf)
in_one rings shelf none =
    let same : numbers_at Top shelf ≡ shelf.main = ap (λ (o : Option Numbers). unwrap_or o shelf.main) none in (
      λ suits. subst (λ (m : Numbers). AreRight rings m (numbers_at Top shelf)) (sym same) suits,
      λ right. subst (λ (m : Numbers). AreRight rings m (numbers_at Top shelf)) same right,
    )

-- ---- after a change of the top level

module _ (w : ℕ) (outs made : List ℕ) (olds news : List Cluster) (gone : List ℕ) (old new : Shelf) (order : IsInOrder w old) (now : IsInOrder w new)
    (r : TopRebuilds w outs made olds news gone old new) where
  pub none_left_now : old.staging ≡ None → (n x : ℕ) → LeftMain new n x → ⊥
  none_left_now none n x left = none_left new n x (now.both (none_of new.staging old.staging r.staged none)) left

  -- main gives a name that is left the number of its cluster
  pub left_number : (n x : ℕ) → Contains outs n → LeftMain new n x → finmap.get old.main x ≡ Some n
  left_number n x out left = elim (cases_staging old.staging) [
    | inl none ↦ absurd (none_left_now none n x left)
    | inr some ↦ (left_is w outs made olds news gone old new order.main some r n x out).0 left
  ]

  -- and so did the top level
  pub top_number : (n x : ℕ) → Contains outs n → finmap.get old.main x ≡ Some n → finmap.get (numbers_at Top old) x ≡ Some n
  top_number n x out is =
      let at = order.main.stands x n is in
      let place = place_of outs n out in
      let seen = one_at (seen_at Top old.store.clusters) outs olds place.0 r.top.taken place.1 in
      let there : seen_at Top old.store.clusters n ≡ Some seen.0 = ap (seen_at Top old.store.clusters) (sym place.2) ∙ seen.2 in
      let one : at.cluster ≡ seen.0 = one_seen Main Top old.store.clusters n at.cluster seen.0 at.there there in
      order.top.listed n x seen.0 there (subst (λ (c : Cluster). Contains c.names x) one at.here)

  -- so it isn't touched yet
  pub left_untouched : (rings : Ringed) → SuitsShelf rings old → (n x : ℕ) → Contains outs n → LeftMain new n x → IsNamed rings.book x × (IsMarked rings x → ⊥)
  left_untouched rings right n x out left =
      let is = left_number n x out left in
      ((right.names x).1 (inl (ap is_some is)), λ marked. (right.touched x).0 marked (is ∙ sym (top_number n x out is)))

-- ---- one number after another

-- main alone has a name under one number
pub left_one : (w : ℕ) (shelf : Shelf) → IsInOrder w shelf → (n m x : ℕ) → LeftMain shelf n x → LeftMain shelf m x → n ≡ m
left_one w shelf order n m x one two = same_Some n m (sym (at n one) ∙ at m two)
  where
    at : (k : ℕ) → LeftMain shelf k x → finmap.get shelf.main x ≡ Some k
    at k left =
        order.main.listed k x left.0 (seen_stored Main shelf.store.clusters k (record { cluster = left.0; tag = MainOnly }) left.1 refl) left.2

module _ (shelf : Shelf) (outs : List ℕ) (i : ℕ) (low : i < length outs) where
  abbrev next : ℕ
  next = slice_index_or outs i 0

  more : take (i + 1) outs ≡ take i outs ++ next ∷ []
  more = take_more outs i 0 low

  of_next : (x : ℕ) → LeftOf shelf (take (i + 1) outs) x ↔ (LeftOf shelf (take i outs) x ⊎ LeftMain shelf next x)
  of_next x = (
    λ left. elim (Contains-push_cases (take i outs) next left.0 (subst (λ (ns : List ℕ). Contains ns left.0) more left.1)) [
      | inl before ↦ inl (left.0, before, left.2)
      | inr same ↦ inr (subst (λ n. LeftMain shelf n x) (sym same) left.2)
    ],
    λ either. elim either [
      | inl before ↦
          (before.0, subst (λ (ns : List ℕ). Contains ns before.0) (sym more) (Contains-append_left (take i outs) (next ∷ []) before.0 before.1), before.2)
      | inr here ↦ (next, subst (λ (ns : List ℕ). Contains ns next) (sym more) (Contains-push (take i outs) next), here)
    ],
  )

  pub touches_more : (old mid new : Ringed) → Touches (LeftOf shelf (take i outs)) old mid → Touches (LeftMain shelf next) mid new
      → Touches (LeftOf shelf (take (i + 1) outs)) old new
  touches_more old mid new so one = record {
    names = one.names ∙ so.names;
    main = λ x y. (λ share. (so.main x y).0 ((one.main x y).0 share), λ share. (one.main x y).1 ((so.main x y).1 share));
    touched = λ x. (
      λ marked. elim ((one.touched x).0 marked) [
        | inl then ↦ elim ((so.touched x).0 then) [ inl was ↦ inl was | inr before ↦ inr ((of_next x).1 (inl before)) ]
        | inr here ↦ inr ((of_next x).1 (inr here))
      ],
      λ either. (one.touched x).1 (elim either [
        | inl was ↦ inl ((so.touched x).1 (inl was))
        | inr left ↦ elim ((of_next x).0 left) [ inl before ↦ inl ((so.touched x).1 (inr before)) | inr here ↦ inr here ]
      ]),
    );
    spare = one.spare ∙ so.spare;
    issued = one.issued ∙ so.issued;
  }

  -- the names of the next number weren't touched with those before
  pub next_untouched : (w : ℕ) → IsInOrder w shelf → AreDistinct outs
      → (old mid : Ringed) → ((n x : ℕ) → Contains outs n → LeftMain shelf n x → IsNamed old.book x × (IsMarked old x → ⊥))
      → Touches (LeftOf shelf (take i outs)) old mid
      → (x : ℕ) → LeftMain shelf next x → IsNamed mid.book x × (IsMarked mid x → ⊥)
  next_untouched w order once old mid untouched so x left =
      let here : Contains outs next = Contains-get_or outs i 0 low in
      let was = untouched next x here left in (
        (same_named old mid so.names x).1 was.0,
        λ marked. elim ((so.touched x).0 marked) [
          | inl marked_then ↦ was.1 marked_then
          | inr before ↦
              repeated outs i next 0 low refl
              (subst (Contains (take i outs)) (left_one w shelf order before.0 next x before.2 left) before.1) once
        ],
      )
