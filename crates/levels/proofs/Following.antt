-- The rings are right again after a change of the top level of a shelf.
use Rattle.std.proofs.Common.{◌≡◌, ℕ, ◌*◌, List, None, IsSome, inl, inr, ◌↔◌, sym, subst}
use Rattle.graphs.specs.declared.names.Level.TheVariants.{Top}
use Rattle.cluster.specs.Clusters.{Cluster}
use Rattle.name_book.specs.Calls.{Touches}
use Rattle.levels.specs.Changes.{IsNamed as HasName}
use Rattle.levels.specs.Kept.{SuitsShelf}
use Rattle.levels.specs.Rings.{Forgets, Ringed, AreRight, LeftOf}
use Rattle.levels.specs.Shelves.{Shelf, IsInOrder, numbers_at, view_of}
use Rattle.levels.specs.Tops.{TopRebuilds}
use Rattle.levels.specs.Views.{Numbers}
use Rattle.levels.proofs.Leaving.{left_is}
use Rattle.levels.proofs.Regrouping.{Regroups, right_regrouped}
use Rattle.levels.proofs.Righting.{AreLost, Leaves, Marks, right_staged}
use Rattle.levels.proofs.Shelved.{none_of}
use Rattle.levels.proofs.Touching.{in_one, kept_by, none_left_now, right_kept, same_named}

module _ (w : ℕ) (outs made : List ℕ) (olds news : List Cluster) (gone : List ℕ) (old new : Shelf) (order : IsInOrder w old) (now : IsInOrder w new)
    (r : TopRebuilds w outs made olds news gone old new) (before mid : Ringed) (right : SuitsShelf before old)
    (touches : Touches (LeftOf new outs) before mid) where
  -- ---- with a staging

  module _ (some : IsSome old.staging) where
    leaves : (x : ℕ) → LeftOf new outs x ↔ Leaves outs old.main x
    leaves x = (
      λ left. (left.0, left.1, (left_is w outs made olds news gone old new order.main some r left.0 x left.1).0 left.2),
      λ left. (left.0, left.1, (left_is w outs made olds news gone old new order.main some r left.0 x left.1).1 left.2),
    )

    marks : (after : Ringed) → Forgets (AreLost gone old.main) mid after → Marks (Leaves outs old.main) (AreLost gone old.main) before after
    marks after forgets = record {
      names = λ x. (
        λ named. let was = (forgets.names x).0 named in ((same_named before mid touches.names x).0 was.0, was.1),
        λ both. (forgets.names x).1 ((same_named before mid touches.names x).1 both.0, both.1),
      );
      main = λ x y. (
        λ share. let was = (forgets.main x y).0 share in ((touches.main x y).0 was.0, was.1, was.2),
        λ both. (forgets.main x y).1 ((touches.main x y).1 both.0, both.1, both.2),
      );
      touched = λ x. (
        λ marked.
            let was = (forgets.touched x).0 marked in
            (elim ((touches.touched x).0 was.0) [ inl one ↦ inl one | inr left ↦ inr ((leaves x).0 left) ], was.1),
        λ both. (forgets.touched x).1 (
          (touches.touched x).1 (elim both.0 [ inl one ↦ inl one | inr left ↦ inr ((leaves x).1 left) ]),
          both.1,
        ),
      );
    }

    pub right_beside : ((x : ℕ) → HasName news x → HasName olds x) → (after : Ringed) → Forgets (AreLost gone new.main) mid after → SuitsShelf after new
    right_beside known after forgets =
        subst (λ (m : Numbers). AreRight after m (numbers_at Top new)) (sym (r.base some))
        (right_staged w outs made olds news gone old new order.main order.top some r known before after right
        (marks after (subst (λ (m : Numbers). Forgets (AreLost gone m) mid after) (r.base some) forgets)))

  -- ---- without one

  module _ (none : old.staging ≡ None) where
    pub right_still : AreRight mid (numbers_at Top old) (numbers_at Top old)
    right_still =
        right_kept before mid (numbers_at Top old) (numbers_at Top old)
        (kept_by (LeftOf new outs) before mid touches
        (λ x left. none_left_now w outs made olds news gone old new order now r none left.0 x left.2))
        ((in_one before old none).0 right)

    pub right_alone : (after : Ringed) → Regroups olds news mid after → SuitsShelf after new
    right_alone after groups =
        (in_one after new (none_of new.staging old.staging r.staged none)).1
        (right_regrouped (64 * w) outs made olds news gone (view_of Top old) (view_of Top new) order.top now.top r.top mid right_still after groups)
