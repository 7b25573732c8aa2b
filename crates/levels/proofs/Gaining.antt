-- The rings are right again where a name came in, and where room was made.
use Rattle.std.proofs.Common.{◌≡◌, ℕ, ◌*◌, Bool, true, false, List, [], ◌∷◌, Option, Some, None, is_some, IsSome, Contains, inl, inr, refl, sym, ◌∙◌, subst, true≢false, arith}
use Rattle.std.specs.FinMap as finmap
use Rattle.lists.proofs.Cases.{none_of}
use Rattle.lists.proofs.Entries.{Contains-head, none_in_empty}
use Rattle.fee_rate.specs.declared.rates.FeeRate.{FeeRate}
use Rattle.graphs.specs.declared.names.Level.TheVariants.{Main, Top}
use Rattle.cluster.specs.Clusters.{Cluster}
use Rattle.record.specs.Records.{IsRecord}
use Rattle.cluster.specs.Changes.{IsSingle}
use Rattle.name_book.specs.Books.{IsNamed}
use Rattle.name_book.specs.Calls.{Gains, Keeps}
use Rattle.levels.specs.Changes.{AreAt, Covers, PointsOne}
use Rattle.levels.specs.Changes as changes
use Rattle.levels.specs.Kept.{SuitsShelf}
use Rattle.levels.specs.Moves.{AddsTop}
use Rattle.levels.specs.Rings.{Ringed, AreRight}
use Rattle.levels.specs.Shelves.{Shelf, IsInOrder, numbers_at, seen_at, view_of}
use Rattle.levels.specs.Tops.{HasFront, IsMade}
use Rattle.levels.specs.Views.{Numbers}
use Rattle.cluster_store.proofs.Listed.{at_none, only_one}
use Rattle.levels.proofs.Making.{covers_new, named_one, olds_are, one_made, one_named}
use Rattle.levels.proofs.Naming.{right_added_staged}
use Rattle.levels.proofs.Regrouping.{Regroups, right_regrouped}
use Rattle.levels.proofs.Touching.{in_one, right_kept, same_named}

-- ---- room that was made

pub right_reserved : (old new : Ringed) (main top : Numbers) → Keeps old new → AreRight old main top → AreRight new main top
right_reserved old new main top keeps =
    right_kept old new main top (record { names = same_named old new keeps.names; main = keeps.main; touched = keeps.touched })

-- ---- a name that is in neither level

pub no_number : (o : Option ℕ) → (IsSome o → ⊥) → o ≡ None
no_number None lacks = refl
no_number (Some n) lacks = absurd (lacks refl)

pub absent_main : (rings : Ringed) (shelf : Shelf) (id : ℕ) → SuitsShelf rings shelf
    → (IsNamed rings.book id → ⊥) → finmap.get (numbers_at Main shelf) id ≡ None
absent_main rings shelf id right absent = no_number (finmap.get shelf.main id) (λ some. absent ((right.names id).1 (inl some)))

pub absent_top : (rings : Ringed) (shelf : Shelf) (id : ℕ) → SuitsShelf rings shelf → (IsNamed rings.book id → ⊥) → finmap.get (numbers_at Top shelf) id ≡ None
absent_top rings shelf id right absent = no_number (finmap.get (numbers_at Top shelf) id) (λ some. absent ((right.names id).1 (inr some)))

-- ---- what comes in is a cluster of its own

pub comes_new : (w id : ℕ) (c : Cluster) (shelf : Shelf) → IsRecord (64 * w) c → c.names ≡ id ∷ [] → finmap.get (numbers_at Top shelf) id ≡ None
    → (olds : List Cluster) × AreAt (seen_at Top shelf.store.clusters) [] olds × Covers (64 * w) olds (c ∷ []) [] (numbers_at Top shelf)
comes_new w id c shelf whole names absent =
    ([], at_none (seen_at Top shelf.store.clusters), covers_new w id c (numbers_at Top shelf) whole names absent)

pub none_kept : (names : List ℕ) (numbers : Numbers) → HasFront 0 [] names numbers
none_kept names numbers = record { low = omega arith; there = λ number i is low. absurd (omega (arith, low)) }

pub adds_made : (w id : ℕ) (rate : FeeRate) (made : List ℕ) (number : Option ℕ) (c : Cluster) (old new : Shelf) → IsSingle id rate c
    → finmap.get (numbers_at Top old) id ≡ None → IsMade w [] made number [] (Some c) [] old new → AddsTop w id rate old new
adds_made w id rate made number c old new single absent is =
    let one = one_made w [] made number c [] old new is in
    record {
      made = one.0;
      now = c;
      single = single;
      absent = absent;
      rebuilds = olds_are w [] (one.0 ∷ []) (c ∷ []) is.olds [] [] old new (at_none (seen_at Top old.store.clusters)) one.1;
    }

-- ---- where it came in

module _ (w id : ℕ) (rate : FeeRate) (old new : Shelf) (before : IsInOrder w old) (after : IsInOrder w new) (adds : AddsTop w id rate old new) where
  -- the cluster that came in has the name alone
  only : (x : ℕ) → changes.IsNamed (adds.now ∷ []) x → x ≡ id
  only x named = only_one id x (subst (λ xs. Contains xs x) adds.single.names (named_one adds.now x named))

  its_name : (x : ℕ) → x ≡ id → Contains adds.now.names x
  its_name x same = subst (λ xs. Contains xs x) (sym adds.single.names) (subst (Contains (id ∷ [])) (sym same) (Contains-head id []))

  points : PointsOne adds.made (id ∷ []) (numbers_at Top old) (numbers_at Top new)
  points = record {
    pointed = λ q here. adds.rebuilds.top.points.pointed 0 q adds.now refl (its_name q (only_one id q here));
    others = λ q out.
        adds.rebuilds.top.points.others q (λ named. out (subst (Contains (id ∷ [])) (sym (only q named)) (Contains-head id []))) (none_in_empty q);
  }

  -- nothing went out, and the one cluster came in
  regroups : (rings later : Ringed) → Gains false id rings later → Regroups [] (adds.now ∷ []) rings later
  regroups rings later gains = record {
    names = λ x. (
      λ named. elim ((gains.names x).0 named) [ inl was ↦ inl (was, none_out x) | inr same ↦ inr (one_named adds.now x (its_name x same)) ],
      λ either. (gains.names x).1 (elim either [ inl was ↦ inl was.0 | inr named ↦ inr (only x named) ]),
    );
    main = λ x y. (
      λ share. elim ((gains.main x y).0 share) [
        | inl was ↦ inl (was, none_out x, none_out y)
        | inr both ↦ inr (adds.now, Contains-head adds.now [], its_name x both.0, its_name y both.1)
      ],
      λ either. (gains.main x y).1 (elim either [
        | inl was ↦ inl was.0
        | inr once ↦ inr (only x (once.0, once.1, once.2), only y (once.0, once.1, once.3))
      ]),
    );
    touched = λ x marked. elim ((gains.touched x).0 marked) [ inl was ↦ was | inr both ↦ absurd (true≢false (sym both.0)) ];
  }
    where
      none_out : (x : ℕ) → changes.IsNamed [] x → ⊥
      none_out x named = none_in_empty named.0 named.1

  pub right_gained : (rings later : Ringed) → SuitsShelf rings old → finmap.get old.main id ≡ None → (staged : Bool) → staged ≡ is_some new.staging
      → Gains staged id rings later → SuitsShelf later new
  right_gained rings later right lacks true is gains =
      let some : IsSome old.staging = sym adds.rebuilds.staged ∙ sym is in
      subst (λ (m : Numbers). AreRight later m (numbers_at Top new)) (sym (adds.rebuilds.base some))
      (right_added_staged id adds.made old.main (numbers_at Top old) (numbers_at Top new) lacks adds.absent points rings later right gains)
  right_gained rings later right lacks false is gains =
      (in_one later new (none_of new.staging (sym is))).1
      (right_regrouped (64 * w) [] (adds.made ∷ []) [] (adds.now ∷ []) [] (view_of Top old) (view_of Top new) before.top after.top adds.rebuilds.top
      rings ((in_one rings old (none_of old.staging (sym (is ∙ adds.rebuilds.staged)))).0 right) later (regroups rings later gains))
