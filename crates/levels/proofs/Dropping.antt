-- Names leave their clusters: what is left of these may come in, and what is made of it.
use Rattle.std.proofs.Common.{◌≡◌, ℕ, ◌*◌, ◌<◌, ◌≤◌, IsSome, true≢false, List, [], ◌∷◌, ◌++◌, length, Contains, Option, Some, None, inl, inr, refl, sym, ap, ◌∙◌, subst, arith}
use Rattle.std.specs.Prelude.{slice_get, slice_index, option_to_list, IfSome}
use Rattle.std.proofs.lemmas.List.{get_or_default}
use Rattle.std.proofs.lemmas.List.Elements.{Contains-append_right}
use Rattle.std.specs.FinMap as finmap
use Rattle.lists.proofs.Told.{told_number}
use Rattle.graphs.specs.declared.names.Level.TheVariants.{Top}
use Rattle.lists.specs.Distinct.{AreDistinct}
use Rattle.lists.proofs.Entries.{Contains-head}
use Rattle.cluster.specs.Clusters.{Cluster}
use Rattle.record.specs.Records.{IsFitted}
use Rattle.levels.proofs.Ordered.{fitted_record}
use Rattle.levels.specs.Changes.{Covers}
use Rattle.levels.specs.Lefts.{AreLeft}
use Rattle.levels.specs.Moves.{DropsIn, DropsTop}
use Rattle.levels.specs.Shelves.{IsInOrder, Shelf, numbers_at, seen_at}
use Rattle.levels.specs.Tops.{Comes, HasFront, IsMade}
use Rattle.levels.proofs.Ends.{got}
use Rattle.levels.proofs.Pointing.{names_in, one_at, one_list}

module _ (w : ℕ) (gone outs : List ℕ) (rest : List Cluster) (last : Option Cluster) (shelf : Shelf) (order : IsInOrder w shelf)
    (left : AreLeft w gone outs rest last shelf) where
  pub covers_left : Covers (64 * w) left.olds (rest ++ option_to_list last) gone (numbers_at Top shelf)
  covers_left = record {
    whole = λ c here. fitted_record (64 * w) shelf.limits c (left.fitted c here);
    apart = left.apart;
    from = λ id named. inl ((left.drops.names id).0 named).0;
    kept = λ id named. elim (told_number gone id) [
      | inl lost ↦ inr lost
      | inr kept ↦ inl ((left.drops.names id).1 (named, kept))
    ];
    lose = λ id lost. (left.all id lost, λ named. ((left.drops.names id).0 named).1 lost);
  }

  -- the last has names of the first cluster alone, which have its number
  front_of : (c : Cluster) → last ≡ Some c → HasFront (length c.names) outs c.names (numbers_at Top shelf)
  front_of c is = record { low = omega arith; there = λ number i got_first below. there_at number i got_first below }
    where
      there_at : (number i : ℕ) → slice_get outs 0 ≡ Some number → i < length c.names → finmap.get (numbers_at Top shelf) (slice_index c.names i) ≡ Some number
      there_at number i got_first below =
          let first = got outs 0 number got_first in
          let at = one_at (seen_at Top shelf.store.clusters) outs left.olds 0 left.at first.0 in
          let id = slice_index c.names i in
          let here : Contains at.0.names id = left.own c at.0 is at.1 id (i, below, get_or_default c.names i id 0 below) in
          let seen : seen_at Top shelf.store.clusters number ≡ Some at.0 = ap (seen_at Top shelf.store.clusters) (sym (first.1 0)) ∙ at.2 in
          order.top.listed number id at.0 seen here

  pub has_own : (kept : ℕ) → kept ≡ names_in (option_to_list last) → IfSome last (λ c. HasFront kept outs c.names (numbers_at Top shelf))
  has_own kept count = from last refl
    where
      from : (o : Option Cluster) → last ≡ o → IfSome o (λ c. HasFront kept outs c.names (numbers_at Top shelf))
      from None is = tt
      from (Some c) is =
          let all : length c.names ≡ kept = omega (arith, count ∙ ap (λ o. names_in (option_to_list o)) is) in
          subst (λ n. HasFront n outs c.names (numbers_at Top shelf)) all (front_of c is)

  pub drops_top : (made : List ℕ) (number : Option ℕ) (new : Shelf) → IsMade w outs made number rest last gone shelf new → DropsTop w outs gone shelf new
  drops_top made number new is = record {
    made = made;
    number = number;
    rest = rest;
    last = last;
    is = is;
    drops = subst (λ (olds : List Cluster). DropsIn olds (rest ++ option_to_list last) gone)
        (one_list (seen_at Top shelf.store.clusters) outs left.olds is.olds left.at is.rebuilds.top.taken) left.drops;
  }

  some_last : (o : Option Cluster) → ((c : Cluster) → Contains (rest ++ option_to_list o) c → IsFitted (64 * w) shelf.limits c) → IsSome o → 1 ≤ names_in (option_to_list o)
  some_last None whole some = absurd (true≢false (sym some))
  some_last (Some c) whole some =
      let has = (whole c (Contains-append_right rest (c ∷ []) c (Contains-head c []))).connected.some in omega (arith, has)

  -- what is left may come in
  pub comes_left : AreDistinct gone → (kept : ℕ) → kept ≡ names_in (option_to_list last) → Comes w outs rest last kept gone shelf
  comes_left lost kept count = record {
    olds = left.olds;
    once = left.once;
    lost = lost;
    at = left.at;
    covers = covers_left;
    fitted = left.fitted;
    known = λ id named. ((left.drops.names id).0 named).0;
    front = has_own kept count;
    some = λ some. subst (λ n. 1 ≤ n) (sym count) (some_last last left.fitted some);
  }
