-- A level has no more names than the rings, which have those of both levels, and a cluster no more than its level.
use Rattle.std.proofs.Common.{◌≡◌, ℕ, ◌+◌, ◌≤◌, ◌++◌, length, Contains, Some, true, is_some, IsSome, inl, inr, ap, arith, length-append}
use Rattle.std.proofs.lemmas.List.Elements.{Contains-append_cases}
use Rattle.std.specs.Ordering.{nat_cmp}
use Rattle.std.specs.FinMap as finmap
use Rattle.std.specs.FinSet as set
use Rattle.fee_rate.specs.declared.limits.TheConstants.{MAX_TOTAL}
use Rattle.lists.proofs.Distinct.{distinct_joined}
use Rattle.lists.proofs.Keys.{len-names, names-within, set_has}
use Rattle.graphs.specs.declared.names.Level.{Level}
use Rattle.graphs.specs.declared.names.Level.TheVariants.{Main, Top}
use Rattle.cluster.specs.Clusters.{Cluster, AreApart}
use Rattle.levels.specs.Kept.{SuitsShelf}
use Rattle.levels.specs.Rings.{Ringed}
use Rattle.levels.specs.Shelves.{HaveFew, Shelf, IsInOrder, numbers_at, seen_at}
use Rattle.levels.specs.Views.{Numbers}
use Rattle.levels.proofs.Counts.{lists_once, map_listed}

-- a map has no more names than a set that has them all
no_more : (m : Numbers) (names : set.FinSet nat_cmp) → ((id : ℕ) → IsSome (finmap.get m id) → set.contains names id ≡ true) → finmap.len m ≤ set.len names
no_more m names all =
    let ids = map_listed m in
    let once = lists_once ids.0 ids.1 in
    let count = len-names ids.0 m once ids.1.exact in
    let few = set_has names ids.0 once (λ id here. all id ((ids.1.exact id).0 here)) in
    omega (arith, count, few)

pub few_at : (w : ℕ) (shelf : Shelf) (rings : Ringed) → IsInOrder w shelf → SuitsShelf rings shelf → (level : Level)
    → finmap.len (numbers_at level shelf) ≤ set.len rings.book.names
few_at w shelf rings order suits Main = no_more shelf.main rings.book.names (λ id some. (suits.names id).1 (inl some))
few_at w shelf rings order suits Top = no_more (numbers_at Top shelf) rings.book.names (λ id some. (suits.names id).1 (inr some))

-- the names of clusters of the top level are of it
module _ (w : ℕ) (shelf : Shelf) (order : IsInOrder w shelf) (few : HaveFew shelf) where
  in_top : (number : ℕ) (c : Cluster) → seen_at Top shelf.store.clusters number ≡ Some c → (id : ℕ) → Contains c.names id
      → IsSome (finmap.get (numbers_at Top shelf) id)
  in_top number c at id here = ap is_some (order.top.listed number id c at here)

  pub cluster_few : (number : ℕ) (c : Cluster) → seen_at Top shelf.store.clusters number ≡ Some c → length c.names ≤ MAX_TOTAL
  cluster_few number c at =
      let within = names-within c.names (numbers_at Top shelf) (order.top.whole number c at).connected.once (in_top number c at) in
      let most = few Top in
      omega (arith, within, most)

  pub both_few : (n m : ℕ) (a b : Cluster) → seen_at Top shelf.store.clusters n ≡ Some a → seen_at Top shelf.store.clusters m ≡ Some b → AreApart a b
      → length a.names + length b.names ≤ MAX_TOTAL
  both_few n m a b one two apart =
      let once = distinct_joined a.names b.names (order.top.whole n a one).connected.once (order.top.whole m b two).connected.once apart in
      let within = names-within (a.names ++ b.names) (numbers_at Top shelf) once (λ id here. elim (Contains-append_cases a.names b.names id here) [
        | inl first ↦ in_top n a one id first
        | inr second ↦ in_top m b two id second
      ]) in
      let most = few Top in
      omega (arith, within, most, length-append a.names b.names)
