-- What the changes of a shelf make of clusters.
use Rattle.std.specs.Prelude.{◌≡◌, ◌≢◌, ◌⊎◌, ◌↔◌, ℕ, ℤ, ◌+◌, ◌*◌, MatchOption, true, false, List, [], ◌∷◌, ◌++◌, Contains, Option, None, Some, option_to_list}
use Rattle.std.specs.FinMap as finmap
use Rattle.graphs.specs.declared.names.Level.{Level}
use Rattle.graphs.specs.declared.names.Level.TheVariants.{Main, Top}
use Rattle.fee_rate.specs.declared.rates.FeeRate.{FeeRate}
use Rattle.graphs.specs.Closures.{is_ancestor, rate_of, SetsFee}
use Rattle.cluster.specs.Clusters.{Cluster}
use Rattle.record.specs.Records.{IsFitted}
use Rattle.record.specs.Steps.{most_steps_again}
use Rattle.cluster_store.specs.Stores.{Exchange}
use Rattle.cluster.specs.Changes.{IsAncestorIn, IsSingle}
use Rattle.cluster.specs.Steps.{GrowsWithin}
use Rattle.levels.specs.Changes.{IsNamed, Rebuilds}
use Rattle.levels.specs.Shelves.{Shelf, numbers_at, seen_at, stored_at, view_of}
use Rattle.levels.specs.Tops.{Comes, IsMade, TopRebuilds}
use Rattle.levels.specs.Views.{graph_of}

-- a name that clusters have before and after has the same rate in both
abbrev pub KeepRates : List Cluster → List Cluster → Type 0
KeepRates olds news =
    (c : Cluster) → Contains news c → (id : ℕ) → Contains c.names id → (b : Cluster) → Contains olds b → Contains b.names id
    → rate_of c.graph id ≡ rate_of b.graph id

-- The clusters that come in have the names of those that go out, with one more pair between two of these; and each that goes out has one of the
-- two.
pub record AddsPairIn (olds news : List Cluster) (p q : ℕ) : Type 0 where
  pub parent : IsNamed olds p
  pub child : IsNamed olds q
  pub each : (c : Cluster) → Contains olds c → Contains c.names p ⊎ Contains c.names q
  pub names : (id : ℕ) → IsNamed news id ↔ IsNamed olds id
  pub rates : KeepRates olds news
  pub ancestors : (a d : ℕ) → IsAncestorIn news a d ↔ (IsAncestorIn olds a d ⊎ (IsAncestorIn olds a p × IsAncestorIn olds q d))

-- The clusters that come in have the names of those that go out but for some, and the relation among them; and each that goes out loses a name.
pub record DropsIn (olds news : List Cluster) (gone : List ℕ) : Type 0 where
  pub each : (c : Cluster) → Contains olds c → (id : ℕ) × Contains gone id × Contains c.names id
  pub names : (id : ℕ) → IsNamed news id ↔ (IsNamed olds id × (Contains gone id → ⊥))
  pub rates : KeepRates olds news
  pub ancestors : (a d : ℕ) → IsAncestorIn news a d ↔ ((Contains gone a → ⊥) × (Contains gone d → ⊥) × IsAncestorIn olds a d)

-- A name came in, alone in a cluster, which was in neither level.
pub record AddsTop (w id : ℕ) (rate : FeeRate) (old new : Shelf) : Type 0 where
  pub made : ℕ
  pub now : Cluster
  pub single : IsSingle id rate now
  pub absent : finmap.get (numbers_at Top old) id ≡ None
  pub rebuilds : TopRebuilds w [] (made ∷ []) [] (now ∷ []) [] old new

-- A name of the top level became a parent of another: the clusters of these numbers went out, and one came in.
pub record PairsTop (w : ℕ) (outs : List ℕ) (parent child : ℕ) (old new : Shelf) : Type 0 where
  pub made : ℕ
  pub olds : List Cluster
  pub now : Cluster
  pub rebuilds : TopRebuilds w outs (made ∷ []) olds (now ∷ []) [] old new
  pub pair : AddsPairIn olds (now ∷ []) parent child

-- the same, or that it was an ancestor already
abbrev pub Connects : ℕ → ℕ → ℕ → Shelf → Shelf → Type 0
Connects w parent child old new =
    (is_ancestor (graph_of (view_of Top old)) parent child ≡ true × (new ≡ old))
    ⊎ ((is_ancestor (graph_of (view_of Top old)) parent child ≡ false) × ((outs : List ℕ) × PairsTop w outs parent child old new))

-- What may come in in the place of the clusters of some numbers, with one more pair.
pub record PairsIn (w : ℕ) (outs : List ℕ) (parent child : ℕ) (rest : List Cluster) (last : Option Cluster) (kept : ℕ) (shelf : Shelf) : Type 0 where
  pub now : Cluster
  pub none : rest ≡ []
  pub one : last ≡ Some now
  pub comes : Comes w outs rest last kept [] shelf
  pub pair : AddsPairIn comes.olds (now ∷ []) parent child

-- Names left the top level: the clusters of these numbers went out, and what was left of them came in.
pub record DropsTop (w : ℕ) (outs gone : List ℕ) (old new : Shelf) : Type 0 where
  pub made : List ℕ
  pub number : Option ℕ
  pub rest : List Cluster
  pub last : Option Cluster
  pub is : IsMade w outs made number rest last gone old new
  pub drops : DropsIn is.olds (rest ++ option_to_list last) gone

-- In a level that has the name its cluster has another fee for it; of a level that hasn't all that is seen stays.
pub record SetsFeeAt (w id : ℕ) (fee : ℤ) (level : Level) (old new : Shelf) : Type 0 where
  pub here : (number : ℕ) (was : Cluster) → finmap.get (numbers_at level old) id ≡ Some number → seen_at level old.store.clusters number ≡ Some was
      → (now : Cluster) × (now.names ≡ was.names) × SetsFee was.graph now.graph id fee
      × Rebuilds (64 * w) (number ∷ []) (number ∷ []) (was ∷ []) (now ∷ []) [] (view_of level old) (view_of level new)
  pub away : finmap.get (numbers_at level old) id ≡ None → (n : ℕ) → seen_at level new.store.clusters n ≡ seen_at level old.store.clusters n

-- Every level that has a name has one of these numbers for it: the first, or, where main has another than the top level, main's and that one.
pub record AreNumbersOf (id first : ℕ) (second : Option ℕ) (shelf : Shelf) : Type 0 where
  pub level : Level
  pub first_is : finmap.get (numbers_at level shelf) id ≡ Some first
  pub one : second ≡ None → (l : Level) → (finmap.get (numbers_at l shelf) id ≡ None) ⊎ (finmap.get (numbers_at l shelf) id ≡ Some first)
  pub two : (top : ℕ) → second ≡ Some top
      → (finmap.get (numbers_at Main shelf) id ≡ Some first) × (finmap.get (numbers_at Top shelf) id ≡ Some top) × (first ≢ top)

-- The cluster of a number has the name, and the one that is to stand there has another fee for it.
pub record IsPriced (w id : ℕ) (fee : ℤ) (x : Exchange) (shelf : Shelf) : Type 0 where
  pub was : Cluster
  pub at : stored_at shelf.store.clusters x.number ≡ Some was
  pub held : Contains was.names id
  pub fitted : IsFitted (64 * w) shelf.limits x.cluster
  pub names : x.cluster.names ≡ was.names
  pub sets : SetsFee was.graph x.cluster.graph id fee

-- each of them has
abbrev pub ArePriced : ℕ → ℕ → ℤ → List Exchange → Shelf → Type 0
ArePriced w id fee list shelf = (x : Exchange) → Contains list x → IsPriced w id fee x shelf

-- A count grew by at most what the orders of the clusters of a number, or of two, take, where they have one.
abbrev pub GrowsForBoth : ℕ → Option ℕ → Shelf → ℕ → ℕ → Type 0
GrowsForBoth first second shelf before after =
    (c : Cluster) → stored_at shelf.store.clusters first ≡ Some c
    → MatchOption second (GrowsWithin (most_steps_again c) before after)
    (λ number. (d : Cluster) → stored_at shelf.store.clusters number ≡ Some d
    → GrowsWithin (most_steps_again c + most_steps_again d) before after)

-- so it is in both levels, and the names keep their numbers
pub record SetsFees (w id : ℕ) (fee : ℤ) (old new : Shelf) : Type 0 where
  pub main : SetsFeeAt w id fee Main old new
  pub top : SetsFeeAt w id fee Top old new
  pub numbers : new.main ≡ old.main
  pub staging : new.staging ≡ old.staging
  pub limits : new.limits ≡ old.limits
