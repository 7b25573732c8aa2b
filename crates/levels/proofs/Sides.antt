-- Two names of the top level, the one of which becomes a parent of the other, and their clusters.
use Rattle.std.proofs.Common.{◌≡◌, ◌≢◌, ℕ, ◌+◌, ◌*◌, ◌≤◌, length, List, Some, IsSome, inl, inr, sym, subst, subst₂, arith}
use Rattle.std.specs.FinMap as finmap
use Rattle.graphs.specs.declared.names.Level.TheVariants.{Top}
use Rattle.graphs.specs.Closures.{Closure}
use Rattle.graphs.specs.Graphs.{Lists}
use Rattle.cluster.specs.Clusters.{Cluster, AreApart}
use Rattle.cluster.specs.Changes.{AreAcross}
use Rattle.cluster.specs.Steps.{GrowsWithin}
use Rattle.fee_rate.specs.declared.limits.TheConstants.{MAX_TOTAL}
use Rattle.record.specs.Steps.{most_steps_again, most_steps_fit, most_steps_within, total_size}
use Rattle.levels.specs.Shelves.{HaveFew, Shelf, IsInOrder, numbers_at, seen_at, stored_at, view_of}
use Rattle.levels.specs.Views.{graph_of}
use Rattle.levels.specs.Links.{IsLink}
use Rattle.levels.specs.declared.relation.Link.TheVariants.{Within, Between}
use Rattle.levels.proofs.Graphs.{one_number}
use Rattle.levels.proofs.Pairs.{IsLinkedToEither, AreTogether, AreBetween}
use Rattle.levels.proofs.Fewer.{both_few}
use Rattle.levels.proofs.Fitting.{again_fits}
use Rattle.levels.proofs.Seen.{seen_is_stored}
use Rattle.levels.proofs.Sizes.{either_count, either_size, both_count, both_size}
use Rattle.levels.proofs.Under.{live, held, is_stored, its_cluster, seen_there}

module _ (w : ℕ) (shelf : Shelf) (order : IsInOrder w shelf) (p q : ℕ) where
  abbrev graph : Closure
  graph = graph_of (view_of Top shelf)

  abbrev HasNumber : ℕ → ℕ → Type 0
  HasNumber id number = finmap.get (numbers_at Top shelf) id ≡ Some number

  abbrev StandsUnder : ℕ → Cluster → Type 0
  StandsUnder number c = seen_at Top shelf.store.clusters number ≡ Some c

  -- ---- names of one cluster

  pub together : (number : ℕ) (c : Cluster) → HasNumber p number → HasNumber q number → StandsUnder number c → AreTogether graph p q c
  together number c p_is q_is at = record {
    p_live = live Top shelf p number p_is;
    q_live = live Top shelf q number q_is;
    cluster = its_cluster w shelf order Top p number p_is c at;
    q_in = held w shelf order Top q number q_is c at;
  }

  -- the steps of an order of the cluster of two names, told by the graph
  pub count_within : (number : ℕ) (c : Cluster) (ids : List ℕ) {before after : ℕ} → IsLink shelf p q (Within number) → StandsUnder number c
      → Lists (IsLinkedToEither graph p q) ids → GrowsWithin (most_steps_again c) before after
      → GrowsWithin (most_steps_fit shelf.limits graph ids) before after
  count_within number c ids {before} {after} link at lists grows =
      let are = together number c link.0 link.1 at in
      let fitted = order.fitted number c (seen_is_stored Top shelf.store.clusters number c at) in
      subst (λ n. GrowsWithin n before after)
      (again_fits (64 * w) shelf.limits graph c ids fitted (either_count graph p q c ids are fitted.connected.once lists)
      (either_size graph p q c ids are fitted.connected.once lists)) grows

  -- ---- names of two clusters

  pub between : (above below : ℕ) (a b : Cluster) → HasNumber p above → HasNumber q below → above ≢ below
      → StandsUnder above a → StandsUnder below b → AreBetween graph p q a b
  between above below a b p_is q_is apart one two = record {
    p_live = live Top shelf p above p_is;
    q_live = live Top shelf q below q_is;
    first = its_cluster w shelf order Top p above p_is a one;
    second = its_cluster w shelf order Top q below q_is b two;
    first_once = (order.top.whole above a one).connected.once;
    second_once = (order.top.whole below b two).connected.once;
    apart = λ id here there. apart (one_number (64 * w) (view_of Top shelf) order.top above below id a b one two here there);
  }

  abbrev IsKept : ℕ → Cluster → Type 0
  IsKept number c = stored_at shelf.store.clusters number ≡ Some c

  -- what is known of the two clusters, in whichever order they stand
  pub record Sides (first second : ℕ) (one other : Cluster) : Type 0 where
    pub apart : first ≢ second
    pub one_at : StandsUnder first one
    pub other_at : StandsUnder second other
    pub across : AreAcross one.names other.names p q
    pub few : length one.names + length other.names ≤ MAX_TOTAL
    pub alone : AreApart one other
    pub count : (ids : List ℕ) → Lists (IsLinkedToEither graph p q) ids → length ids ≡ length one.names + length other.names
    pub size : (ids : List ℕ) → Lists (IsLinkedToEither graph p q) ids
        → total_size graph ids ≡ total_size one.graph one.names + total_size other.graph other.names

  sides_in_order : (above below : ℕ) (a b : Cluster) → HasNumber p above → HasNumber q below → above ≢ below → HaveFew shelf
      → IsKept above a → IsKept below b → Sides above below a b
  sides_in_order above below a b p_is q_is apart few one two =
      let one_at = seen_there w shelf order Top p above p_is a one in
      let other_at = seen_there w shelf order Top q below q_is b two in
      let between = between above below a b p_is q_is apart one_at other_at in
      record {
        apart = apart;
        one_at = one_at;
        other_at = other_at;
        across = inl (between.first.here, between.second.here);
        few = both_few w shelf order few above below a b one_at other_at between.apart;
        alone = between.apart;
        count = λ ids lists. both_count graph p q a b ids between lists;
        size = λ ids lists. both_size graph p q a b ids between lists;
      }

  turned_round : (above below : ℕ) (a b : Cluster) → Sides above below a b → Sides below above b a
  turned_round above below a b is =
      let few = is.few in
      record {
        apart = λ same. is.apart (sym same);
        one_at = is.other_at;
        other_at = is.one_at;
        across = elim is.across [ inl across ↦ inr across | inr across ↦ inl across ];
        few = omega (arith, few);
        alone = λ id here there. is.alone id there here;
        count = λ ids lists. let sum = is.count ids lists in omega (arith, sum);
        size = λ ids lists. let sum = is.size ids lists in omega (arith, sum);
      }

  pub sides : (first second : ℕ) (one other : Cluster) → IsLink shelf p q (Between first second) → HaveFew shelf → IsKept first one
      → IsKept second other → Sides first second one other
  sides first second one other link few here there = elim link.0 [
    | inl both ↦ sides_in_order first second one other both.0 both.1 link.1 few here there
    | inr both ↦ turned_round second first other one (sides_in_order second first other one both.0 both.1 (λ same. link.1 (sym same)) few there here)
  ]

  -- both numbers have clusters
  pub both_there : (first second : ℕ) → IsLink shelf p q (Between first second)
      → IsSome (stored_at shelf.store.clusters first) × IsSome (stored_at shelf.store.clusters second)
  both_there first second link = elim link.0 [
    | inl both ↦ (is_stored w shelf order Top p first both.0, is_stored w shelf order Top q second both.1)
    | inr both ↦ (is_stored w shelf order Top q first both.1, is_stored w shelf order Top p second both.0)
  ]

  -- the steps of an order of both
  pub count_between : (first second : ℕ) (one other : Cluster) (ids : List ℕ) {before after : ℕ} → Sides first second one other
      → Lists (IsLinkedToEither graph p q) ids
      → GrowsWithin (most_steps_within shelf.limits (length one.names + length other.names)
      (total_size one.graph one.names + total_size other.graph other.names)) before after
      → GrowsWithin (most_steps_fit shelf.limits graph ids) before after
  count_between first second one other ids {before} {after} is lists grows =
      subst₂ (λ m n. GrowsWithin (most_steps_within shelf.limits m n) before after) (sym (is.count ids lists)) (sym (is.size ids lists)) grows
