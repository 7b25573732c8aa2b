-- The steps of a new fee, by the numbers that the levels have for the name.
use Rattle.std.proofs.Common.{◌≡◌, ℕ, ◌*◌, ◌+◌, ◌≤◌, List, Option, Some, None, is_some, refl, sym, ap, ◌∙◌, subst, subst₂, arith}
use Rattle.std.specs.Prelude.{MatchOption}
use Rattle.std.proofs.lemmas.Option.{same_Some}
use Rattle.std.specs.FinMap as finmap
use Rattle.graphs.specs.declared.names.Level.{Level}
use Rattle.graphs.specs.declared.names.Level.TheVariants.{Main, Top}
use Rattle.graphs.specs.Closures.{AreLinked}
use Rattle.graphs.specs.Graphs.{Lists}
use Rattle.cluster.specs.Clusters.{Cluster}
use Rattle.cluster.specs.Steps.{GrowsWithin}
use Rattle.record.specs.Steps.{most_steps_again, most_steps_fit}
use Rattle.levels.specs.Levels.{steps_where}
use Rattle.levels.specs.Moves.{AreNumbersOf, GrowsForBoth}
use Rattle.levels.specs.Shelves.{Shelf, IsInOrder, numbers_at, stored_at, view_of}
use Rattle.levels.specs.Views.{graph_of}
use Rattle.levels.proofs.Finds.{indexed_at}
use Rattle.levels.proofs.Seen.{seen_is_stored}
use Rattle.levels.proofs.Fitting.{again_fits}
use Rattle.levels.proofs.Sizes.{linked_count, linked_size}
use Rattle.levels.proofs.Under.{its_cluster}

-- the most steps for a level in which these are linked to the name, and none where the level hasn't the name
abbrev most_in : ℕ → Shelf → Level → List ℕ → ℕ
most_in id shelf level ids = steps_where (is_some (finmap.get (numbers_at level shelf) id)) shelf.limits (graph_of (view_of level shelf)) ids

-- what the steps are counted by
abbrev pub IsCounted : ℕ → Shelf → ℕ → ℕ → Type 0
IsCounted id shelf before after =
    (mains tops : List ℕ) → Lists (AreLinked (graph_of (view_of Main shelf)) id) mains → Lists (AreLinked (graph_of (view_of Top shelf)) id) tops
    → after ≤ before + most_in id shelf Main mains + most_in id shelf Top tops

module _ (w : ℕ) (shelf : Shelf) (order : IsInOrder w shelf) (id : ℕ) where
  -- the cluster of a number, and that the names that the level links to the name are as many as it has
  record Counts (level : Level) (number : ℕ) (ids : List ℕ) : Type 0 where
    pub cluster : Cluster
    pub at : stored_at shelf.store.clusters number ≡ Some cluster
    pub same : most_steps_again cluster ≡ most_in id shelf level ids
    pub all : most_steps_again cluster ≡ most_steps_fit shelf.limits (graph_of (view_of level shelf)) ids

  counts : (level : Level) (number : ℕ) (ids : List ℕ) → finmap.get (numbers_at level shelf) id ≡ Some number
      → Lists (AreLinked (graph_of (view_of level shelf)) id) ids → Counts level number ids
  counts level number ids is lists =
      let indexed = indexed_at w shelf order level in
      let s = indexed.stands id number is in
      let at = seen_is_stored level shelf.store.clusters number s.cluster s.there in
      let fitted = order.fitted number s.cluster at in
      let g = graph_of (view_of level shelf) in
      let of = its_cluster w shelf order level id number is s.cluster s.there in
      let all = again_fits (64 * w) shelf.limits g s.cluster ids fitted (linked_count g id s.cluster ids of fitted.connected.once lists)
      (linked_size g id s.cluster ids of fitted.connected.once lists) in
      record {
        cluster = s.cluster;
        at = at;
        same = all ∙ ap (λ b. steps_where b shelf.limits g ids) (sym (ap is_some is));
        all = all;
      }

  module _ (first : ℕ) (second : Option ℕ) (are : AreNumbersOf id first second shelf) (before after : ℕ)
      (grows : GrowsForBoth first second shelf before after) where
    one_grows : second ≡ None → (c : Cluster) → stored_at shelf.store.clusters first ≡ Some c → GrowsWithin (most_steps_again c) before after
    one_grows none c at =
        subst (λ o. MatchOption o (GrowsWithin (most_steps_again c) before after)
        (λ number. (d : Cluster) → stored_at shelf.store.clusters number ≡ Some d
        → GrowsWithin (most_steps_again c + most_steps_again d) before after)) none (grows c at)

    two_grow : (number : ℕ) → second ≡ Some number → (c d : Cluster) → stored_at shelf.store.clusters first ≡ Some c
        → stored_at shelf.store.clusters number ≡ Some d → GrowsWithin (most_steps_again c + most_steps_again d) before after
    two_grow number some c d at there =
        subst (λ o. MatchOption o (GrowsWithin (most_steps_again c) before after)
        (λ n. (e : Cluster) → stored_at shelf.store.clusters n ≡ Some e
        → GrowsWithin (most_steps_again c + most_steps_again e) before after)) some (grows c at) d there

    pub steps_counted : IsCounted id shelf before after
    steps_counted mains tops in_main in_top = from second refl
      where
        one : second ≡ None → (l : Level) → finmap.get (numbers_at l shelf) id ≡ Some first
            → after ≤ before + most_in id shelf Main mains + most_in id shelf Top tops
        one none Main is =
            let k = counts Main first mains is in_main in
            let few : after ≤ before + most_in id shelf Main mains = subst (λ n. after ≤ before + n) k.same (one_grows none k.cluster k.at).few in
            omega (arith, few)
        one none Top is =
            let k = counts Top first tops is in_top in
            let few : after ≤ before + most_in id shelf Top tops = subst (λ n. after ≤ before + n) k.same (one_grows none k.cluster k.at).few in
            omega (arith, few)

        from : (o : Option ℕ) → second ≡ o → after ≤ before + most_in id shelf Main mains + most_in id shelf Top tops
        from None none = one none are.level are.first_is
        from (Some number) some =
            let two = are.two number some in
            let k = counts Main first mains two.0 in_main in
            let l = counts Top number tops two.1 in_top in
            let few : after ≤ before + (most_in id shelf Main mains + most_in id shelf Top tops) =
            subst₂ (λ m n. after ≤ before + (m + n)) k.same l.same (two_grow number some k.cluster l.cluster k.at l.at).few in
            omega (arith, few)

    pub grows_more : before ≤ after
    grows_more = from second refl
      where
        in_one : (c : Cluster) × (stored_at shelf.store.clusters first ≡ Some c)
        in_one =
            let s = (indexed_at w shelf order are.level).stands id first are.first_is in
            (s.cluster, seen_is_stored are.level shelf.store.clusters first s.cluster s.there)

        from : (o : Option ℕ) → second ≡ o → before ≤ after
        from None none = (one_grows none in_one.0 in_one.1).grew
        from (Some number) some =
            let s = order.top.stands id number (are.two number some).1 in
            (two_grow number some in_one.0 s.cluster in_one.1 (seen_is_stored Top shelf.store.clusters number s.cluster s.there)).grew

    -- where both levels have one number, one order was made
    pub steps_shared : finmap.get (numbers_at Main shelf) id ≡ finmap.get (numbers_at Top shelf) id → (ids : List ℕ)
        → Lists (AreLinked (graph_of (view_of Main shelf)) id) ids → GrowsWithin (most_steps_fit shelf.limits (graph_of (view_of Main shelf)) ids) before after
    steps_shared same ids lists = from second refl
      where
        in_main : (l : Level) → finmap.get (numbers_at l shelf) id ≡ Some first → finmap.get (numbers_at Main shelf) id ≡ Some first
        in_main Main is = is
        in_main Top is = same ∙ is

        from : (o : Option ℕ) → second ≡ o → GrowsWithin (most_steps_fit shelf.limits (graph_of (view_of Main shelf)) ids) before after
        from None none =
            let k = counts Main first ids (in_main are.level are.first_is) lists in
            subst (λ n. GrowsWithin n before after) k.all (one_grows none k.cluster k.at)
        from (Some number) some =
            let two = are.two number some in absurd (two.2 (same_Some first number (sym two.0 ∙ same ∙ two.1)))

-- no order was made
pub grows_none : (first : ℕ) (second : Option ℕ) (shelf : Shelf) (before after : ℕ) → after ≡ before → GrowsForBoth first second shelf before after
grows_none first second shelf before after same c at = from second
  where
    from : (o : Option ℕ) → MatchOption o (GrowsWithin (most_steps_again c) before after)
        (λ number. (d : Cluster) → stored_at shelf.store.clusters number ≡ Some d
        → GrowsWithin (most_steps_again c + most_steps_again d) before after)
    from None = record { grew = omega (arith, same); few = omega (arith, same) }
    from (Some number) = λ d there. record { grew = omega (arith, same); few = omega (arith, same) }

-- one of two was made
pub grows_first : (first : ℕ) (shelf : Shelf) (before after : ℕ)
    → ((c : Cluster) → stored_at shelf.store.clusters first ≡ Some c → GrowsWithin (most_steps_again c) before after)
    → (second : Option ℕ) → GrowsForBoth first second shelf before after
grows_first first shelf before after one None c at = one c at
grows_first first shelf before after one (Some n) c at = λ d there.
    let k = one c at in let grew = k.grew in let few = k.few in record { grew = grew; few = omega (arith, few) }

-- both were made
pub grows_both : (first number : ℕ) (shelf : Shelf) (before mid after : ℕ)
    → ((c : Cluster) → stored_at shelf.store.clusters first ≡ Some c → GrowsWithin (most_steps_again c) before mid)
    → ((c : Cluster) → stored_at shelf.store.clusters number ≡ Some c → GrowsWithin (most_steps_again c) mid after)
    → GrowsForBoth first (Some number) shelf before after
grows_both first number shelf before mid after one two c at d there =
    let k = one c at in let l = two d there in
    let low : before ≤ mid = k.grew in let high : mid ≤ after = l.grew in
    let first_few : mid ≤ before + most_steps_again c = k.few in
    let second_few : after ≤ mid + most_steps_again d = l.few in
    record { grew = omega (arith, low, high); few = omega (arith, first_few, second_few) }
