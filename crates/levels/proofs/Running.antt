-- The next run of names of one cluster, as a loop goes over them by rising number.
use Rattle.std.proofs.Common.{◌≡◌, ◌≢◌, ℕ, ◌+◌, ◌*◌, ◌<◌, ◌≤◌, List, ◌++◌, length, get_or, take, drop, map, All, Contains, Option, Some, sym, ap, ◌∙◌, subst, arith}
use Rattle.std.specs.Prelude.{slice_index_or}
use Rattle.std.specs.List.{AllPairs}
use Rattle.std.proofs.lemmas.List.{length-take-le, take-append-drop}
use Rattle.std.proofs.lemmas.List.Elements.{All-contains, Contains-append_left, Contains-append_right}
use Rattle.graphs.specs.declared.names.Level.TheVariants.{Top}
use Rattle.cluster.specs.Changes.{AreComponents, IsSplit}
use Rattle.cluster.specs.Clusters.{Cluster}
use Rattle.record.specs.Records.{IsFitted}
use Rattle.record.specs.Steps.{most_steps_fit_of}
use Rattle.levels.specs.Lefts.{AreListed, DropsWithin, IsRun, Takes}
use Rattle.levels.specs.Shelves.{IsInOrder, Shelf, seen_at, view_of}
use Rattle.levels.specs.Views.{graph_of}
use Rattle.levels.proofs.Partway.{IsPartway, later_away, one_more, pairs_back, run_cluster, steps_then}

module _ (w : ℕ) (shelf : Shelf) (order : IsInOrder w shelf) (ids : List ℕ) (listed : List (ℕ × ℕ)) (are : AreListed shelf ids listed) (outs : List ℕ)
    (rest : List Cluster) (last : Option Cluster) (coming : List (ℕ × ℕ)) (before mid : ℕ)
    (partway : IsPartway w shelf listed coming outs rest last before mid) (n : ℕ) (low : n ≤ length coming) (some : 1 ≤ n)
    (same : All (λ e. e.0 ≡ (slice_index_or coming 0 (0, 0)).0) (take n coming))
    (other : n < length coming → (slice_index_or coming n (0, 0)).0 ≢ (slice_index_or coming 0 (0, 0)).0)
    (number : ℕ) (number_is : number ≡ (get_or coming 0 (0, 0)).0) (run later : List (ℕ × ℕ)) (front : run ≡ take n coming) (back : later ≡ drop n coming) where
  cut : coming ≡ run ++ later
  cut = sym (take-append-drop n coming) ∙ (λ i. sym front i ++ sym back i)

  in_run : (e : ℕ × ℕ) → Contains run e → Contains listed e
  in_run e here =
      subst (λ (es : List (ℕ × ℕ)). Contains es e) (sym partway.split)
      (Contains-append_right partway.done coming e (subst (λ (es : List (ℕ × ℕ)). Contains es e) (sym cut) (Contains-append_left run later e here)))

  numbered : (e : ℕ × ℕ) → Contains run e → e.0 ≡ number
  numbered e here =
      All-contains (λ (d : ℕ × ℕ). d.0 ≡ (get_or coming 0 (0, 0)).0) (take n coming) e same (subst (λ (es : List (ℕ × ℕ)). Contains es e) front here)
      ∙ sym number_is

  pub next_run : IsRun shelf number run
  next_run = record {
    some = λ none. absurd (
        let count : length (take n coming) ≡ n = length-take-le n coming low in
        let zero : length (take n coming) ≡ 0 = ap length (sym front ∙ none) in
        omega (arith, count, zero, some)
        );
    there = λ e here. (numbered e here, are.numbered.there e (in_run e here) ∙ ap Some (numbered e here));
  }

  away : (e : ℕ × ℕ) → Contains later e → e.0 ≢ number
  away e here is =
      later_away coming n low some
      (pairs_back (λ d e. d.0 ≤ e.0) partway.done coming
      (subst (λ (es : List (ℕ × ℕ)). AllPairs (λ d e. d.0 ≤ e.0) es) partway.split are.rising))
      other e (subst (λ (es : List (ℕ × ℕ)). Contains es e) back here) (is ∙ number_is)

  partway_cut : IsPartway w shelf listed (run ++ later) outs rest last before mid
  partway_cut = subst (λ (es : List (ℕ × ℕ)). IsPartway w shelf listed es outs rest last before mid) cut partway

  module _ (after : ℕ) (grew : mid ≤ after) (few : (c : Cluster) (lists : List (List ℕ)) → seen_at Top shelf.store.clusters number ≡ Some c
      → AreComponents c.graph (map (λ e. e.1) run) lists → after ≤ mid + most_steps_fit_of shelf.limits c.graph lists) where
    -- where memory runs out
    pub next_steps : DropsWithin shelf.limits ids (graph_of (view_of Top shelf)) before after
    next_steps =
        let (c, at) = run_cluster w shelf order number run next_run in
        steps_then w shelf order ids listed are outs rest last run later before mid after partway_cut number next_run away c at grew
        (λ lists are_lists. few c lists at are_lists)

    pub next_partway : (outs' : List ℕ) (rest' : List Cluster) (last' : Option Cluster)
        → ((c : Cluster) × (pieces : List Cluster) × (seen_at Top shelf.store.clusters number ≡ Some c) × IsSplit c.graph (map (λ e. e.1) run) pieces
        × All (IsFitted (64 * w) shelf.limits) pieces × Takes number pieces outs rest last outs' rest' last')
        → IsPartway w shelf listed later outs' rest' last' before after
    next_partway outs' rest' last' (c, pieces, at, split, whole, takes) =
        one_more w shelf order ids listed are outs rest last run later before mid after partway_cut number next_run away c at pieces split whole
        outs' rest' last' takes grew (λ lists are_lists. few c lists at are_lists)
