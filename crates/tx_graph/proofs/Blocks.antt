-- The numbers of main's parts, the size that none is below, and the steps of a block.
use Rattle.std.proofs.Common.{◌≡◌, ◌≢◌, ℕ, ◌*◌, ◌≤◌, true, List, [], ◌∷◌, length, Contains, refl, sym, subst, arith, get_or}
use Rattle.std.specs.Prelude.{sum_by, unsigned_abs}
use Rattle.std.proofs.lemmas.List.Elements.{Contains-get_or}
use Rattle.std.proofs.lemmas.List.Sums.{sum_by-cons}
use Rattle.arithmetic.proofs.Sums.{total_within}
use Rattle.fee_rate.specs.declared.limits.TheConstants.{MAX_FEE}
use Rattle.fee_rate.specs.Limits.{IsRate}
use Rattle.lists.proofs.Entries.{Contains-head, Contains-later}
use Rattle.lists.proofs.Flats.{flat_has}
use Rattle.fee_rate.specs.declared.rates.Sum.{Sum}
use Rattle.graphs.specs.Certificates.{Part}
use Rattle.graphs.specs.Closures.{is_member, rate_of}
use Rattle.graphs.specs.Rates.{sum_of}
use Rattle.graph_model.specs.declared.names.Refusal.TheVariants.{Memory}
use Rattle.graphs.specs.declared.names.Level.TheVariants.{Main}
use Rattle.graph_model.specs.Answers.{order_of}
use Rattle.graph_model.specs.Blocks.{ShareComponent}
use Rattle.graph_model.specs.Commands.{Block}
use Rattle.graph_model.specs.Replies.{Built, Refused}
use Rattle.graph_model.specs.States.{State}
use Rattle.cluster.specs.Clusters.{sum_at}
use Rattle.cluster_store.specs.Stores.{Shown}
use Rattle.diagram.specs.Parts.{sums_of}
use Rattle.levels.specs.Levels.{HasPick, HavePicks, IsWithin}
use Rattle.levels.specs.Views.{AreOfOneCluster, HaveClusterNumbers}
use Rattle.tx_graph.specs.Dropped.{AreOfClusters, ArePaidBySize, IsBlockOf}
use Rattle.tx_graph.specs.Kept.{Kept, StandsFor, MakesStep}
use Rattle.tx_graph.proofs.Reading.{steps_told}
use Rattle.tx_graph.proofs.Rows.{ordered_row}
use Rattle.tx_graph.proofs.Standing.{connected-linked, steps_without_memory}
use Rattle.tx_graph.proofs.Picked.{pick_is}

-- a sum isn't below its least term
least_in_sum : (f : ℕ → ℕ) (least : ℕ) (ids : List ℕ) → ids ≢ [] → ((id : ℕ) → Contains ids id → least ≤ f id) → least ≤ sum_by f ids
least_in_sum f least [] filled low = absurd (filled refl)
least_in_sum f least (id ∷ ids) filled low =
    let first : least ≤ f id = low id (Contains-head id ids) in
    let whole = sum_by-cons f id ids in
    omega (arith, first, whole)

-- terms of at least 1 have a sum of at least their number
length_in_sum : (f : ℕ → ℕ) (ids : List ℕ) → ((id : ℕ) → Contains ids id → 1 ≤ f id) → length ids ≤ sum_by f ids
length_in_sum f [] some = omega arith
length_in_sum f (id ∷ ids) some =
    let first : 1 ≤ f id = some id (Contains-head id ids) in
    let rest = length_in_sum f ids (λ other here. some other (Contains-later id other ids here)) in
    let whole = sum_by-cons f id ids in
    omega (arith, first, rest, whole)

module _ (kept : Kept) where
  module _ (state : State) (stands : StandsFor kept state) where
    shared : (p q : Part) → AreOfOneCluster kept.levels.main.graph p q → ShareComponent state.plain.main p q
    shared p q (a, b, here, there, linked) = (a, b, here, there, (connected-linked kept.levels.main state.plain.main stands.plain.main a b).1 linked)

    of_one : (p q : Part) → ShareComponent state.plain.main p q → AreOfOneCluster kept.levels.main.graph p q
    of_one p q (a, b, here, there, trail) = (a, b, here, there, (connected-linked kept.levels.main state.plain.main stands.plain.main a b).0 trail)

  -- numbers of clusters are those of components
  pub of_clusters : (parts : List Shown) → HaveClusterNumbers kept.levels.main.graph parts → (state : State) → StandsFor kept state
      → AreOfClusters state.plain.main parts
  of_clusters parts numbers state stands s t first second = (
    λ same. shared state stands s.part t.part ((numbers s t first second).0 same),
    λ share. (numbers s t first second).1 (of_one state stands s.part t.part share),
  )

  -- a part's fee is in range for its size
  pub paid_by_size : HasPick kept.levels.main → (state : State) × StandsFor kept state
      → ((id : ℕ) → is_member kept.levels.main.graph id ≡ true → IsRate (rate_of kept.levels.main.graph id)) → ArePaidBySize kept.levels.main.parts
  paid_by_size pick some rated part here =
      let of = some.1.plain.main in
      let g = kept.levels.main.graph in
      let certificate = (pick.picked some.0.plain.main of.closure).certificate in
      let live : (id : ℕ) → Contains part.ids id → IsRate (rate_of g id) = λ id there. rated id ((of.closure.names id).0
      ((certificate.order.topological.names id).0 (flat_has (λ (p : Part). p.ids) kept.levels.main.parts part id here there))) in
      let most = total_within (λ id. (sum_at g id).fee) MAX_FEE part.ids (λ k d inside. (live (get_or part.ids k d) (Contains-get_or part.ids k d inside)).fee) in
      let few = length_in_sum (λ id. (sum_at g id).size) part.ids (λ id there. (live id there).some) in
      subst (λ (s : Sum). unsigned_abs s.fee ≤ MAX_FEE * s.size) (sym (certificate.falling.summed part here)) (omega (arith, most, few))

  -- no part is below a size that no name is below
  pub least_part : (least : ℕ) → HasPick kept.levels.main → (state : State) × StandsFor kept state
      → ((id : ℕ) → is_member kept.levels.main.graph id ≡ true → least ≤ (rate_of kept.levels.main.graph id).size)
      → (part : Part) → Contains kept.levels.main.parts part → least ≤ part.rate.size
  least_part least pick some low part here =
      let of = some.1.plain.main in
      let certificate = (pick.picked some.0.plain.main of.closure).certificate in
      subst (λ (s : Sum). least ≤ s.size) (sym (certificate.falling.summed part here))
      (least_in_sum (λ id. (sum_at kept.levels.main.graph id).size) least part.ids (certificate.filled part here)
      (λ id there. low id ((of.closure.names id).0
      ((certificate.order.topological.names id).0 (flat_has (λ (p : Part). p.ids) kept.levels.main.parts part id here there)))))

  -- what a block takes is answered
  pub steps_built : (size : ℕ) (taken : List Part) → HavePicks kept.levels → IsWithin kept.levels Main → IsBlockOf kept size taken
      → MakesStep kept kept (Block size) (Built (sum_of (sums_of taken)) (order_of taken))
  steps_built size taken picked within block =
      steps_told kept (Block size) (Built (sum_of (sums_of taken)) (order_of taken)) picked (λ a b keeps. keeps) (ordered_row kept Main within)
      (λ state stands. record {
        answer = (kept.levels.main.parts, taken, pick_is kept state Main stands within, block state stands, refl);
        change = refl;
      })

  pub steps_unbuilt : IsWithin kept.levels Main → (size : ℕ) → MakesStep kept kept (Block size) (Refused Memory)
  steps_unbuilt within size = steps_without_memory kept (Block size) tt (ordered_row kept Main within)
