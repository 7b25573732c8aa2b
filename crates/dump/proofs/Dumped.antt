-- The sorted lists are the text of every state that a graph stands for, and the machine answers with it.
use Rattle.std.proofs.Common.{◌≡◌, ℕ, ℤ, true, List, [], ◌∷◌, map, Contains, ◌↔◌, Option, None, Some, inl, inr, refl, sym, ap, subst, ◌∙◌}
use Rattle.std.specs.List.Sorted.{IsPermutation, IsStrictlyIncreasing}
use Rattle.std.proofs.lemmas.List.Sorted.{Contains-permutation, IsPermutation-map, IsPermutation-sym}
use Rattle.std.proofs.lemmas.Simd.{map-map}
use Rattle.std.proofs.lemmas.List.{map-id}
use Rattle.lists.specs.Distinct.{AreDistinct}
use Rattle.lists.proofs.Entries.{Contains-head, Contains-later, map-Contains}
use Rattle.fee_rate.specs.declared.rates.Sum.{Sum}
use Rattle.graphs.specs.declared.names.Level.TheVariants.{Main}
use Rattle.graphs.specs.Certificates.{Part, Txs}
use Rattle.graphs.specs.Closures as closures
use Rattle.graphs.specs.Closures.{is_member, is_ancestor}
use Rattle.graphs.specs.Graphs.{IsCover, Lists}
use Rattle.graphs.specs.Picks.{IsPick}
use Rattle.graphs.proofs.ClosingLemmas.{order_from, covers_agree}
use Rattle.graph_model.specs.declared.names.Refusal.TheVariants.{Memory, Oversized}
use Rattle.graph_model.specs.Answers.{order_of}
use Rattle.graph_model.specs.Changes.{ids_of}
use Rattle.graph_model.specs.Commands.{Count, Dump}
use Rattle.graph_model.specs.Dumps.{DumpText, EdgesRise, IsDump}
use Rattle.graph_model.specs.Oversize.{IsOversized}
use Rattle.graph_model.specs.Replies.{Number, Refused, Dumped}
use Rattle.graph_model.specs.States.{PlainState, State, rate_of, sum_in}
use Rattle.graph_model.specs.Steps.{Step, Accepts, KeepsPicks}
use Rattle.graph_model.specs.Validity as validity
use Rattle.levels.specs.Levels.{IsWithin}
use Rattle.tx_graph.specs.Kept.{Kept, StandsFor, StandsPlainly, MakesStep, IsPickOf}
use Rattle.dump.specs.Listings.{AreListed, tx_at}

-- transactions of which each is told by its name
told_by : (f : ℕ → ℕ × ℤ × ℕ) (txs : Txs) → ((tx : ℕ × ℤ × ℕ) → Contains txs tx → tx ≡ f tx.0) → txs ≡ map f (ids_of txs)
told_by f [] each = refl
told_by f (tx ∷ txs) each =
    let first : tx ≡ f tx.0 = each tx (Contains-head tx txs) in
    let rest : txs ≡ map f (ids_of txs) = told_by f txs (λ t here. each t (Contains-later tx t txs here)) in
    λ i. first i ∷ rest i

-- ---- the text of a state

module _ (kept : Kept) (state : PlainState) (stands : StandsPlainly kept state) (pick : IsPick (rate_of state.table) state.main kept.levels.main.parts)
    (txs sorted_txs : Txs) (edges sorted_edges : List (ℕ × ℕ)) (listed : AreListed kept.levels.main (order_of kept.levels.main.parts) txs edges)
    (moved_txs : IsPermutation txs sorted_txs) (rising_txs : AreDistinct (ids_of txs) → IsStrictlyIncreasing (ids_of sorted_txs))
    (moved_edges : IsPermutation edges sorted_edges) (rising_edges : AreDistinct edges → EdgesRise sorted_edges) where
  abbrev graph : closures.Closure
  graph = kept.levels.main.graph

  abbrev order : List ℕ
  order = order_of kept.levels.main.parts

  abbrev number : ℕ × ℤ × ℕ → ℕ
  number tx = tx.0

  ids_are : ids_of txs ≡ order
  ids_are = ap ids_of listed.txs_are ∙ map-map number (tx_at graph) order ∙ map-id order

  ids_moved : IsPermutation order (ids_of sorted_txs)
  ids_moved = subst (λ (ids : List ℕ). IsPermutation ids (ids_of sorted_txs)) ids_are (IsPermutation-map number txs sorted_txs moved_txs)

  ids_exact : (id : ℕ) → Contains (ids_of sorted_txs) id ↔ Contains state.main.names id
  ids_exact id =
      let names = pick.certificate.order.topological.names id in (
        λ here. names.0 (Contains-permutation (ids_of sorted_txs) order id (IsPermutation-sym order (ids_of sorted_txs) ids_moved) here),
        λ there. Contains-permutation order (ids_of sorted_txs) id ids_moved (names.1 there),
      )

  ids_listed : Lists (Contains state.main.names) (ids_of sorted_txs)
  ids_listed = record {
    rising = rising_txs (subst AreDistinct (sym ids_are) pick.certificate.order.topological.once);
    exact = ids_exact;
  }

  abbrev tx_of : ℕ → ℕ × ℤ × ℕ
  tx_of id = (id, (rate_of state.table id).fee, (rate_of state.table id).size)

  -- the table has what the graph keeps
  tx_kept : (id : ℕ) → Contains order id → tx_of id ≡ tx_at graph id
  tx_kept id here =
      let member : is_member graph id ≡ true = (stands.main.closure.names id).0 ((pick.certificate.order.topological.names id).0 here) in
      ap (λ (sum : Sum). (id, sum.fee, sum.size)) (ap sum_in (stands.table.names Main id member))

  tx_told : (tx : ℕ × ℤ × ℕ) → Contains sorted_txs tx → tx ≡ tx_of tx.0
  tx_told tx here =
      let had : Contains txs tx = Contains-permutation sorted_txs txs tx (IsPermutation-sym txs sorted_txs moved_txs) here in
      let found = map-Contains (tx_at graph) order tx (subst (λ (ts : Txs). Contains ts tx) listed.txs_are had) in
      let same : tx_of found.0 ≡ tx = tx_kept found.0 found.1 ∙ found.2 in
      sym same ∙ ap tx_of (ap number same)

  cover_kept : (a d : ℕ) → Contains sorted_edges (a, d) ↔ IsCover state.main.pairs a d
  cover_kept a d =
      let agree = covers_agree graph state.main
      (order_from (is_member graph) (is_ancestor graph) state.main stands.main.closure stands.main.among) stands.main.closure a d in (
        λ here. agree.1 ((listed.covers a d).0
            (Contains-permutation sorted_edges edges (a, d) (IsPermutation-sym edges sorted_edges moved_edges) here)).1,
        λ cover.
            let closed = agree.0 cover in
            let child : Contains order d = (pick.certificate.order.topological.names d).1
            ((stands.main.closure.names d).1 (stands.main.among a d closed.ancestor).1) in
            Contains-permutation edges sorted_edges (a, d) moved_edges ((listed.covers a d).1 (child, closed)),
      )

  pub is_dump : IsDump state.table state.main (record { txs = sorted_txs; edges = sorted_edges })
  is_dump = record {
    names = ids_listed;
    sums = told_by tx_of sorted_txs tx_told;
    covers = cover_kept;
    rising = rising_edges listed.once;
  }

-- ---- the step

-- main's pick, where main isn't over the limits
module _ (kept : Kept) (within : IsWithin kept.levels Main) (state : PlainState) where
  picked : (pick : Option (List Part)) → IsPickOf kept.levels.limits kept.levels.main pick
      → validity.IsPickOf state.limits state.table state.main pick
      → (IsOversized state Main → ⊥) × IsPick (rate_of state.table) state.main kept.levels.main.parts
  picked None over other = absurd (within over)
  picked (Some pick) is valid = (valid.0, subst (λ (parts : List Part). IsPick (rate_of state.table) state.main parts) is.1 valid.1)

-- a count is accepted, changes nothing, and tells which picks there are
counted : (n : ℕ) (old new : State) → Step old (Count Main) (Number n) new → Accepts old (Count Main) (Number n) new
counted n old new (inl refused) = absurd (let e : Number n ≡ Refused refused.why = refused.told in cc)
counted n old new (inr (inl (inl lacks))) = absurd lacks.may
counted n old new (inr (inl (inr gives))) = absurd gives.may
counted n old new (inr (inr fine)) = fine.accepts

pub steps_dumped : (kept : Kept) (n : ℕ) (txs sorted_txs : Txs) (edges sorted_edges : List (ℕ × ℕ)) → IsWithin kept.levels Main
    → MakesStep kept kept (Count Main) (Number n)
    → (AreDistinct (order_of kept.levels.main.parts) → AreListed kept.levels.main (order_of kept.levels.main.parts) txs edges)
    → IsPermutation txs sorted_txs → (AreDistinct (ids_of txs) → IsStrictlyIncreasing (ids_of sorted_txs))
    → IsPermutation edges sorted_edges → (AreDistinct edges → EdgesRise sorted_edges)
    → MakesStep kept kept Dump (Dumped (record { txs = sorted_txs; edges = sorted_edges }))
steps_dumped kept n txs sorted_txs edges sorted_edges within counts listed moved_txs rising_txs moved_edges rising_edges state stands =
    let (next, is, step) = counts state stands in
    let text : DumpText = record { txs = sorted_txs; edges = sorted_edges } in
    let fine : Accepts state (Count Main) (Number n) next = counted n state next step in
    let keeps : KeepsPicks state next = fine.picks in
    let same : next.plain ≡ state.plain = fine.plain.change in
    let (fits, pick) = picked kept within next.plain next.picks.main is.picks.main keeps.picks.main in
    let dump : IsDump next.plain.table next.plain.main text =
    is_dump kept next.plain is.plain pick txs sorted_txs edges sorted_edges (listed pick.certificate.order.topological.once)
    moved_txs rising_txs moved_edges rising_edges in (
      next,
      is,
      inr (inr (record {
        none = inr (subst (λ (s : PlainState). IsOversized s Main → ⊥) same fits, refl);
        accepts = record {
          plain = record { answer = (text, subst (λ (s : PlainState). IsDump s.table s.main text) same dump, refl); change = same };
          picks = keeps;
        };
      })),
    )

-- where there is no memory
pub steps_without_memory : (kept : Kept) → ((state : State) → StandsFor kept state → IsOversized state.plain Main → ⊥)
    → MakesStep kept kept Dump (Refused Memory)
steps_without_memory kept fits state stands =
    (state, stands, inr (inl (inl (record { none = inr (fits state stands, refl); may = tt; told = refl; same = refl }))))

-- where main is oversized
pub steps_oversized : (kept : Kept) → ((state : State) → StandsFor kept state → IsOversized state.plain Main) → MakesStep kept kept Dump (Refused Oversized)
steps_oversized kept over state stands =
    (state, stands, inl (record { why = Oversized; first = inl (over state stands, refl); told = refl; same = refl }))
