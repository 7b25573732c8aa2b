-- An accepted text makes a valid state of the text's graph, and what is written of it proves an optimal order of that graph.
use Rattle.std.proofs.Common.{◌≡◌, ℕ, ℤ, ◌<◌, ◌≤◌, ◌^◌, cond, List, [], ◌∷◌, map, length, Some, is_some, sym, refl, ap, subst, ◌∙◌, inl, inr, arith, true≢false, eq-eqb, ne_eqb}
use Rattle.std.specs.Prelude.{Contains, FitsSigned}
use Rattle.std.specs.Int.{w64}
use Rattle.std.specs.Ordering.{nat_cmp}
use Rattle.std.specs.FinMap as finmap
use Rattle.std.proofs.lemmas.Bool.{cases_eq}
use Rattle.std.proofs.lemmas.List.{length-map}
use Rattle.std.proofs.lemmas.List.Elements.{All-contains}
use Rattle.lists.proofs.Cases.{some_none}
use Rattle.lists.proofs.Flats.{flat_has}
use Rattle.lists.proofs.Entries.{Contains-cases, Contains-head, Contains-later, none_in_empty, map_along}
use Rattle.fee_rate.specs.declared.rates.Sum.{Sum}
use Rattle.graphs.specs.declared.names.Level.TheVariants.{Main}
use Rattle.graphs.specs.Graphs.{Graph, IsGraph}
use Rattle.graphs.specs.Alikes.{AreAlike}
use Rattle.graphs.specs.Certificates.{Part, Txs, rate_in}
use Rattle.graphs.specs.Linearizations.{IsOptimal}
use Rattle.graphs.proofs.WalkLemmas.{walk_within}
use Rattle.graphs.proofs.BestLemmas.{joined_ids}
use Rattle.graphs.proofs.AlikeLemmas.{alike_back, connected_to, cover_to, sums_along, optimal_to}
use Rattle.graph_model.specs.declared.limits.TheConstants.{MAX_COUNT}
use Rattle.graph_model.specs.Limits.{Bounds, AreInRange}
use Rattle.graph_model.specs.States.{PlainState, State, Table, Entry, plain_start, pick_of, sum_in, rate_of, size_of}
use Rattle.graph_model.specs.Oversize.{HasOver}
use Rattle.graph_model.specs.Commands.{Proof}
use Rattle.graph_model.specs.Changes.{HasTxs, Restores, ids_of}
use Rattle.graph_model.specs.Texts.{Text}
use Rattle.graph_model.specs.Dumps.{DumpText, IsDump, HasDumpTypes, IsGraphText, FitsBounds, loaded_graph}
use Rattle.graph_model.specs.Replies.{Reply, Proves, text_of}
use Rattle.graph_model.specs.Answers.{order_of, ListsCovers, ProvesOrder}
use Rattle.graph_model.specs.Steps.{Step}
use Rattle.graph_model.specs.Validity.{IsValid, IsValidState}
use Rattle.graph_model.specs.Loads.{LoadsTo}
use Rattle.graph_model.specs.RunLaws.{AreBest}
use Rattle.graph_model.specs.LoadLaws.{ProvesLoaded, LoadsProve}
use Rattle.graph_model.proofs.LevelLemmas.{over_along}
use Rattle.graph_model.proofs.RestoreLemmas.{CanCome, valid_restored}
use Rattle.graph_model.proofs.SameMinedLemmas.{listed_tx}
use Rattle.graph_model.proofs.TxLemmas.{size_told, tx_of}
use Rattle.graph_model.proofs.TrimLemmas.{rising_once}
use Rattle.graph_model.proofs.DumpLemmas.{edges_once, text_back}
use Rattle.graph_model.proofs.StepLemmas.{valid_at_start}
use Rattle.graph_model.proofs.ProofLemmas.{proofs_are_certificates}
use Rattle.graph_model.proofs.SoundLemmas.{best}

-- a table that has transactions has the fees and the sizes that they give to names
pub rate_had : (table : Table) (txs : Txs) → HasTxs table txs → (id : ℕ) → Contains (ids_of txs) id → rate_of table id ≡ rate_in txs id
rate_had table [] has id here = absurd (none_in_empty id here)
rate_had table (tx ∷ txs) has id here = elim (cases_eq tx.0 id) [
  | inl same ↦ sym (ap (rate_of table) same) ∙ ap sum_in (has tx.0 tx.1 tx.2 (Contains-head tx txs))
      ∙ sym (ap (λ b. cond b (record { fee = tx.1; size = tx.2 }) (rate_in txs id)) (eq-eqb tx.0 id same))
  | inr other ↦ rate_had table txs (λ q fee size there. has q fee size (Contains-later tx (q, fee, size) txs there)) id
      (elim (Contains-cases tx.0 id (ids_of txs) here) [ inl same ↦ absurd (other same) | inr later ↦ later ])
      ∙ sym (ap (λ b. cond b (record { fee = tx.1; size = tx.2 }) (rate_in txs id)) (ne_eqb tx.0 id other))
]

module _ (most : ℕ) (bounds : Bounds) (text : DumpText) (types : HasDumpTypes text) (is : IsGraphText text) (fits : FitsBounds bounds text)
    (state : PlainState) (restores : Restores (record (plain_start most) { limits = bounds }) text.txs text.edges state) where
  abbrev first : PlainState
  first = record (plain_start most) { limits = bounds }

  abbrev ids : List ℕ
  ids = ids_of text.txs

  abbrev loaded : Graph
  loaded = loaded_graph text

  abbrev rate : ℕ → Sum
  rate = rate_in text.txs

  can_come : CanCome first text.txs text.edges
  can_come = record {
    alone = refl;
    gone = λ id here live. true≢false (sym live ∙ ap is_some (finmap.get-empty nat_cmp id));
    room =
        let none : finmap.len {X = Entry} {R = nat_cmp} finmap.empty ≡ 0 = finmap.len-empty nat_cmp Entry in
        let long : length ids ≡ length text.txs = length-map text.txs (λ (tx : ℕ × ℤ × ℕ). tx.0) in
        omega (arith, none, long, fits.few);
    names = λ id here.
        let tx = listed_tx text.txs id here in
        (All-contains (λ (tx : ℕ × ℤ × ℕ). (tx.0 < 2 ^ 64) × FitsSigned w64 tx.1 × (tx.2 < 2 ^ 64)) text.txs (id, tx.0, tx.1) types.txs tx.2).0;
    rates = is.rates;
    parents = λ a b here. (is.ends a b here).0;
    acyclic = is.acyclic;
  }

  -- main holds what the text lists
  name_is : (id : ℕ) → Contains state.main.names id → Contains ids id
  name_is id here = elim ((restores.graph.names id).0 here) [ inl none ↦ absurd (none_in_empty id none) | inr put ↦ put ]

  name_in : (id : ℕ) → Contains ids id → Contains state.main.names id
  name_in id here = (restores.graph.names id).1 (inr here)

  pair_is : (a b : ℕ) → Contains state.main.pairs (a, b) → Contains text.edges (a, b)
  pair_is a b here = elim ((restores.graph.pairs a b).0 here) [ inl none ↦ absurd (none_in_empty (a, b) none) | inr put ↦ put.0 ]

  pair_in : (a b : ℕ) → Contains text.edges (a, b) → Contains state.main.pairs (a, b)
  pair_in a b here = (restores.graph.pairs a b).1 (inr (here, name_in b (is.ends a b here).1))

  pub alike : AreAlike (rate_of state.table) state.main rate loaded
  alike = record {
    names = λ id. (name_is id, name_in id);
    sums = λ id here. rate_had state.table text.txs restores.listed id (name_is id here);
    ancestors = λ x y. (
      λ walk. (walk.0, walk_within state.main.pairs text.edges pair_is x y walk.0 walk.1),
      λ walk. (walk.0, walk_within text.edges state.main.pairs pair_in x y walk.0 walk.1),
    );
  }

  abbrev turned : AreAlike rate loaded (rate_of state.table) state.main
  turned = alike_back (rate_of state.table) rate state.main loaded alike

  pub dumped : IsDump state.table state.main text
  dumped =
      let own : IsDump state.table loaded text = text_back state.table text is restores.listed in
      record {
        names = record { rising = own.names.rising; exact = λ id. (name_in id, name_is id) };
        sums = own.sums;
        covers = λ a b. (
          λ here. cover_to rate (rate_of state.table) loaded state.main turned a b ((own.covers a b).0 here),
          λ cover. (own.covers a b).1 (cover_to (rate_of state.table) rate state.main loaded alike a b cover),
        );
        rising = own.rising;
      }

  loaded_whole : IsGraph loaded
  loaded_whole = record {
    names = rising_once ids is.names;
    pairs = edges_once text.edges is.rising;
    ends = is.ends;
    acyclic = is.acyclic;
  }

  sizes : (id : ℕ) → Contains state.main.names id → size_of state.table id ≡ (rate id).size
  sizes id here = sym (size_told state.table id) ∙ ap (λ (s : Sum). s.size) (alike.sums id here)

  -- a component over the limits is one of the text's graph
  over_loaded : HasOver bounds (size_of state.table) state.main → HasOver bounds (λ id. (rate id).size) loaded
  over_loaded = over_along bounds bounds (λ id. (rate id).size) (size_of state.table) loaded state.main refl name_is
      (connected_to (rate_of state.table) rate state.main loaded alike) sizes

  module _ (in_range : AreInRange most bounds) where
    pub valid_loaded : IsValid state
    valid_loaded = valid_restored first state text.txs text.edges (valid_at_start most bounds in_range) can_come restores
        (λ strict over. fits.within strict (over_loaded over))

-- ---- what is written

module _ (most : ℕ) (bounds : Bounds) (text : DumpText) (in_range : AreInRange most bounds)
    (types : HasDumpTypes text) (is : IsGraphText text) (fits : FitsBounds bounds text) (state : State) (to : LoadsTo most bounds text state) where
  abbrev own : ℕ → Sum
  own = rate_of state.plain.table

  abbrev told : ℕ → Sum
  told = rate_in text.txs

  agrees : AreAlike own state.plain.main told (loaded_graph text)
  agrees = alike most bounds text types is fits state.plain to.plain

  back : AreAlike told (loaded_graph text) own state.plain.main
  back = alike_back own told state.plain.main (loaded_graph text) agrees

  pub valid_made : IsValidState state
  valid_made = record { plain = valid_loaded most bounds text types is fits state.plain to.plain in_range; picks = to.picks }

  covers_to : (order : List ℕ) (edges : List (ℕ × ℕ)) → ListsCovers state.plain.main order edges → ListsCovers (loaded_graph text) order edges
  covers_to order edges covers = record {
    exact = λ a b. (
      λ here. cover_to own told state.plain.main (loaded_graph text) agrees a b ((covers.exact a b).0 here),
      λ cover. (covers.exact a b).1 (cover_to told own (loaded_graph text) state.plain.main back a b cover),
    );
    in_order = covers.in_order;
  }

  -- the text that proves a pick of main
  proves_pick : most ≤ MAX_COUNT → (pick : List Part) (proof : Text) → pick_of state.picks Main ≡ Some pick → ProvesOrder state.plain.table state.plain.main pick proof
      → ProvesLoaded text proof
  proves_pick wide pick proof picked proves =
      let are : AreBest state.plain Main pick = best state Main pick valid_made picked in
      let order : IsOptimal own state.plain.main (map (λ (p : Part). p.ids) pick) = are.optimal in
      let sorted : (id : ℕ) → Contains (order_of pick) id → Contains state.plain.main.names id =
      λ id here. (order.order.names id).0 (subst (λ ids. Contains ids id) (joined_ids pick) here) in
      record {
        txs = proves.txs ∙ map_along (tx_of own) (tx_of told) (order_of pick)
            (λ id here. ap (λ (sum : Sum). (id, sum.fee, sum.size)) (agrees.sums id (sorted id here)))
            ∙ ap (λ parts. map (tx_of told) (order_of parts)) (sym proves.parts);
        edges = subst (λ parts. ListsCovers (loaded_graph text) (order_of parts) proof.edges) (sym proves.parts) (covers_to (order_of pick) proof.edges proves.edges);
        optimal = subst (λ parts. IsOptimal told (loaded_graph text) (map (λ (p : Part). p.ids) parts)) (sym proves.parts)
            (optimal_to own told state.plain.main (loaded_graph text) agrees valid_made.plain.main.whole
            (loaded_whole most bounds text types is fits state.plain to.plain) (map (λ (p : Part). p.ids) pick) order);
        summed = λ part listed.
            let here : Contains pick part = subst (λ parts. Contains parts part) proves.parts listed in
            are.summed part here ∙ sums_along own told part.ids
            (λ id inside. agrees.sums id (sorted id (flat_has (λ (p : Part). p.ids) pick part id here inside)));
        certified = proofs_are_certificates state Main pick proof
            (subst (λ m. m ≤ MAX_COUNT) (sym (ap (λ (s : PlainState). s.most) to.plain.same)) wide) valid_made picked proves;
      }

  none_over_main : (HasOver bounds (λ id. (told id).size) (loaded_graph text) → ⊥) → HasOver state.plain.limits (size_of state.plain.table) state.plain.main → ⊥
  none_over_main none over = none (over_loaded most bounds text types is fits state.plain to.plain
      (subst (λ (l : Bounds). HasOver l (size_of state.plain.table) state.plain.main) (ap (λ (s : PlainState). s.limits) to.plain.same) over))

  pub written : most ≤ MAX_COUNT → (HasOver bounds (λ id. (told id).size) (loaded_graph text) → ⊥) → (reply : Reply) → Step state (Proof Main) reply state
      → (proof : Text) × (reply ≡ Proves proof) × ProvesLoaded text proof
  written wide none reply step = elim step [
    | inl refused ↦ absurd (elim refused.first [ inl over ↦ none_over_main none over.0 | inr free ↦ some_none refused.why free.1 ])
    | inr rest ↦ elim rest [
      | inl want ↦ absurd (elim want [ inl lacks ↦ lacks.may | inr gives ↦ gives.may ])
      | inr fine ↦ let answer = fine.accepts.plain.answer in (answer.1, answer.4, proves_pick wide answer.0 answer.1 answer.2 answer.3)
    ]
  ]

pub loads_prove : LoadsProve
loads_prove = record {
  valid = λ most bounds bytes text state in_range found to. valid_made most bounds text in_range found.0.1 found.1 found.2 state to;
  alike = λ most bounds bytes text state found to. alike most bounds text found.0.1 found.1 found.2 state.plain to.plain;
  dumped = λ most bounds bytes text state found to. dumped most bounds text found.0.1 found.1 found.2 state.plain to.plain;
  proves = λ most bounds bytes out text wide in_range found none writes.
      let made = written most bounds text in_range found.0.1 found.1 found.2 writes.0 writes.2 wide none writes.1 writes.3 in
      (made.0, writes.4 ∙ ap text_of made.1, made.2);
}
