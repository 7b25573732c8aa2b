-- The text of a graph can be loaded, and makes a graph that agrees with it.
use Rattle.std.proofs.Common.{◌≡◌, ℕ, ℤ, ◌^◌, ◌<◌, ◌≤◌, ◌↔◌, ◌⊎◌, inl, inr, List, [], ◌∷◌, map, length, refl, sym, ap, subst, ◌∙◌, arith}
use Rattle.std.specs.Prelude.{Contains, FitsSigned}
use Rattle.std.specs.Int.{w64}
use Rattle.std.proofs.lemmas.Int.{fits_signed_from_abs}
use Rattle.std.proofs.lemmas.List.{length-map}
use Rattle.lists.specs.Distinct.{AreDistinct}
use Rattle.lists.proofs.Entries.{Contains-head, Contains-later, map_along}
use Rattle.lists.proofs.Follows.{follow_once}
use Rattle.lists.proofs.Keys.{names-within}
use Rattle.fee_rate.specs.declared.rates.Sum.{Sum}
use Rattle.fee_rate.specs.Limits.{IsFee, IsSize}
use Rattle.graphs.specs.Graphs.{Graph, AreConnected, IsGraph, IsCover, Lists}
use Rattle.graphs.specs.Alikes.{AreAlike}
use Rattle.graphs.specs.Certificates.{Txs, rate_in}
use Rattle.graphs.specs.Diagrams.{AreCorners}
use Rattle.graphs.proofs.AlikeLemmas.{alike_back, connected_to, cover_to, corners_to}
use Rattle.graphs.proofs.BestLemmas.{covers_are_pairs}
use Rattle.graphs.proofs.ListLemmas.{Lists-same, Lists-for}
use Rattle.graph_model.specs.States.{PlainState, Table, sum_in, size_of, rate_of}
use Rattle.graph_model.specs.Changes.{HasTxs, ids_of}
use Rattle.graph_model.specs.Validity.{IsValid}
use Rattle.graph_model.specs.Limits.{Bounds}
use Rattle.graph_model.specs.Dumps.{DumpText, EdgesRise, IsDump, HasDumpTypes, IsGraphText, FitsBounds, dump_bytes, LoadFinding, Loads, NoSyntax, NoGraph, NoLimits, FindsLoad, loaded_graph}
use Rattle.graph_model.specs.DumpLaws.{DumpsLoad}
use Rattle.graph_model.proofs.LevelLemmas.{over_along}
use Rattle.graph_model.proofs.TrimLemmas.{rising_once}
use Rattle.graph_model.proofs.EdgeLemmas.{distinct_from, followed, cover_ancestors, cover_graph}
use Rattle.graph_model.proofs.AmountLemmas.{all_of}
use Rattle.graph_model.proofs.ReadingLemmas.{one_reading}
use Rattle.graph_model.proofs.TxLemmas.{size_told, tx_of, rate_listed, tx_named, kept_fine}

-- ---- edges that rise

abbrev EdgeBefore : ℕ × ℕ → ℕ × ℕ → Type 0
EdgeBefore a b = (a.1 < b.1) ⊎ ((a.1 ≡ b.1) × (a.0 < b.0))

edges_apart : (a b : ℕ × ℕ) → EdgeBefore a b → EdgeBefore b a → ⊥
edges_apart a b (inl one) (inl other) = omega (arith, one, other)
edges_apart a b (inl one) (inr other) = omega (arith, one, other.0)
edges_apart a b (inr one) (inl other) = omega (arith, one.0, other)
edges_apart a b (inr one) (inr other) = omega (arith, one.1, other.1)

pub edges_once : (edges : List (ℕ × ℕ)) → EdgesRise edges → AreDistinct edges
edges_once edges rising = distinct_from edges (λ a stands. edges_apart a a (rising a a stands) (rising a a stands))

-- edges that rise are told by their members
edges_same : (a b : List (ℕ × ℕ)) → EdgesRise a → EdgesRise b → ((x : ℕ × ℕ) → Contains a x ↔ Contains b x) → a ≡ b
edges_same a b one other same =
    follow_once EdgeBefore edges_apart a b (followed EdgeBefore a one) (followed EdgeBefore b other) (λ x. (same x).0) (λ x. (same x).1)

-- ---- a graph has one text

-- graphs with the same names, fees, sizes and covering pairs have the same text
pub texts_same : (ta tb : Table) (a b : Graph) (s t : DumpText) → ((id : ℕ) → Contains a.names id ↔ Contains b.names id)
    → ((id : ℕ) → rate_of ta id ≡ rate_of tb id) → ((x y : ℕ) → IsCover a.pairs x y ↔ IsCover b.pairs x y) → IsDump ta a s → IsDump tb b t → s ≡ t
texts_same ta tb a b s t names rates covers one other =
    let listed : Lists (Contains a.names) (ids_of t.txs) =
    Lists-for (Contains b.names) (Contains a.names) (ids_of t.txs) (λ id. (names id).1) (λ id. (names id).0) other.names in
    let ids : ids_of s.txs ≡ ids_of t.txs = Lists-same (Contains a.names) (ids_of s.txs) (ids_of t.txs) one.names listed in
    let told : map (tx_of (rate_of ta)) (ids_of s.txs) ≡ map (tx_of (rate_of tb)) (ids_of s.txs) =
    map_along (tx_of (rate_of ta)) (tx_of (rate_of tb)) (ids_of s.txs) (λ id here. ap (λ (sum : Sum). (id, sum.fee, sum.size)) (rates id)) in
    let txs : s.txs ≡ t.txs = one.sums ∙ told ∙ ap (map (tx_of (rate_of tb))) ids ∙ sym other.sums in
    let edges : s.edges ≡ t.edges = edges_same s.edges t.edges one.rising other.rising (λ e. (
      λ here. (other.covers e.0 e.1).1 ((covers e.0 e.1).0 ((one.covers e.0 e.1).0 here)),
      λ here. (one.covers e.0 e.1).1 ((covers e.0 e.1).1 ((other.covers e.0 e.1).0 here)),
    )) in
    λ i. record { txs = txs i; edges = edges i }

one_text : (table : Table) (graph : Graph) (a b : DumpText) → IsDump table graph a → IsDump table graph b → a ≡ b
one_text table graph a b = texts_same table table graph graph a b (λ id. (λ h. h, λ h. h)) (λ id. refl) (λ x y. (λ h. h, λ h. h))

-- ---- the text of main

module _ (state : PlainState) (text : DumpText) (valid : IsValid state) (dump : IsDump state.table state.main text) where
  abbrev rate : ℕ → Sum
  rate = rate_of state.table

  abbrev ids : List ℕ
  ids = ids_of text.txs

  abbrev graph : Graph
  graph = state.main

  rate_loaded : (id : ℕ) → Contains ids id → rate_in text.txs id ≡ rate id
  rate_loaded id here = ap (λ (txs : Txs). rate_in txs id) dump.sums ∙ rate_listed rate ids id here

  alike : AreAlike rate graph (rate_in text.txs) (loaded_graph text)
  alike = record {
    names = λ id. ((dump.names.exact id).1, (dump.names.exact id).0);
    sums = λ id here. sym (rate_loaded id ((dump.names.exact id).1 here));
    ancestors = cover_ancestors graph text.edges valid.main.whole dump.covers;
  }

  back : AreAlike (rate_in text.txs) (loaded_graph text) rate graph
  back = alike_back rate (rate_in text.txs) graph (loaded_graph text) alike

  ids_once : AreDistinct ids
  ids_once = rising_once ids dump.names.rising

  loaded_whole : IsGraph (loaded_graph text)
  loaded_whole = cover_graph graph text.edges valid.main.whole dump.covers ids ids_once dump.names.exact (edges_once text.edges dump.rising)

  components : (x y : ℕ) → AreConnected graph.pairs x y ↔ AreConnected (loaded_graph text).pairs x y
  components x y = (
    connected_to rate (rate_in text.txs) graph (loaded_graph text) alike x y,
    connected_to (rate_in text.txs) rate (loaded_graph text) graph back x y,
  )

  corners : (points : List (ℕ × ℤ)) → AreCorners rate graph points ↔ AreCorners (rate_in text.txs) (loaded_graph text) points
  corners points = (
    corners_to rate (rate_in text.txs) graph (loaded_graph text) alike valid.main.whole loaded_whole points,
    corners_to (rate_in text.txs) rate (loaded_graph text) graph back loaded_whole valid.main.whole points,
  )

  -- ---- its numbers are of their types

  named : (tx : ℕ × ℤ × ℕ) → Contains text.txs tx → (id : ℕ) × Contains graph.names id × (tx_of rate id ≡ tx)
  named tx here =
      let found = tx_named rate ids tx (subst (λ (txs : Txs). Contains txs tx) dump.sums here) in (found.0, (dump.names.exact found.0).0 found.1, found.2)

  in_range : (id : ℕ) → Contains graph.names id → IsFee (rate id).fee × IsSize (rate id).size
  in_range id here = kept_fine state valid id (inl here)

  ends : (parent child : ℕ) → Contains text.edges (parent, child) → Contains ids parent × Contains ids child
  ends parent child here = loaded_whole.ends parent child here

  types : HasDumpTypes text
  types = record {
    txs = all_of (λ (tx : ℕ × ℤ × ℕ). (tx.0 < 2 ^ 64) × FitsSigned w64 tx.1 × (tx.2 < 2 ^ 64)) text.txs (λ tx here.
        let found = named tx here in
        let fine = in_range found.0 found.1 in
        subst (λ (t : ℕ × ℤ × ℕ). (t.0 < 2 ^ 64) × FitsSigned w64 t.1 × (t.2 < 2 ^ 64)) found.2
        (valid.main.names found.0 found.1, fits_signed_from_abs w64 (rate found.0).fee (omega (arith, fine.0)), omega (arith, fine.1.1)));
    edges = all_of (λ (edge : ℕ × ℕ). (edge.0 < 2 ^ 64) × (edge.1 < 2 ^ 64)) text.edges (λ edge here.
        let both = ends edge.0 edge.1 here in
        (valid.main.names edge.0 ((dump.names.exact edge.0).0 both.0), valid.main.names edge.1 ((dump.names.exact edge.1).0 both.1)));
  }

  -- ---- the tests

  is_graph : IsGraphText text
  is_graph = record {
    names = dump.names.rising;
    rates = λ id fee size here.
        let found = named (id, fee, size) here in subst (λ (t : ℕ × ℤ × ℕ). IsFee t.1 × IsSize t.2) found.2 (in_range found.0 found.1);
    ends = ends;
    rising = dump.rising;
    acyclic = loaded_whole.acyclic;
    covers = λ parent child here. cover_to rate (rate_in text.txs) graph (loaded_graph text) alike parent child ((dump.covers parent child).0 here);
  }

  size_loaded : (id : ℕ) → Contains ids id → (rate_in text.txs id).size ≡ size_of state.table id
  size_loaded id here = ap (λ (s : Sum). s.size) (rate_loaded id here) ∙ size_told state.table id

  fits : ((id : ℕ) → Contains graph.names id → size_of state.table id ≤ state.limits.size) → FitsBounds state.limits text
  fits small = record {
    few =
        let long : length ids ≡ length text.txs = length-map text.txs (λ (tx : ℕ × ℤ × ℕ). tx.0) in
        let some = names-within ids state.table ids_once (λ id here. (valid.live id).1 (inl ((dump.names.exact id).0 here))) in
        omega (arith, valid.few, long, some);
    sizes = λ id fee size here.
        let found = named (id, fee, size) here in
        subst (λ (t : ℕ × ℤ × ℕ). t.2 ≤ state.limits.size) found.2
        (subst (λ n. n ≤ state.limits.size) (sym (size_told state.table found.0)) (small found.0 found.1));
    within = λ strict over. valid.main.within strict
        (over_along state.limits state.limits (size_of state.table) (λ id. (rate_in text.txs id).size) graph (loaded_graph text) refl
        (λ id. (dump.names.exact id).0) (λ a b. (components a b).1) size_loaded over);
  }

  passes : ((id : ℕ) → Contains graph.names id → size_of state.table id ≤ state.limits.size) → FindsLoad state.limits (dump_bytes text) (Loads text)
  passes small = ((refl, types), is_graph, fits small)

-- ---- a text is the text of the graph that it makes

-- transactions that a table has are those of their names
listed_by : (table : Table) (txs : Txs) → HasTxs table txs → txs ≡ map (tx_of (rate_of table)) (ids_of txs)
listed_by table [] has = refl
listed_by table (tx ∷ txs) has =
    let entry : rate_of table tx.0 ≡ record { fee = tx.1; size = tx.2 } = ap sum_in (has tx.0 tx.1 tx.2 (Contains-head tx txs)) in
    let rest : txs ≡ map (tx_of (rate_of table)) (ids_of txs) =
    listed_by table txs (λ id fee size here. has id fee size (Contains-later tx (id, fee, size) txs here)) in
    λ i. (tx.0, (sym entry i).fee, (sym entry i).size) ∷ rest i

pub text_back : (table : Table) (text : DumpText) → IsGraphText text → HasTxs table text.txs → IsDump table (loaded_graph text) text
text_back table text is has = record {
  names = record { rising = is.names; exact = λ id. (λ here. here, λ here. here) };
  sums = listed_by table text.txs has;
  covers = λ parent child. (is.covers parent child, covers_are_pairs text.edges parent child);
  rising = is.rising;
}

-- ---- one thing is found of bytes

one_finding : (bounds : Bounds) (bytes : List ℕ) (a b : LoadFinding) → FindsLoad bounds bytes a → FindsLoad bounds bytes b → a ≡ b
one_finding bounds bytes (Loads a) (Loads b) one other = ap (λ t. Loads t) (one_reading bytes a b one.0 other.0)
one_finding bounds bytes (Loads a) NoSyntax one other = absurd (other a one.0)
one_finding bounds bytes (Loads a) NoGraph one other = absurd (other.2 (subst IsGraphText (one_reading bytes a other.0 one.0 other.1) one.1))
one_finding bounds bytes (Loads a) NoLimits one other = absurd (other.3 (subst (FitsBounds bounds) (one_reading bytes a other.0 one.0 other.1) one.2))
one_finding bounds bytes NoSyntax (Loads b) one other = absurd (one b other.0)
one_finding bounds bytes NoSyntax NoSyntax one other = refl
one_finding bounds bytes NoSyntax NoGraph one other = absurd (one other.0 other.1)
one_finding bounds bytes NoSyntax NoLimits one other = absurd (one other.0 other.1)
one_finding bounds bytes NoGraph (Loads b) one other = absurd (one.2 (subst IsGraphText (one_reading bytes b one.0 other.0 one.1) other.1))
one_finding bounds bytes NoGraph NoSyntax one other = absurd (other one.0 one.1)
one_finding bounds bytes NoGraph NoGraph one other = refl
one_finding bounds bytes NoGraph NoLimits one other = absurd (one.2 (subst IsGraphText (one_reading bytes other.0 one.0 other.1 one.1) other.2))
one_finding bounds bytes NoLimits (Loads b) one other = absurd (one.3 (subst (FitsBounds bounds) (one_reading bytes b one.0 other.0 one.1) other.2))
one_finding bounds bytes NoLimits NoSyntax one other = absurd (other one.0 one.1)
one_finding bounds bytes NoLimits NoGraph one other = absurd (other.2 (subst IsGraphText (one_reading bytes one.0 other.0 one.1 other.1) one.2))
one_finding bounds bytes NoLimits NoLimits one other = refl

pub dumps_load : DumpsLoad
dumps_load = record {
  passes = passes;
  alike = alike;
  components = components;
  corners = corners;
  back = text_back;
  one_text = one_text;
  one_reading = one_reading;
  one_finding = one_finding;
}
