-- What `proof` writes is a certificate.
use Rattle.std.proofs.Common.{◌≡◌, ℕ, ℤ, ◌^◌, ◌<◌, ◌≤◌, List, [], ◌∷◌, ◌++◌, map, length, length-append, append_assoc, Option, None, Some, sym, ap, ap₂, subst, ◌∙◌, inl, inr, arith}
use Rattle.std.specs.Prelude.{Contains, codes, flat_map, unsigned_abs, FitsSigned}
use Rattle.std.specs.Int.{w64}
use Rattle.std.specs.FinMap as finmap
use Rattle.std.proofs.lemmas.Int.{fits_signed_from_abs}
use Rattle.std.proofs.lemmas.List.{length-map}
use Rattle.std.proofs.lemmas.List.Concat.{flat_map-cons}
use Rattle.std.proofs.lemmas.List.Elements.{Contains-push, Contains-push_cases, Contains-append_cases}
use Rattle.lists.specs.Distinct.{AreDistinct}
use Rattle.lists.proofs.Distinct.{distinct-append_left, distinct_apart}
use Rattle.lists.proofs.Entries.{Contains-head, Contains-later, Contains-cases, Contains-splits, map-Contains, none_in_empty, Contains-map}
use Rattle.fee_rate.specs.declared.rates.Sum.{Sum}
use Rattle.fee_rate.specs.Limits.{IsFee, IsSize}
use Rattle.graphs.specs.declared.names.Level.{Level}
use Rattle.graphs.specs.declared.names.Level.TheVariants.{Main, Top}
use Rattle.graphs.specs.declared.names.Flow.{Flow}
use Rattle.graphs.specs.Graphs.{Graph, IsCover, IsGraph}
use Rattle.graphs.specs.Rates.{sums}
use Rattle.graphs.specs.Linearizations.{IsTopological, IsClosedWithin}
use Rattle.graphs.specs.Certificates.{Part, Txs, graph_of, rate_in, weight_in, HasGraph, HasOrder, HasFalling, HasFlows, Certified}
use Rattle.graphs.specs.Minimal.{AreMinimal}
use Rattle.graphs.specs.Picks.{IsPick}
use Rattle.graphs.proofs.TangentLemmas.{joined}
use Rattle.lists.proofs.Flats.{flat_has}
use Rattle.graphs.proofs.AlikeLemmas.{sums_along}
use Rattle.graphs.proofs.BestLemmas.{covers_are_pairs, joined_distinct, joined_ids, part_front_closed}
use Rattle.graph_model.specs.declared.limits.TheConstants.{MAX_COUNT}
use Rattle.graph_model.specs.States.{PlainState, State, level_of, pick_of, top_of, size_of, rate_of, IsLive}
use Rattle.graph_model.specs.Changes.{IsKept}
use Rattle.graph_model.specs.Answers.{order_of, ProvesOrder, ListsCovers}
use Rattle.graph_model.specs.Lines.{max_line}
use Rattle.graph_model.specs.Texts.{Text, tx_line, edge_line, flow_line, chunk_line, part_lines, text_lines, HasPartTypes, HasTextTypes, IsText, Found, Verifies}
use Rattle.graph_model.specs.Oversize.{HasOver}
use Rattle.graph_model.specs.Validity.{IsLevel, IsValid, IsPickOf, IsStagingPick, IsValidState}
use Rattle.graph_model.proofs.LevelLemmas.{within_limits}
use Rattle.graph_model.specs.ProofLaws.{ProofsAreCertificates}
use Rattle.lists.proofs.Keys.{names-within}
use Rattle.graph_model.proofs.ValidLemmas.{top_level}
use Rattle.graph_model.proofs.TxLemmas.{tx_of, names_listed, rate_listed, tx_named, kept_fine}
use Rattle.graph_model.proofs.EdgeLemmas.{edge_graph, edge_order, edge_connected}
use Rattle.graph_model.proofs.AmountLemmas.{IsSmallSum, small_sum, amount_small, all_of}
use Rattle.graph_model.proofs.SpellingLemmas.{IsPlain, AllPlain, tx_plain, edge_plain, flow_plain, chunk_plain, end_plain, told_plain}

-- what holds of each line of a list of groups of lines
all_joined : {A : Type 0} (f : A → List (List ℕ)) (xs : List A) → ((x : A) → Contains xs x → AllPlain (f x)) → AllPlain (flat_map f xs)
all_joined f [] plain line here = absurd (none_in_empty line here)
all_joined f (x ∷ xs) plain line here = elim (Contains-append_cases (f x) (flat_map f xs) line (subst (λ ls. Contains ls line) (flat_map-cons f x xs) here)) [
  | inl first ↦ plain x (Contains-head x xs) line first
  | inr later ↦ all_joined f xs (λ y there. plain y (Contains-later x y xs there)) line later
]

all_mapped : {A : Type 0} (f : A → List ℕ) (xs : List A) → ((x : A) → Contains xs x → IsPlain (f x)) → AllPlain (map f xs)
all_mapped f xs plain line here = let found = map-Contains f xs line here in subst IsPlain found.2 (plain found.0 found.1)

all_appended : (xs ys : List (List ℕ)) → AllPlain xs → AllPlain ys → AllPlain (xs ++ ys)
all_appended xs ys one two line here = elim (Contains-append_cases xs ys line here) [ inl first ↦ one line first | inr later ↦ two line later ]

module _ (plain : PlainState) (graph : Graph) (pick : List Part) (edges : List (ℕ × ℕ)) (wide : plain.most ≤ MAX_COUNT)
    (valid : IsValid plain) (level : IsLevel plain graph)
    (none : HasOver plain.limits (size_of plain.table) graph → ⊥)
    (inside : (id : ℕ) → Contains graph.names id → IsKept plain id)
    (picked : IsPick (rate_of plain.table) graph pick) (covers : ListsCovers graph (order_of pick) edges) where
  abbrev rate : ℕ → Sum
  rate = rate_of plain.table

  abbrev order : List ℕ
  order = order_of pick

  abbrev txs : Txs
  txs = map (tx_of rate) order

  abbrev whole_text : Text
  whole_text = record { txs = txs; edges = edges; parts = pick }

  sorted : IsTopological graph order
  sorted = picked.certificate.order.topological

  live_name : (id : ℕ) → Contains order id → IsLive plain id
  live_name id here = (valid.live id).1 (inside id ((sorted.names id).0 here))

  in_range : (id : ℕ) → Contains order id → IsFee (rate id).fee × IsSize (rate id).size
  in_range id here = kept_fine plain valid id (inside id ((sorted.names id).0 here))

  small_name : (id : ℕ) → Contains order id → id < 2 ^ 64
  small_name id here = level.names id ((sorted.names id).0 here)

  in_order : (part : Part) (id : ℕ) → Contains pick part → Contains part.ids id → Contains order id
  in_order part id here there = flat_has (λ (p : Part). p.ids) pick part id here there

  part_sorted : IsTopological graph (joined (map (λ (p : Part). p.ids) pick))
  part_sorted = subst (IsTopological graph) (joined_ids pick) sorted

  part_listed : (part : Part) → Contains pick part → Contains (map (λ (p : Part). p.ids) pick) part.ids
  part_listed part here = Contains-map (λ (p : Part). p.ids) pick part here

  part_once : (part : Part) → Contains pick part → AreDistinct part.ids
  part_once part here = joined_distinct (map (λ (p : Part). p.ids) pick) part.ids (part_listed part here) part_sorted.once

  few_names : (part : Part) → Contains pick part → length part.ids ≤ 128
  few_names part here =
      let fits = within_limits plain.limits (size_of plain.table) graph none part.ids (record {
        once = part_once part here;
        inside = λ id there. (sorted.names id).0 (in_order part id here there);
        together = picked.certificate.order.together part here;
      }) in omega (arith, fits.0, valid.limits.count_high, wide)

  part_sum : (part : Part) → Contains pick part → IsSmallSum (sums rate part.ids)
  part_sum part here = small_sum rate part.ids (few_names part here) (λ id there. in_range id (in_order part id here there))

  -- each amount: the names of the part before the child lack it
  flow_small : (part : Part) (flow : Flow) → Contains pick part → Contains part.flows flow → flow.amount ≤ 10 ^ 30
  flow_small part flow here there =
      let certified = picked.certificate.flows part here in
      let cut = Contains-splits part.ids flow.child (certified.inside flow there).0 in
      let front : List ℕ = cut.0 in
      let once : AreDistinct (front ++ flow.child ∷ cut.1) = subst (λ xs. AreDistinct xs) cut.2 (part_once part here) in
      let closed : IsClosedWithin graph.pairs part.ids front =
      part_front_closed graph (map (λ (p : Part). p.ids) pick) part.ids front (flow.child ∷ cut.1) part_sorted (part_listed part here) cut.2 in
      let next : IsClosedWithin graph.pairs part.ids (front ++ flow.child ∷ []) =
      part_front_closed graph (map (λ (p : Part). p.ids) pick) part.ids (front ++ flow.child ∷ []) cut.1 part_sorted
      (part_listed part here) (cut.2 ∙ sym (append_assoc front (flow.child ∷ []) cut.1)) in
      let pair : (f : Flow) → Contains part.flows f → Contains graph.pairs (f.parent, f.child) =
      λ f is. covers_are_pairs graph.pairs f.parent f.child (certified.links f is) in
      let parent : Contains front flow.parent = elim (Contains-push_cases front flow.child flow.parent
      (next.parents flow.parent flow.child (pair flow there) (certified.inside flow there).1 (Contains-push front flow.child))) [
        | inl first ↦ first
        | inr same ↦ absurd ((certified.links flow there).other (sym same))
      ] in
      amount_small rate (IsCover graph.pairs) part.ids front part.flows flow certified
      (distinct-append_left front (flow.child ∷ cut.1) once) closed.inside there
      (λ f is child. closed.parents f.parent f.child (pair f is) (certified.inside f is).1 child) parent
      (λ child. distinct_apart front (flow.child ∷ cut.1) flow.child once child (Contains-head flow.child cut.1))
      (part_sum part here)
      (small_sum rate front (le_trans front part.ids (flow.child ∷ cut.1) cut.2 (few_names part here))
      (λ id is. in_range id (in_order part id here (closed.inside id is))))
    where
      le_trans : (xs zs ys : List ℕ) → zs ≡ xs ++ ys → length zs ≤ 128 → length xs ≤ 128
      le_trans xs zs ys cut few = omega (arith, length-append xs ys, ap length cut)

  -- ---- the text

  same_rate : (id : ℕ) → Contains order id → rate_in txs id ≡ rate id
  same_rate id here = rate_listed rate order id here

  part_types : (part : Part) → Contains pick part → HasPartTypes part
  part_types part here =
      let sum : part.rate ≡ sums rate part.ids = picked.certificate.falling.summed part here in
      let small = part_sum part here in
      record {
        fee = subst (λ (s : Sum). unsigned_abs s.fee ≤ 10 ^ 30) (sym sum) (omega (arith, small.fee));
        size = subst (λ (s : Sum). s.size < 2 ^ 64) (sym sum) (omega (arith, small.size));
        filled = picked.certificate.filled part here;
        ids = all_of (λ id. id < 2 ^ 64) part.ids (λ id there. small_name id (in_order part id here there));
        ends = all_of (λ (flow : Flow). (flow.child < 2 ^ 64) × (flow.parent < 2 ^ 64)) part.flows (λ flow there.
            let both = (picked.certificate.flows part here).inside flow there in
            (small_name flow.child (in_order part flow.child here both.0), small_name flow.parent (in_order part flow.parent here both.1)));
        amounts = all_of (λ (flow : Flow). (1 ≤ flow.amount) × (flow.amount ≤ 10 ^ 30)) part.flows (λ flow there.
            ((picked.certificate.flows part here).some flow there, flow_small part flow here there));
      }

  edge_names : (a b : ℕ) → Contains edges (a, b) → Contains order a × Contains order b
  edge_names a b here = (edge_graph graph order edges level.whole sorted covers).ends a b here

  text_types : HasTextTypes whole_text
  text_types = record {
    txs = all_of (λ (tx : ℕ × ℤ × ℕ). (tx.0 < 2 ^ 64) × FitsSigned w64 tx.1 × (tx.2 < 2 ^ 64)) txs (λ tx here.
        let found = tx_named rate order tx here in
        let fine = in_range found.0 found.1 in
        subst (λ (t : ℕ × ℤ × ℕ). (t.0 < 2 ^ 64) × FitsSigned w64 t.1 × (t.2 < 2 ^ 64)) found.2
        (small_name found.0 found.1, fits_signed_from_abs w64 (rate found.0).fee (omega (arith, fine.0)), omega (arith, fine.1.1)));
    edges = all_of (λ (edge : ℕ × ℕ). (edge.0 < 2 ^ 64) × (edge.1 < 2 ^ 64)) edges (λ edge here.
        let both = edge_names edge.0 edge.1 here in (small_name edge.0 both.0, small_name edge.1 both.1));
    parts = all_of HasPartTypes pick part_types;
  }

  txs_plain : AllPlain (map (λ (tx : ℕ × ℤ × ℕ). tx_line tx.0 tx.1 tx.2) txs)
  txs_plain = all_mapped (λ (tx : ℕ × ℤ × ℕ). tx_line tx.0 tx.1 tx.2) txs (λ tx here.
      let found = tx_named rate order tx here in
      let fine = in_range found.0 found.1 in
      subst (λ (t : ℕ × ℤ × ℕ). IsPlain (tx_line t.0 t.1 t.2)) found.2
      (tx_plain found.0 (rate found.0).fee (rate found.0).size (small_name found.0 found.1) (omega (arith, fine.0)) (omega (arith, fine.1.1))))

  edges_plain : AllPlain (map (λ (edge : ℕ × ℕ). edge_line edge.0 edge.1) edges)
  edges_plain = all_mapped (λ (edge : ℕ × ℕ). edge_line edge.0 edge.1) edges (λ edge here.
      let both = edge_names edge.0 edge.1 here in edge_plain edge.0 edge.1 (small_name edge.0 both.0) (small_name edge.1 both.1))

  parts_plain : AllPlain (flat_map part_lines pick)
  parts_plain = all_joined part_lines pick (λ part here line is. elim (Contains-cases (chunk_line part) line (map flow_line part.flows) is) [
    | inl same ↦ subst IsPlain same (chunk_plain part (part_types part here).fee (part_types part here).size
        (λ id there. small_name id (in_order part id here there)) (few_names part here))
    | inr later ↦ all_mapped flow_line part.flows (λ flow there.
        let both = (picked.certificate.flows part here).inside flow there in
        flow_plain flow (small_name flow.child (in_order part flow.child here both.0))
        (small_name flow.parent (in_order part flow.parent here both.1)) (flow_small part flow here there)) line later
  ])

  lines_plain : AllPlain (text_lines whole_text)
  lines_plain = all_appended _ _ (all_appended _ _ (all_appended _ _ txs_plain edges_plain) parts_plain)
      (λ line is. elim (Contains-cases (codes "end") line [] is) [ inl same ↦ subst IsPlain same end_plain | inr none ↦ absurd (none_in_empty line none) ])

  is_text : IsText (text_lines whole_text) whole_text
  is_text = record {
    short = all_of (λ (line : List ℕ). length line ≤ max_line) (text_lines whole_text) (λ line here. (lines_plain line here).short);
    spelled = told_plain (text_lines whole_text) lines_plain;
    types = text_types;
  }

  -- ---- the tests

  names_are : map (λ (tx : ℕ × ℤ × ℕ). tx.0) txs ≡ order
  names_are = names_listed rate order

  graph_is : record { names = order; pairs = edges } ≡ graph_of txs edges
  graph_is = λ i. record { names = sym names_are i; pairs = edges }

  has_graph : HasGraph txs edges
  has_graph = record {
    few =
        let long : length txs ≡ length order = length-map order (tx_of rate) in
        let some : length order ≤ finmap.len plain.table = names-within order plain.table sorted.once live_name in
        omega (arith, valid.few, valid.limits.total_high, long, some);
    limits = λ id fee size here.
        let found = tx_named rate order (id, fee, size) here in
        subst (λ (t : ℕ × ℤ × ℕ). IsFee t.1 × IsSize t.2) found.2 (in_range found.0 found.1);
    graph = subst IsGraph graph_is (edge_graph graph order edges level.whole sorted covers);
  }

  has_order : HasOrder (graph_of txs edges) pick
  has_order = record {
    topological = subst (λ (g : Graph). IsTopological g order) graph_is (edge_order graph order edges level.whole sorted covers);
    together =
        λ part here a b one two. edge_connected graph order edges level.whole sorted covers a b (picked.certificate.order.together part here a b one two);
  }

  same_sums : (part : Part) → Contains pick part → sums rate part.ids ≡ sums (rate_in txs) part.ids
  same_sums part here = sums_along rate (rate_in txs) part.ids (λ id there. sym (same_rate id (in_order part id here there)))

  has_falling : HasFalling (rate_in txs) pick
  has_falling = record {
    summed = λ part here. picked.certificate.falling.summed part here ∙ same_sums part here;
    falling = picked.certificate.falling.falling;
  }

  has_flows : HasFlows (rate_in txs) (λ parent child. Contains edges (parent, child)) pick
  has_flows part here =
      let certified = picked.certificate.flows part here in
      record {
        once = certified.once;
        links = λ flow there. (covers.exact flow.parent flow.child).1 (certified.links flow there);
        inside = certified.inside;
        some = certified.some;
        balanced = λ id there.
            ap₂ weight_in (sym (same_sums part here)) (same_rate id (in_order part id here there)) ∙ certified.balanced id there;
      }

  pub verified : Verifies (text_lines whole_text) (Found Certified)
  verified = (whole_text, is_text, (has_graph, has_order, has_falling, has_flows))

-- ---- both levels

top_pick : (state : State) → IsValidState state
    → IsPickOf state.plain.limits state.plain.table (level_of state.plain Top) (pick_of state.picks Top)
top_pick state valid = both state.plain.staging state.picks.staging valid.picks.staging
  where
    both : (staging : Option Graph) (pick : Option (Option (List Part))) → IsStagingPick state.plain.limits state.plain.table staging pick
        → IsPickOf state.plain.limits state.plain.table (top_of state.plain.main staging) (top_of state.picks.main pick)
    both None None none = valid.picks.main
    both (Some graph) (Some pick) picked = picked
    both None (Some pick) none = absurd none
    both (Some graph) None none = absurd none

pub level_pick : (state : State) (level : Level) (pick : List Part) → IsValidState state → pick_of state.picks level ≡ Some pick
    → (HasOver state.plain.limits (size_of state.plain.table) (level_of state.plain level) → ⊥)
    × IsPick (rate_of state.plain.table) (level_of state.plain level) pick × AreMinimal (rate_of state.plain.table) (level_of state.plain level).pairs pick
level_pick state Main pick valid is = subst (IsPickOf state.plain.limits state.plain.table state.plain.main) is valid.picks.main
level_pick state Top pick valid is = subst (IsPickOf state.plain.limits state.plain.table (level_of state.plain Top)) is (top_pick state valid)

of_level : (plain : PlainState) (graph : Graph) (pick : List Part) (text : Text) → plain.most ≤ MAX_COUNT → IsValid plain
    → IsLevel plain graph → (HasOver plain.limits (size_of plain.table) graph → ⊥) → ((id : ℕ) → Contains graph.names id → IsKept plain id)
    → IsPick (rate_of plain.table) graph pick → ProvesOrder plain.table graph pick text → Verifies (text_lines text) (Found Certified)
of_level plain graph pick text wide valid level none inside picked proves =
    let same : record { txs = map (tx_of (rate_of plain.table)) (order_of pick); edges = text.edges; parts = pick } ≡ text =
    λ i. record { txs = sym proves.txs i; edges = text.edges; parts = sym proves.parts i } in
    subst (λ (t : Text). Verifies (text_lines t) (Found Certified)) same (verified plain graph pick text.edges wide valid level none inside picked
    proves.edges)

pub proofs_are_certificates : ProofsAreCertificates
proofs_are_certificates state Main pick text wide valid is proves =
    let picked = level_pick state Main pick valid is in
    of_level state.plain state.plain.main pick text wide valid.plain valid.plain.main picked.0 (λ id here. inl here) picked.1 proves
proofs_are_certificates state Top pick text wide valid is proves =
    let picked = level_pick state Top pick valid is in
    of_level state.plain (level_of state.plain Top) pick text wide valid.plain (top_level state.plain valid.plain) picked.0 (λ id here. inr here) picked.1 proves
