-- The corners of a level: the ends of its parts, where equal rates are joined.
use Rattle.std.proofs.Common.{◌≡◌, ℕ, ◌≤◌, true, List, map, Contains, sym, refl, subst}
use Rattle.fee_rate.specs.declared.rates.Sum.{Sum}
use Rattle.fee_rate.specs.Limits.{IsRate}
use Rattle.lists.proofs.Entries.{map-Contains}
use Rattle.lists.proofs.Flats.{flat_has}
use Rattle.graphs.proofs.BestLemmas.{rates_are_sums, sizes_some}
use Rattle.graphs.specs.declared.names.Level.{Level}
use Rattle.graphs.specs.Certificates.{Part}
use Rattle.graphs.specs.Closures.{is_member, rate_of}
use Rattle.graphs.specs.Diagrams.{corners_of, AreCorners, JoinsEqualRates}
use Rattle.graphs.specs.Graphs.{Graph, IsGraph}
use Rattle.graphs.specs.Picks.{IsPick}
use Rattle.graphs.specs.Rates.{HasSizes}
use Rattle.graphs.proofs.CornerLemmas.{optimal_ends, joins_some}
use Rattle.graphs.proofs.PickLemmas.{picks_are_kept}
use Rattle.graph_model.specs.Commands.{Diagram}
use Rattle.graph_model.specs.Replies.{Points}
use Rattle.graph_model.specs.States.{PlainState, level_of}
use Rattle.graph_model.specs.States as states
use Rattle.levels.specs.Levels.{OneLevel, Levels, HavePicks, IsWithin, level_at}
use Rattle.tx_graph.specs.Kept.{Kept, IsGraphOf, StandsPlainly, MakesStep}
use Rattle.diagram.specs.Parts.{sums_of}
use Rattle.tx_graph.proofs.Standing.{graph_at, sum_kept}
use Rattle.tx_graph.proofs.Picked.{pick_at, pick_here}
use Rattle.tx_graph.proofs.Reading.{steps_told}
use Rattle.tx_graph.proofs.Rows.{ordered_row}

-- fees and sizes of the names of a level are in range
abbrev pub IsRated : OneLevel → Type 0
IsRated level = (id : ℕ) → is_member level.graph id ≡ true → IsRate (rate_of level.graph id)

abbrev pub AreRated : Levels → Type 0
AreRated levels = (level : Level) → IsRated (level_at levels level)

module _ (rate : ℕ → Sum) (graph : Graph) (parts : List Part) (pick : IsPick rate graph parts) (sized : HasSizes rate graph.names) where
  part_sized : (part : Part) → Contains parts part → 1 ≤ part.rate.size
  part_sized part here =
      subst (λ (s : Sum). 1 ≤ s.size) (sym (pick.certificate.falling.summed part here))
      (sizes_some rate part.ids (pick.certificate.filled part here)
      (λ id there. sized id ((pick.certificate.order.topological.names id).0 (flat_has (λ (p : Part). p.ids) parts part id here there))))

  -- the parts have their segments
  some_segments : (segments : List Sum) × JoinsEqualRates (sums_of parts) segments
  some_segments = joins_some (sums_of parts) (λ s here.
      let found = map-Contains (λ (part : Part). part.rate) parts s here in
      subst (λ (x : Sum). 1 ≤ x.size) found.2 (part_sized found.0 found.1)) pick.certificate.falling.falling

  corners_here : (segments : List Sum) → IsGraph graph → JoinsEqualRates (sums_of parts) segments → AreCorners rate graph (corners_of segments)
  corners_here segments valid joins =
      optimal_ends rate graph (map (λ part. part.ids) parts) segments valid.names sized (picks_are_kept.optimal rate graph parts sized pick)
      (subst (λ sums. JoinsEqualRates sums segments) (rates_are_sums rate parts pick.certificate.falling.summed) joins)

-- ---- a level of a state

module _ (kept : Kept) (picked : HavePicks kept.levels) (level : Level) (within : IsWithin kept.levels level) (rated : IsRated (level_at kept.levels level)) (state : PlainState)
    (stands : StandsPlainly kept state) where
  abbrev at : OneLevel
  at = level_at kept.levels level

  abbrev graph : Graph
  graph = level_of state level

  abbrev rate : ℕ → Sum
  rate = states.rate_of state.table

  of : IsGraphOf at graph
  of = graph_at kept state stands level

  pick : IsPick rate graph at.parts
  pick = pick_here at graph rate (pick_at kept.levels level picked within) of (sum_kept kept.levels state.table stands.table level)

  sized : HasSizes rate graph.names
  sized id here =
      let member = (of.closure.names id).0 here in
      subst (λ (s : Sum). 1 ≤ s.size) (sym (sum_kept kept.levels state.table stands.table level id member)) (rated id member).some

  pub segments_at : (segments : List Sum) × JoinsEqualRates (sums_of at.parts) segments
  segments_at = some_segments rate graph at.parts pick sized

  pub corners_at : (segments : List Sum) → JoinsEqualRates (sums_of at.parts) segments → AreCorners rate graph (corners_of segments)
  corners_at segments joins = corners_here rate graph at.parts pick sized segments of.valid joins

-- the segments of a level's parts end at the corners of its graph
pub steps_drawn : (kept : Kept) (level : Level) (segments : List Sum) → HavePicks kept.levels → IsWithin kept.levels level
    → IsRated (level_at kept.levels level) → JoinsEqualRates (sums_of (level_at kept.levels level).parts) segments → MakesStep kept kept (Diagram level) (Points (corners_of segments))
steps_drawn kept level segments picked within rated joins =
    steps_told kept (Diagram level) (Points (corners_of segments)) picked (λ a b keeps. keeps) (ordered_row kept level within) (λ state stands. record {
      answer = (corners_of segments, corners_at kept picked level within rated state.plain stands.plain segments joins, refl);
      change = refl;
    })
