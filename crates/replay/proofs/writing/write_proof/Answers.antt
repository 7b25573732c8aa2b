use Rattle.std.proofs.Common.{◌≡◌, ◌<◌, ℕ, List, map, flat_map, codes, true, Contains, ◌↔◌, Ok, ◌∷◌, [], ◌++◌, refl, subst, inl, sym}
use Rattle.graphs.specs.Certificates.{Part}
use Rattle.graphs.specs.Closures.{is_member}
use Rattle.graph_model.specs.Answers.{order_of}
use Rattle.graph_model.specs.States.{level_of}
use Rattle.graph_model.specs.Commands as commands
use Rattle.graph_model.specs.Replies.{Proves}
use Rattle.graph_model.specs.Runs as runs
use Rattle.graph_model.specs.Texts.{part_lines}
use Rattle.levels.specs.Levels.{level_at}
use Rattle.replay.specs.Writings.{ListsEach, tx_line_of, edges_lines}
use Rattle.replay.specs.Answers.{IsReadOfGraph}
use Rattle.replay.proofs.RefusedLemmas.{reads_over, not_so}
use Rattle.replay.proofs.Rooms.{graph_room, stored_fits}
use Rattle.replay.proofs.TextLemmas.{text_with, text_is, text_lines_are}
use Rattle.replay.proofs.WritingLemmas.{lines_on}
use Rattle.replay.proofs.writing.write_proof.Goals as goal
use Rattle.tx_graph.proofs.Standing.{graph_at}

-- that the graph fits in memory is asked of the caller too
pub order-requires : goal.order-requires
order-requires g c = let fits : graph_room g.row.W < 9223372036854775808 = assumption in (fits, (stored_fits g.row.W fits, not_so _ _ c.oversized.ensures.exact c.if-oversized.false))

pub more_parts-so_far-requires : goal.more_parts-so_far-requires
more_parts-so_far-requires g c = stored_fits g.row.W assumption

pub more_all_txs-so_far-requires : goal.more_all_txs-so_far-requires
more_all_txs-so_far-requires g c = (assumption, not_so _ _ c.oversized.ensures.exact c.if-oversized.false)

pub more_all_edges-so_far-requires : goal.more_all_edges-so_far-requires
more_all_edges-so_far-requires g c = (assumption, not_so _ _ c.oversized.ensures.exact c.if-oversized.false)

pub returns : goal.returns
returns g c =
    let kept = c.args.graph.now in
    let level = level_at kept.levels c.args.level in
    let last = c.order.result in
    let edges = c.more_all_edges-so_far.ensures.0 in
    let each : ListsEach level.graph (order_of level.parts) (order_of level.parts) edges = c.more_all_edges-so_far.ensures.1 in
    let txs = map (tx_line_of level.graph) (order_of level.parts) in
    let pairs = edges_lines edges in
    let parts = flat_map part_lines last in
    let one = lines_on _ _ _ _ _ _ (Ok tt) _ _ txs pairs (txs ++ pairs) c.more_all_txs-so_far.ensures c.more_all_edges-so_far.ensures.2 refl in
    let two = lines_on _ _ _ _ _ _ (Ok tt) _ _ (txs ++ pairs) parts (txs ++ pairs ++ parts) one c.more_parts-so_far.ensures refl in
    let written = lines_on _ _ _ _ _ _ (Ok tt) _ _ (txs ++ pairs ++ parts) (codes "end" ∷ []) _ two c.more.ensures
    (text_lines_are level edges level.parts last refl c.order.ensures.parts) in
    let names : (id : ℕ) → Contains (order_of level.parts) id ↔ (is_member level.graph id ≡ true) =
    subst (λ (ps : List Part). (id : ℕ) → Contains (order_of ps) id ↔ (is_member level.graph id ≡ true)) c.order.ensures.parts c.order.ensures.names in
    let text = text_with level edges in (
      runs.Replies (Proves text),
      (
        Proves text,
        λ state stands.
            let graph = graph_at kept state.plain stands.plain c.args.level in
            c.order.ensures.proof text (text_is level (level_of state.plain c.args.level) edges graph names each) state stands,
        refl,
      ),
      c.told.ensures.writes _ _ _ _ _ written,
      c.told.ensures.told,
    )

pub returns-then-oversized : goal.returns-then-oversized
returns-then-oversized g c =
    let (answer, is, writes, outcome) = c.write_refused.ensures in (
      answer,
      subst (IsReadOfGraph c.args.graph.now (commands.Proof c.args.level)) (sym is)
          (reads_over c.args.graph.now (commands.Proof c.args.level) c.args.level (λ state over. inl (over, refl))
          (λ state stands. (c.oversized.ensures.state state stands).0 c.if-oversized.true)),
      writes,
      outcome,
    )
