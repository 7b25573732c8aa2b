use Rattle.std.proofs.Common.{◌<◌, map, codes, Ok, ◌∷◌, [], inl, refl, sym, subst}
use Rattle.graph_model.specs.Commands as commands
use Rattle.graph_model.specs.Replies.{Parts}
use Rattle.graph_model.specs.Runs as runs
use Rattle.graph_model.specs.Texts.{chunk_line}
use Rattle.replay.specs.Answers.{IsReadOfGraph}
use Rattle.replay.proofs.RefusedLemmas.{reads_over, not_so}
use Rattle.replay.proofs.Rooms.{graph_room, stored_fits}
use Rattle.replay.proofs.WritingLemmas.{lines_on}
use Rattle.replay.proofs.writing.write_order.Goals as goal

pub returns : goal.returns
returns g c =
    let parts = c.order.result in
    let written = lines_on _ _ _ _ _ _ (Ok tt) _ _ (map chunk_line parts) (codes "end" ∷ []) _ c.more_chunks-so_far.ensures c.more.ensures (refl) in
    (runs.Replies (Parts parts), (Parts parts, c.order.ensures.step, refl), c.told.ensures.writes _ _ _ _ _ written, c.told.ensures.told)

pub order-requires : goal.order-requires
order-requires g c = let fits : graph_room g.row.W < 9223372036854775808 = assumption in (fits, (stored_fits g.row.W fits, not_so _ _ c.oversized.ensures.exact c.if-oversized.false))

pub more_chunks-so_far-requires : goal.more_chunks-so_far-requires
more_chunks-so_far-requires g c = stored_fits g.row.W assumption

pub returns-then-oversized : goal.returns-then-oversized
returns-then-oversized g c =
    let (answer, is, writes, outcome) = c.write_refused.ensures in (
      answer,
      subst (IsReadOfGraph c.args.graph.now (commands.Order c.args.level)) (sym is)
          (reads_over c.args.graph.now (commands.Order c.args.level) c.args.level (λ state over. inl (over, refl))
          (λ state stands. (c.oversized.ensures.state state stands).0 c.if-oversized.true)),
      writes,
      outcome,
    )
