use Rattle.std.proofs.Common.{map, codes, Ok, ◌∷◌, [], refl, inl, sym, subst}
use Rattle.graph_model.specs.Commands as commands
use Rattle.graph_model.specs.Replies.{Points, point_line}
use Rattle.graph_model.specs.Runs as runs
use Rattle.replay.specs.Answers.{IsReadOfGraph}
use Rattle.replay.proofs.RefusedLemmas.{reads_over, not_so}
use Rattle.replay.proofs.WritingLemmas.{lines_on}
use Rattle.replay.proofs.writing.write_diagram.Goals as goal

pub returns : goal.returns
returns g c =
    let (points, yields, step) = c.diagram.ensures.step in
    let out = c.more_points-so_far.ensures points yields.yields in
    let written = lines_on _ _ _ _ _ _ (Ok tt) _ _ (map point_line points) (codes "end" ∷ []) _ out c.more.ensures refl in
    (runs.Replies (Points points), (Points points, step, refl), c.told.ensures.writes _ _ _ _ _ written, c.told.ensures.told)

pub diagram-requires : goal.diagram-requires
diagram-requires g c = (assumption, not_so _ _ c.oversized.ensures.exact c.if-oversized.false)

pub more_points-so_far-requires : goal.more_points-so_far-requires
more_points-so_far-requires g c = assumption

pub returns-then-oversized : goal.returns-then-oversized
returns-then-oversized g c =
    let (answer, is, writes, outcome) = c.write_refused.ensures in (
      answer,
      subst (IsReadOfGraph c.args.graph.now (commands.Diagram c.args.level)) (sym is)
          (reads_over c.args.graph.now (commands.Diagram c.args.level) c.args.level (λ state over. inl (over, refl))
          (λ state stands. (c.oversized.ensures.state state stands).0 c.if-oversized.true)),
      writes,
      outcome,
    )
