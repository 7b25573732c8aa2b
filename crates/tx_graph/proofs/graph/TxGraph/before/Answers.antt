use Rattle.std.proofs.Common.{◌*◌, sym, ◌∙◌}
use Rattle.graph_model.specs.declared.names.Refusal.TheVariants.{Unknown, Oversized}
use Rattle.graph_model.specs.Commands.{Before}
use Rattle.graph_model.specs.Replies.{Refused, Stands}
use Rattle.tx_graph.proofs.Calls.{kept_of, both_views, tested}
use Rattle.tx_graph.proofs.Rows.{no_first_row, no_second_row, over_row}
use Rattle.tx_graph.proofs.Standing.{steps_refused}
use Rattle.tx_graph.proofs.Telling.{steps_placed}
use Rattle.tx_graph.proofs.Rooms.{levels_fit}
use Rattle.tx_graph.proofs.graph.TxGraph.before.Goals as goal

pub returns-then-not-has : goal.returns-then-not-has
returns-then-not-has g c =
    let kept = kept_of (64 * g.row.W) c.self.inside.begun c.self.inside.levels in
    record {
      step = both_views kept c.args.self.now (Before c.args.a c.args.b) (Refused (Unknown c.args.a)) c.self.view_is
          (steps_refused kept (Before c.args.a c.args.b) (Unknown c.args.a)
          (no_first_row kept c.args.a c.args.b (sym c.has.ensures ∙ c.if-not-has.true)));
    }

pub returns-then-not-has-2 : goal.returns-then-not-has-2
returns-then-not-has-2 g c =
    let kept = kept_of (64 * g.row.W) c.self.inside.begun c.self.inside.levels in
    record {
      step = both_views kept c.args.self.now (Before c.args.a c.args.b) (Refused (Unknown c.args.b)) c.self.view_is
          (steps_refused kept (Before c.args.a c.args.b) (Unknown c.args.b)
          (no_second_row kept c.args.a c.args.b (sym c.has.ensures ∙ c.if-not-has.false) (sym c.has-2.ensures ∙ c.if-not-has-2.true)));
    }

pub oversized-requires : goal.oversized-requires
oversized-requires g c = levels_fit g.row.W assumption

pub returns-then-oversized : goal.returns-then-oversized
returns-then-oversized g c =
    let kept = kept_of (64 * g.row.W) c.self.inside.begun c.self.inside.levels in
    record {
      step = both_views kept c.args.self.now (Before c.args.a c.args.b) (Refused Oversized) c.self.view_is
          (steps_refused kept (Before c.args.a c.args.b) Oversized
          (over_row kept c.args.a c.args.b (c.oversized.ensures.0 c.if-oversized.true) (sym c.has.ensures ∙ c.if-not-has.false)
          (sym c.has-2.ensures ∙ c.if-not-has-2.false)));
    }

pub returns : goal.returns
returns g c =
    let kept = kept_of (64 * g.row.W) c.self.inside.begun c.self.inside.levels in
    record {
      step = both_views kept c.args.self.now (Before c.args.a c.args.b) (Stands c.place.result) c.self.view_is
          (steps_placed kept c.args.a c.args.b c.place.result c.self.invariant.picked
          (tested c.oversized.result c.oversized.ensures c.if-oversized.false) (sym c.has.ensures ∙ c.if-not-has.false)
          (sym c.has-2.ensures ∙ c.if-not-has-2.false) c.place.ensures);
    }

pub has-requires : goal.has-requires
has-requires g c = levels_fit g.row.W assumption

pub has-requires-2 : goal.has-requires-2
has-requires-2 g c = levels_fit g.row.W assumption

pub place-requires : goal.place-requires
place-requires g c = (
  levels_fit g.row.W assumption,
  (
    tested c.oversized.result c.oversized.ensures c.if-oversized.false,
    (sym c.has.ensures ∙ c.if-not-has.false, sym c.has-2.ensures ∙ c.if-not-has-2.false),
  ),
)
