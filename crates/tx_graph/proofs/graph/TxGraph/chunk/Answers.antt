-- The part of a name is one of main's order.
use Rattle.std.proofs.Common.{◌*◌, Some, sym, ◌∙◌, inl, refl, true≢false}
use Rattle.graph_model.specs.Commands.{Chunk}
use Rattle.graph_model.specs.declared.names.Refusal.TheVariants.{Unknown}
use Rattle.graph_model.specs.Replies.{Refused, OnePart}
use Rattle.graphs.specs.declared.names.Level.TheVariants.{Main}
use Rattle.cluster_store.specs.Lent.{lent}
use Rattle.tx_graph.proofs.Calls.{kept_of, both_views, tested}
use Rattle.tx_graph.proofs.Rows.{unread_row}
use Rattle.tx_graph.proofs.Standing.{steps_refused}
use Rattle.tx_graph.proofs.Telling.{steps_parted}
use Rattle.tx_graph.proofs.Rooms.{levels_fit}
use Rattle.tx_graph.proofs.graph.TxGraph.chunk.Goals as goal

pub oversized-requires : goal.oversized-requires
oversized-requires g c = levels_fit g.row.W assumption

pub refused_over-requires : goal.refused_over-requires
refused_over-requires g c = (levels_fit g.row.W assumption, c.oversized.ensures.0 c.if-oversized.true)

pub returns-then-oversized : goal.returns-then-oversized
returns-then-oversized g c =
    let kept = kept_of (64 * g.row.W) c.self.inside.begun c.self.inside.levels in
    let why = c.refused_over.result in
    record {
      step = both_views kept c.args.self.now (Chunk c.args.id) (Refused why) c.self.view_is
          (steps_refused kept (Chunk c.args.id) why (unread_row kept Main c.args.id (Some why) c.refused_over.ensures));
    }

pub returns-in-Some : goal.returns-in-Some
returns-in-Some g c =
    let kept = kept_of (64 * g.row.W) c.self.inside.begun c.self.inside.levels in
    let found = c.in-Some.ensures in
    record {
      step = both_views kept c.args.self.now (Chunk c.args.id) (OnePart (lent c.in-Some.part)) c.self.view_is
          (steps_parted kept c.args.id (lent c.in-Some.part) c.self.invariant.picked
          (tested c.oversized.result c.oversized.ensures c.if-oversized.false) found.0 found.1 found.2);
    }

pub returns-in-None : goal.returns-in-None
returns-in-None g c =
    let kept = kept_of (64 * g.row.W) c.self.inside.begun c.self.inside.levels in
    record {
      step = both_views kept c.args.self.now (Chunk c.args.id) (Refused (Unknown c.args.id)) c.self.view_is
          (steps_refused kept (Chunk c.args.id) (Unknown c.args.id)
          (unread_row kept Main c.args.id (Some (Unknown c.args.id)) (inl (λ here. true≢false (sym here ∙ c.in-None.ensures), refl))));
    }

pub chunk-requires : goal.chunk-requires
chunk-requires g c = (levels_fit g.row.W assumption, tested c.oversized.result c.oversized.ensures c.if-oversized.false)
