use Rattle.std.proofs.Common.{rules, refl, FitsSigned}
use Rattle.std.specs.Int.{w64}
use Rattle.std.proofs.lemmas.Int.{to_z-of_z}
use Rattle.graph_model.specs.Commands.{Chunk}
use Rattle.graph_model.specs.Replies.{OnePart, Refused}
use Rattle.cluster_store.specs.Lent.{lent}
use Rattle.desk.proofs.PoolLemmas.{graph_reads}
use Rattle.desk.proofs.reading.tell_chunk.Goals as goal

pub returns-in-Ok : goal.returns-in-Ok
returns-in-Ok c =
    let fits : FitsSigned w64 c.in-Ok.part.rate.fee = search rules in record {
      reply = OnePart (lent c.in-Ok.part);
      step = graph_reads c.args.desk.now.pool c.graph.result.now (Chunk c.args.id) (OnePart (lent c.in-Ok.part)) tt c.graph.ensures c.in-Ok.ensures.step;
      code_is = refl;
      kept_is = refl;
      picked = refl;
      held = refl;
      shows = (to_z-of_z w64 c.in-Ok.part.rate.fee fits, refl, c.hand_out.ensures.copied, refl);
    }

pub returns-in-Err : goal.returns-in-Err
returns-in-Err c = record {
  reply = Refused c.in-Err.why;
  step = graph_reads c.args.desk.now.pool c.graph.result.now (Chunk c.args.id) (Refused c.in-Err.why) tt c.graph.ensures c.in-Err.ensures.step;
  code_is = c.refuse.ensures.code;
  kept_is = c.refuse.ensures.kept;
  picked = refl;
  held = refl;
  shows = (refl, refl, refl);
}
