use Rattle.std.proofs.Common.{rules, refl, FitsSigned}
use Rattle.std.specs.Int.{w64}
use Rattle.std.proofs.lemmas.Int.{to_z-of_z}
use Rattle.graph_model.specs.Replies.{OnePart, Refused}
use Rattle.graph_model.specs.States.{State}
use Rattle.cluster_store.specs.Lent.{lent}
use Rattle.desk.specs.Orders.{IsLastOfMain}
use Rattle.desk.proofs.OrderLemmas.{of_pool}
use Rattle.desk.proofs.reading.tell_last.Goals as goal

pub returns-in-Ok : goal.returns-in-Ok
returns-in-Ok c =
    let fits : FitsSigned w64 c.in-Ok.part.rate.fee = search rules in record {
      same = refl;
      reply = OnePart (lent c.in-Ok.part);
      last = of_pool c.args.desk.now c.graph.result.now c.graph.ensures (λ (s : State). IsLastOfMain s (OnePart (lent c.in-Ok.part))) c.in-Ok.ensures;
      code_is = refl;
      kept_is = refl;
      shows = (to_z-of_z w64 c.in-Ok.part.rate.fee fits, refl, c.hand_out.ensures.copied, refl);
    }

pub returns-in-Err : goal.returns-in-Err
returns-in-Err c = record {
  same = refl;
  reply = Refused c.in-Err.why;
  last = of_pool c.args.desk.now c.graph.result.now c.graph.ensures (λ (s : State). IsLastOfMain s (Refused c.in-Err.why)) c.in-Err.ensures;
  code_is = c.refuse.ensures.code;
  kept_is = c.refuse.ensures.kept;
  shows = (refl, refl, refl);
}
