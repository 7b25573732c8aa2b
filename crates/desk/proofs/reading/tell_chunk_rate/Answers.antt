use Rattle.std.proofs.Common.{rules, refl, sym, ap, ◌∙◌, FitsSigned}
use Rattle.std.specs.Int.{w64}
use Rattle.std.proofs.lemmas.Int.{to_z-of_z}
use Rattle.fee_rate.specs.declared.rates.Sum.{Sum}
use Rattle.graph_model.specs.Commands.{Chunk}
use Rattle.graph_model.specs.Replies.{OnePart, Refused}
use Rattle.desk.proofs.PoolLemmas.{graph_reads}
use Rattle.desk.proofs.reading.tell_chunk_rate.Goals as goal

pub returns-in-Ok : goal.returns-in-Ok
returns-in-Ok c =
    let fits : FitsSigned w64 c.in-Ok.found.fee = search rules in
    let told = c.in-Ok.ensures in record {
      reply = OnePart told.0;
      step = graph_reads c.args.desk.now.pool c.graph.result.now (Chunk c.args.id) (OnePart told.0) tt c.graph.ensures told.1;
      code_is = refl;
      kept_is = refl;
      picked = refl;
      held = refl;
      shows = (to_z-of_z w64 c.in-Ok.found.fee fits ∙ sym (ap (λ (s : Sum). s.fee) told.2), sym (ap (λ (s : Sum). s.size) told.2));
    }

pub returns-in-Err : goal.returns-in-Err
returns-in-Err c = record {
  reply = Refused c.in-Err.why;
  step = graph_reads c.args.desk.now.pool c.graph.result.now (Chunk c.args.id) (Refused c.in-Err.why) tt c.graph.ensures c.in-Err.ensures;
  code_is = c.refuse.ensures.code;
  kept_is = c.refuse.ensures.kept;
  picked = refl;
  held = refl;
  shows = refl;
}
