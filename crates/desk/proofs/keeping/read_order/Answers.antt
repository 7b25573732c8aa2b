use Rattle.std.proofs.Common.{inr, refl}
use Rattle.graph_model.specs.Commands as commands
use Rattle.graph_model.specs.Replies.{Parts}
use Rattle.desk.specs.Calls.{ShowsOrder}
use Rattle.desk.proofs.CallLemmas.{gathers_none}
use Rattle.desk.proofs.keeping.read_order.Goals as goal

pub returns-in-Ok : goal.returns-in-Ok
returns-in-Ok c = inr (record {
  reply = Parts c.in-Ok.ensures.0;
  step = c.in-Ok.ensures.1;
  code_is = refl;
  kept_is = refl;
  pool = refl;
  picked = refl;
  shows = (c.in-Ok.ensures.2, refl);
})

pub returns-in-Err : goal.returns-in-Err
returns-in-Err c =
    gathers_none c.args.desk.now (commands.Order c.args.level) c.refuse.result c.refuse.new.kept c.in-Err.why ShowsOrder refl c.refuse.ensures.code c.refuse.ensures.kept
    c.in-Err.ensures
