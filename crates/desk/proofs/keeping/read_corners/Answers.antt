use Rattle.std.proofs.Common.{inr, refl, ap, List}
use Rattle.graph_model.specs.Commands as commands
use Rattle.graph_model.specs.Replies.{Points}
use Rattle.desk.specs.declared.telling.Total.{Total}
use Rattle.desk.specs.Calls.{ShowsCorners}
use Rattle.desk.proofs.CallLemmas.{gathers_none}
use Rattle.desk.proofs.keeping.read_corners.Goals as goal

pub returns-in-Ok : goal.returns-in-Ok
returns-in-Ok c = inr (record {
  reply = Points c.in-Ok.ensures.0;
  step = c.in-Ok.ensures.1;
  code_is = refl;
  kept_is = refl;
  pool = refl;
  picked = refl;
  shows = ap (λ (cs : List Total). record c.args.desk.now.held { corners = cs }) c.in-Ok.ensures.2;
})

pub returns-in-Err : goal.returns-in-Err
returns-in-Err c =
    gathers_none c.args.desk.now (commands.Diagram c.args.level) c.refuse.result c.refuse.new.kept c.in-Err.why ShowsCorners refl c.refuse.ensures.code c.refuse.ensures.kept
    c.in-Err.ensures
