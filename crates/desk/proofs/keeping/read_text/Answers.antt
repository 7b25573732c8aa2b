use Rattle.std.proofs.Common.{refl, ap, List, ℕ}
use Rattle.graph_model.specs.Replies.{Dumped}
use Rattle.desk.proofs.keeping.read_text.Goals as goal

pub returns-in-Ok : goal.returns-in-Ok
returns-in-Ok c = record {
  reply = Dumped c.in-Ok.ensures.0;
  step = c.in-Ok.ensures.1;
  code_is = refl;
  kept_is = refl;
  pool = refl;
  picked = refl;
  shows = ap (λ (bytes : List ℕ). record c.args.desk.now.held { text = bytes }) c.in-Ok.ensures.2;
}
