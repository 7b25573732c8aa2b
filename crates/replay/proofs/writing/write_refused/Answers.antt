use Rattle.std.proofs.Common.{refl}
use Rattle.graph_model.specs.Replies.{Refused}
use Rattle.graph_model.specs.Runs as runs
use Rattle.replay.proofs.WritingLemmas.{one_line}
use Rattle.replay.proofs.writing.write_refused.Goals as goal

pub returns : goal.returns
returns g c = (
  runs.Replies (Refused c.args.why),
  refl,
  c.told.ensures.writes _ _ _ _ _ (one_line _ _ _ _ _ _ c.write_refusal.ensures),
  rw c.number.ensures at c.told.ensures.told,
)
