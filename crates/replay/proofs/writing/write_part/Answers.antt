use Rattle.std.proofs.Common.{refl}
use Rattle.cluster_store.specs.Lent.{lent}
use Rattle.graph_model.specs.Replies.{OnePart}
use Rattle.graph_model.specs.Runs as runs
use Rattle.replay.proofs.WritingLemmas.{one_line}
use Rattle.replay.proofs.writing.write_part.Goals as goal

pub returns-in-Ok : goal.returns-in-Ok
returns-in-Ok g c = (
  runs.Replies (OnePart (lent c.in-Ok.part)),
  rw c.in-Ok.is refl,
  c.told.ensures.writes _ _ _ _ _ (one_line _ _ _ _ _ _ c.write_line.ensures),
  c.told.ensures.told,
)

pub returns-in-Err : goal.returns-in-Err
returns-in-Err g c =
    let (answer, is, writes, outcome) = c.write_refused.ensures in (answer, rw c.in-Err.is is, writes, outcome)
