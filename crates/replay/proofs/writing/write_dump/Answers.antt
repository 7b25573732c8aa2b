use Rattle.std.proofs.Common.{refl, sym, subst}
use Rattle.graph_model.specs.Replies.{Dumped}
use Rattle.graph_model.specs.Runs as runs
use Rattle.replay.proofs.writing.write_dump.Goals as goal

pub returns-in-Ok : goal.returns-in-Ok
returns-in-Ok g c =
    let (text, steps, is) = c.in-Ok.ensures.step in (
      runs.Replies (Dumped text),
      (Dumped text, steps, refl),
      c.told.ensures.writes _ _ _ _ _ (rw is at (rw c.as_slice.ensures at c.write_all.ensures)),
      c.told.ensures.told,
    )
