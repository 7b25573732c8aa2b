-- what holds of each so far
use Rattle.std.proofs.Common.{take}
use Rattle.std.specs.Prelude.{Contains}
use Rattle.links.specs.Links.{Links, AreLinks}
use Rattle.record.proofs.leaving.read_all.Given as goal

abbrev pub invariant-loop-at : goal.invariant-loop-at
invariant-loop-at l = (part : Links) → Contains (take l.at l.parts) part → AreLinks part
