use Rattle.std.proofs.Common.{take}
use Rattle.cluster.proofs.Kins.{AreKin}
use Rattle.cluster.proofs.kin.kin_places.Given as goal

abbrev pub invariant-loop-at : goal.invariant-loop-at
invariant-loop-at g l = AreKin l.kin l.names l.dep (take l.at l.ids) l.chosen
