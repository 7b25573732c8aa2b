-- the first ones are out
use Rattle.std.proofs.Common.{take, []}
use Rattle.cluster_store.specs.Kept.{IsShown, shelved}
use Rattle.cluster_store.specs.Tops.{Exchanged}
use Rattle.cluster_store.proofs.rebuilding.leave_top.Given as goal

abbrev pub invariant-loop-at : goal.invariant-loop-at
invariant-loop-at g l = record {
  so_far : Exchanged l.staged (take l.at l.outs) [] [] (shelved l.fn.slots.slots) (shelved l.slots.slots);
  shown : IsShown l.slots.slots l.index;
}
