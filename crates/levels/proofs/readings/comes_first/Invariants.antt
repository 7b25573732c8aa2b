use Rattle.std.proofs.Common.{take, Contains}
use Rattle.levels.proofs.readings.comes_first.Given as goal

abbrev pub invariant-loop-at : goal.invariant-loop-at
invariant-loop-at l = record {
  a : Contains (take l.at l.ids) l.a → ⊥;
  b : Contains (take l.at l.ids) l.b → ⊥;
}
