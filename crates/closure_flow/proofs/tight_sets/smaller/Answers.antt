use Rattle.std.proofs.Common.{inl, inr, arith, refl}
use Rattle.closure_flow.proofs.TightSets.{apart_of_none, met_none}
use Rattle.closure_flow.proofs.tight_sets.smaller.Goals as goal
use Rattle.closure_flow.proofs.tight_sets.smaller.Goals.{else-is_none-via-then-is_none+else-count, else-is_none-via-else-is_none}

pub returns-then-count-clause-one : goal.returns-then-count-clause-one
returns-then-count-clause-one g c =
    inr (refl, apart_of_none c.least.result c.is_none.result _ _ c.meet.result c.is_none.ensures c.if-is_none.true c.meet.ensures c.least.ensures.least)

pub returns-else-is_none-clause-second : goal.returns-else-is_none-clause-second
returns-else-is_none-clause-second g c = elim c.else-is_none.branch [
  | else-is_none-via-then-is_none+else-count w ↦
      inl (omega (arith, w.count.ensures.exact, w.count-then-is_none.ensures.exact, w.if-count.false, c.requires))
  | else-is_none-via-else-is_none w ↦
      inr (met_none c.least.result c.is_none.result _ _ c.meet.result c.is_none.ensures w.if-is_none.false c.meet.ensures c.least.ensures.least)
]
