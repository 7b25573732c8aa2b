use Rattle.levels.proofs.Rooms.{record_fits}
use Rattle.std.proofs.Common.{arith, ap, sym, subst, ℕ, List, length, ◌<◌, ◌+◌}
use Rattle.levels.proofs.Most.{IsMost, most_new, most_kept, most_of_all}
use Rattle.levels.proofs.left.largest.Goals.{then-names, else-names}
use Rattle.levels.proofs.left.largest.Goals as goal

pub names-requires : goal.names-requires
names-requires g c = record_fits g.row.W c.requires.narrow

pub names-requires-in-loop-i : goal.names-requires-in-loop-i
names-requires-in-loop-i g c = record_fits g.row.W c.requires.narrow

pub bounds-clusters-i : goal.bounds-clusters-i
bounds-clusters-i g c = c.loop-i-test.true

pub bounds-clusters-best : goal.bounds-clusters-best
bounds-clusters-best g c = c.loop-i.invariant.place

pub returns-clause-place : goal.returns-clause-place
returns-clause-place g c = c.loop-i.invariant.place

pub loop-i-preserved : goal.loop-i-preserved
loop-i-preserved g c =
    let xs = c.args.clusters.now in
    let best = c.loop-i.best in
    let i = c.loop-i.i in
    let held = ap (λ (ids : List ℕ). length ids) c.names.ensures.names in
    let next = ap (λ (ids : List ℕ). length ids) c.names-in-loop-i.ensures.names in
    record {
      place = elim c.if-names.branch [
        | then-names w ↦ subst (λ (j : ℕ). j < length xs) (sym w.best-is) c.loop-i-test.true
        | else-names w ↦ subst (λ (j : ℕ). j < length xs) (sym w.best-is) c.loop-i.invariant.place
      ];
      most = elim c.if-names.branch [
        | then-names w ↦ subst (IsMost xs (i + 1)) (sym w.best-is)
            (most_new xs i best c.loop-i-test.true c.loop-i.invariant.place c.index-clusters-best.result c.index-clusters-i.result
            c.index-clusters-best.is c.index-clusters-i.is c.loop-i.invariant.most (omega (arith, w.if-names, held, next)))
        | else-names w ↦ subst (IsMost xs (i + 1)) (sym w.best-is)
            (most_kept xs i best c.loop-i-test.true c.loop-i.invariant.place c.index-clusters-best.result c.index-clusters-i.result
            c.index-clusters-best.is c.index-clusters-i.is c.loop-i.invariant.most (omega (arith, w.if-names, held, next)))
      ];
    }

pub returns-clause-most : goal.returns-clause-most
returns-clause-most g c = most_of_all c.args.clusters.now c.loop-i.i c.loop-i.best c.loop-i-test.false c.loop-i.invariant.most
