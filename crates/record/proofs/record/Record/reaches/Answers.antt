use Rattle.std.proofs.Common.{◌*◌, ap, ◌∙◌}
use Rattle.graphs.specs.Closures.{is_ancestor}
use Rattle.cluster.specs.Clusters.{Cluster}
use Rattle.record.proofs.Keeping.{over_held, over_is, within_is, over_reaches}
use Rattle.record.proofs.record.Record.reaches.Goals.{in-Within, in-Over}
use Rattle.record.proofs.record.Record.reaches.Goals as goal

pub returns-clause-ancestor : goal.returns-clause-ancestor
returns-clause-ancestor g c = elim c.match-self.branch [
  | in-Within w ↦
      w.result-is ∙ w.reaches.ensures
      ∙ ap (λ (s : Cluster). is_ancestor s.graph c.args.a c.args.b)
      (within_is c.self.inside.kept w.in-Within.component c.args.self.now w.in-Within.is c.self.view_is)
  | in-Over w ↦
      let held = over_held (64 * g.row.W) c.self.inside.kept w.in-Over.over w.deref_mut.result.now w.in-Over.is w.deref_mut.ensures.value c.self.invariant.2 in
      let is = over_is c.self.inside.kept w.in-Over.over w.deref_mut.result.now c.args.self.now w.in-Over.is w.deref_mut.ensures.value c.self.view_is in
      w.result-is
      ∙ over_reaches w.deref_mut.result.now.links held.links c.args.self.now is c.args.a c.args.b c.requires.0 c.requires.1 w.reaches-in-Over.result
      w.reaches-in-Over.ensures.ancestor
]
