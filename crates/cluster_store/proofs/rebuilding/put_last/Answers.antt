-- One cluster comes in, or none.
use Rattle.std.proofs.Common.{[], Option, None, sym, subst}
use Rattle.cluster.specs.Clusters.{Cluster}
use Rattle.cluster_store.specs.Kept.{shelved}
use Rattle.cluster_store.specs.Tops.{TopChanges}
use Rattle.cluster_store.proofs.Turning.{none_comes}
use Rattle.cluster_store.proofs.rebuilding.put_last.Goals as goal

pub returns-in-None-clause-put : goal.returns-in-None-clause-put
returns-in-None-clause-put g c =
    let old = shelved c.args.slots.now.slots in
    let new = shelved c.leave_top.new.slots.slots in
    subst (λ (o : Option Cluster). TopChanges c.args.staged c.args.outs.now [] None [] o old new) (sym c.in-None.is)
    (none_comes c.args.staged c.args.outs.now old new c.leave_top.ensures.out)
