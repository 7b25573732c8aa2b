use Rattle.std.proofs.Common.{List, [], ◌∷◌, ◌++◌, sym, ap, ◌∙◌}
use Rattle.cluster.specs.Clusters.{Cluster}
use Rattle.component.proofs.Following.{split_more, split_all, none_left}
use Rattle.component.proofs.pieces.narrow_all.Goals as goal

pub loop-cluster-init : goal.loop-cluster-init
loop-cluster-init g c = record { split = c.into_iter-cluster-iterator.ensures.into_iter_gives.0; same = c.new-components.ensures.items }

pub loop-cluster-preserved : goal.loop-cluster-preserved
loop-cluster-preserved g c = record {
  split =
      split_more c.loop-cluster.yielded c.loop-cluster.cluster-iterator.rest.items c.next.new.self.rest.items c.args.clusters.items c.in-Some.cluster
      c.loop-cluster.invariant.split c.in-Some.ensures.steps.0;
  same =
      c.in_ok-push.ensures.items ∙ ap (λ (cs : List Cluster). cs ++ c.narrow.result ∷ []) c.loop-cluster.invariant.same
      ∙ ap (λ (x : Cluster). c.loop-cluster.yielded ++ x ∷ []) c.narrow.ensures;
}

pub returns : goal.returns
returns g c =
    c.loop-cluster.invariant.same ∙ split_all c.loop-cluster.yielded c.loop-cluster.cluster-iterator.rest.items c.args.clusters.items
    c.loop-cluster.invariant.split (none_left c.loop-cluster.cluster-iterator.rest.items
    (sym c.loop-cluster.cluster-iterator.rest.ok.0 ∙ c.in-None.ensures.steps.0))
