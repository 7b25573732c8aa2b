use Rattle.std.proofs.Common.{List, [], ◌∷◌, ◌++◌, sym, ap, ◌∙◌}
use Rattle.cluster.specs.Clusters.{Cluster}
use Rattle.record.proofs.Following.{split_more, split_all, none_left}
use Rattle.record.proofs.leaving.all_within.Goals as goal

pub loop-component-init : goal.loop-component-init
loop-component-init g c = record { split = c.into_iter-component-iterator.ensures.into_iter_gives.0; same = c.new-records.ensures.items }

pub loop-component-preserved : goal.loop-component-preserved
loop-component-preserved g c = record {
  split =
      split_more c.loop-component.yielded c.loop-component.component-iterator.rest.items c.next.new.self.rest.items c.args.components.items
      c.in-Some.component c.loop-component.invariant.split c.in-Some.ensures.steps.0;
  same =
      c.in_ok-push.ensures.items ∙ ap (λ (cs : List Cluster). cs ++ c.within.result ∷ []) c.loop-component.invariant.same
      ∙ ap (λ (x : Cluster). c.loop-component.yielded ++ x ∷ []) c.within.ensures;
}

pub returns : goal.returns
returns g c =
    c.loop-component.invariant.same ∙ split_all c.loop-component.yielded c.loop-component.component-iterator.rest.items c.args.components.items
    c.loop-component.invariant.split (none_left c.loop-component.component-iterator.rest.items
    (sym c.loop-component.component-iterator.rest.ok.0 ∙ c.in-None.ensures.steps.0))
