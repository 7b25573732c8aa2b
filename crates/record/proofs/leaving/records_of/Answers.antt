use Rattle.std.proofs.Common.{◌*◌, List, [], ◌∷◌, ◌++◌, sym, subst}
use Rattle.std.specs.Prelude.{All}
use Rattle.std.proofs.lemmas.List.Elements.{All-push}
use Rattle.cluster.specs.Clusters.{Cluster}
use Rattle.record.specs.Leaving.{AreLike}
use Rattle.record.specs.Records.{IsFitted}
use Rattle.record.proofs.Following.{cost_more, like_more, split_more}
use Rattle.record.proofs.leaving.records_of.Goals as goal

pub loop-part-preserved : goal.loop-part-preserved
loop-part-preserved g c = record {
  split =
      split_more c.loop-part.yielded c.loop-part.part-iterator.rest.items c.next.new.self.rest.items c.args.parts.items c.in-Some.part
      c.loop-part.invariant.split c.in-Some.ensures.steps.0;
  like =
      subst (λ (cs : List Cluster). AreLike cs (c.loop-part.yielded ++ c.in-Some.part ∷ [])) (sym c.in_ok-push.ensures.items)
      (like_more c.loop-part.records.items c.loop-part.yielded c.in_ok-record.record c.in-Some.part c.loop-part.invariant.like c.in_ok-record.ensures.same);
  fitted =
      subst (λ (cs : List Cluster). All (IsFitted (64 * g.row.W) c.args.limits.now) cs) (sym c.in_ok-push.ensures.items)
      (All-push (IsFitted (64 * g.row.W) c.args.limits.now) c.loop-part.records.items c.in_ok-record.record c.loop-part.invariant.fitted
      c.in_ok-record.ensures.fitted);
  steps =
      cost_more c.args.limits.now c.loop-part.yielded c.in-Some.part c.args.steps.now c.loop-part.steps c.of_component.new.steps
      c.loop-part.invariant.steps c.in_ok-record.ensures.steps;
}
