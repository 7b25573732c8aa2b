-- One cluster more has an order, or has none.
use Rattle.std.proofs.Common.{◌≡◌, [], length, refl, true≢false, sym, ap, ◌∙◌}
use Rattle.cluster.specs.Clusters.{Cluster}
use Rattle.cluster_store.proofs.Done.{no_items}
use Rattle.cluster_store.proofs.Lacking.{all_of, none_yet, one_more}
use Rattle.cluster_store.proofs.unordered.has_unordered.Goals as goal

pub loop-at-init : goal.loop-at-init
loop-at-init g c = none_yet (λ (d : Cluster). d.parts ≡ [] → ⊥) c.args.clusters.now

pub returns-then-part_count-eq0 : goal.returns-then-part_count-eq0
returns-then-part_count-eq0 g c = (
  λ _. (
    c.index-clusters-at.result,
    (c.loop-at.at, c.loop-at-test.true, sym c.index-clusters-at.is),
    no_items c.index-clusters-at.result.parts (sym c.part_count.ensures ∙ c.if-part_count-eq0.true),
  ),
  λ _. refl,
)

pub loop-at-preserved : goal.loop-at-preserved
loop-at-preserved g c =
    one_more (λ (d : Cluster). d.parts ≡ [] → ⊥) c.args.clusters.now c.loop-at.at c.index-clusters-at.result c.loop-at-test.true c.loop-at.invariant
    (λ none. c.if-part_count-eq0.false
    (c.part_count.ensures ∙ ap (λ (d : Cluster). length d.parts) c.index-clusters-at.is ∙ ap length none))

pub returns : goal.returns
returns g c = (
  λ none. absurd (true≢false (sym none)),
  λ (d, here, none). absurd (all_of (λ (d : Cluster). d.parts ≡ [] → ⊥) c.args.clusters.now c.loop-at.at c.loop-at-test.false
      c.loop-at.invariant d here none),
)
