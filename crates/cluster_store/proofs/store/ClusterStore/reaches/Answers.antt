-- What is shelved under the number is what its slot has.
use Rattle.std.proofs.Common.{◌≡◌, ap, ◌∙◌}
use Rattle.std.specs.FinMap as finmap
use Rattle.cluster_store.specs.Stores.{Store}
use Rattle.cluster_store.specs.Kept.{at}
use Rattle.cluster_store.proofs.Kept.{shelved_at}
use Rattle.cluster_store.proofs.Sizes.{stored_fits}
use Rattle.cluster_store.proofs.store.ClusterStore.reaches.Goals as goal

pub reaches-requires : goal.reaches-requires
reaches-requires g c =
    let same : at c.self.inside.slots.slots c.args.number ≡ finmap.get c.args.self.now.clusters c.args.number =
    shelved_at c.self.inside.slots.slots c.args.number c.args.self.now.clusters (ap (λ (s : Store). s.clusters) c.self.view_is) in
    let (s, there, a, b) = c.requires in (stored_fits g.row.W c.self.invariant.kept.narrow, (s, same ∙ there, a, b))

pub returns-clause-ancestor : goal.returns-clause-ancestor
returns-clause-ancestor g c = λ s there.
    c.reaches.ensures.ancestor s
    (shelved_at c.self.inside.slots.slots c.args.number c.args.self.now.clusters (ap (λ (t : Store). t.clusters) c.self.view_is) ∙ there)
