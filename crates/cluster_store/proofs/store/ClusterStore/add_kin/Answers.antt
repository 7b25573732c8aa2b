-- What is shelved under the number is what its slot has.
use Rattle.std.proofs.Common.{◌≡◌, ap, ◌∙◌}
use Rattle.std.specs.FinMap as finmap
use Rattle.cluster_store.specs.Stores.{Store}
use Rattle.cluster_store.specs.Kept.{at}
use Rattle.cluster_store.proofs.Kept.{shelved_at}
use Rattle.cluster_store.proofs.Sizes.{stored_fits}
use Rattle.cluster_store.proofs.store.ClusterStore.add_kin.Goals as goal

pub add_kin-requires : goal.add_kin-requires
add_kin-requires g c =
    let same : at c.self.inside.slots.slots c.args.number ≡ finmap.get c.args.self.now.clusters c.args.number =
    shelved_at c.self.inside.slots.slots c.args.number c.args.self.now.clusters (ap (λ (s : Store). s.clusters) c.self.view_is) in
    let (s, there, here, room) = c.requires in (
      stored_fits g.row.W c.self.invariant.kept.narrow,
      (s, same ∙ there, here, room),
    )

pub returns-clause-adds : goal.returns-clause-adds
returns-clause-adds g c = λ s there.
    c.add_kin.ensures.adds s
    (shelved_at c.self.inside.slots.slots c.args.number c.args.self.now.clusters (ap (λ (t : Store). t.clusters) c.self.view_is) ∙ there)
