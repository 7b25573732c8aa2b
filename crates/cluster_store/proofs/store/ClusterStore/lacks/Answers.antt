-- What is shelved under the number is what its slot has.
use Rattle.std.proofs.Common.{◌≡◌, ap, ◌∙◌, sym}
use Rattle.std.specs.FinMap as finmap
use Rattle.cluster_store.specs.Stores.{Store}
use Rattle.cluster_store.specs.Kept.{at}
use Rattle.cluster_store.proofs.Kept.{shelved_at}
use Rattle.cluster_store.proofs.Sizes.{stored_fits}
use Rattle.cluster_store.proofs.store.ClusterStore.lacks.Goals as goal

pub lacks-requires : goal.lacks-requires
lacks-requires g c =
    let same : at c.self.inside.slots.slots c.args.number ≡ finmap.get c.args.self.now.clusters c.args.number =
    shelved_at c.self.inside.slots.slots c.args.number c.args.self.now.clusters (ap (λ (s : Store). s.clusters) c.self.view_is) in
    let (s, there, here) = c.requires.here in (
      stored_fits g.row.W c.self.invariant.kept.narrow,
      ((s, same ∙ there, here), λ t a is. c.requires.known t a (sym same ∙ is)),
    )

pub returns-clause-lacks : goal.returns-clause-lacks
returns-clause-lacks g c = λ s there.
    c.lacks.ensures.lacks s
    (shelved_at c.self.inside.slots.slots c.args.number c.args.self.now.clusters (ap (λ (t : Store). t.clusters) c.self.view_is) ∙ there)
