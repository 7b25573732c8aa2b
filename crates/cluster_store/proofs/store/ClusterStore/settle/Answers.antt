-- What stood in the level that stays stands in both, and the rest is gone.
use Rattle.std.proofs.Common.{ap, ◌∙◌}
use Rattle.std.specs.FinMap as finmap
use Rattle.cluster_store.specs.Stores.{Store, Numbered}
use Rattle.cluster_store.specs.Changes.{settled}
use Rattle.cluster_store.proofs.Kept.{shelved_at}
use Rattle.cluster_store.proofs.Settled.{kept_settled}
use Rattle.cluster_store.proofs.Shelves.{get_shelved}
use Rattle.cluster_store.proofs.Sizes.{stored_fits}
use Rattle.cluster_store.proofs.store.ClusterStore.settle.Goals as goal

pub settle-requires : goal.settle-requires
settle-requires g c = (stored_fits g.row.W c.self.invariant.kept.narrow, (c.self.invariant.kept.shown, c.self.invariant.unordered))

pub invariant_of-self : goal.invariant_of-self
invariant_of-self g c = record {
  kept = kept_settled g.row.W c.args.stays c.self.inside.slots.slots c.settle.new.slots.slots c.self.inside.index c.settle.new.index c.self.inside.least
      c.self.invariant.kept c.settle.ensures.settled c.settle.ensures.shown;
  unordered = c.settle.ensures.unordered;
}

pub returns-clause-settled : goal.returns-clause-settled
returns-clause-settled g c = λ number.
    ap (λ (m : Numbered). finmap.get m number) c.begin_anew.ensures.clusters ∙ get_shelved c.settle.new.slots.slots number ∙ c.settle.ensures.settled number
    ∙ ap (settled c.args.stays) (shelved_at c.self.inside.slots.slots number c.args.self.now.clusters (ap (λ (s : Store). s.clusters) c.self.view_is))
