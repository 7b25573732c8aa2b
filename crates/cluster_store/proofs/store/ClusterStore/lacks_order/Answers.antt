-- What is shelved under a number is what its slot has.
use Rattle.std.proofs.Common.{◌≡◌, ℕ, sym, ap, subst}
use Rattle.std.specs.FinMap as finmap
use Rattle.cluster_store.specs.Stores.{Store}
use Rattle.cluster_store.specs.Kept.{at}
use Rattle.cluster_store.specs.Unordered.{LacksOrderIn}
use Rattle.cluster_store.proofs.Kept.{shelved_at}
use Rattle.cluster_store.proofs.Sizes.{stored_fits}
use Rattle.cluster_store.proofs.store.ClusterStore.lacks_order.Goals as goal

pub lacks_order-requires : goal.lacks_order-requires
lacks_order-requires g c = (stored_fits g.row.W c.self.invariant.kept.narrow, c.self.invariant.unordered)

pub returns : goal.returns
returns g c =
    let same : (n : ℕ) → finmap.get c.args.self.now.clusters n ≡ at c.self.inside.slots.slots n =
    λ n. sym (shelved_at c.self.inside.slots.slots n c.args.self.now.clusters (ap (λ (s : Store). s.clusters) c.self.view_is)) in (
      λ yes.
          let lacks = c.lacks_order.ensures.0 yes in
          let here = subst (LacksOrderIn c.args.level) (sym (same lacks.0)) lacks.1 in (lacks.0, here.0, here.1, here.2),
      λ (n, d, seen, none). c.lacks_order.ensures.1 (n, subst (LacksOrderIn c.args.level) (same n) (d, seen, none)),
    )
