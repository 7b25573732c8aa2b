-- The store tells it of the level's clusters.
use Rattle.std.proofs.Common.{◌↔◌, subst}
use Rattle.std.specs.Prelude.{IsTrue}
use Rattle.cluster_store.specs.Unordered.{LacksOrder}
use Rattle.levels.specs.Shelves.{Shelf}
use Rattle.levels.proofs.shelves.Shelves.is_oversized.Goals as goal

pub returns : goal.returns
returns g c =
    subst (λ (s : Shelf). IsTrue c.lacks_order.result ↔ LacksOrder c.args.level s.store.clusters) c.self.view_is c.lacks_order.ensures
