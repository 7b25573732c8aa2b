-- Nothing is counted exactly where nothing is shelved.
use Rattle.std.proofs.Common.{◌*◌, sym, ◌∙◌, subst}
use Rattle.cluster_store.specs.Stores.{Store, IsStore}
use Rattle.cluster_store.specs.Changes.{EndsAt}
use Rattle.cluster_store.proofs.Kept.{kept_anew, kept_store}
use Rattle.cluster_store.proofs.Shelves.{ends_anew, ends_still}
use Rattle.cluster_store.proofs.store.ClusterStore.begin_anew.Goals as goal

pub returns-then-is_empty-clause-least : goal.returns-then-is_empty-clause-least
returns-then-is_empty-clause-least g c = ends_anew c.self.inside.slots.slots c.args.self.now.least (sym c.is_empty.ensures ∙ c.if-is_empty.true)

pub returns-else-is_empty-clause-least : goal.returns-else-is_empty-clause-least
returns-else-is_empty-clause-least g c =
    subst (λ (s : Store). EndsAt s.clusters c.args.self.now.least c.args.self.now.least) c.self.view_is
    (ends_still c.self.inside.slots.slots c.args.self.now.least (sym c.is_empty.ensures ∙ c.if-is_empty.false))

pub returns-then-is_empty-clause-store : goal.returns-then-is_empty-clause-store
returns-then-is_empty-clause-store g c =
    kept_store g.row.W c.self.inside.slots.slots c.self.inside.index 18446744073709551615
    (kept_anew g.row.W c.self.inside.slots.slots c.self.inside.index c.self.inside.least 18446744073709551615
    (sym c.is_empty.ensures ∙ c.if-is_empty.true) c.self.invariant.kept)

pub returns-else-is_empty-clause-store : goal.returns-else-is_empty-clause-store
returns-else-is_empty-clause-store g c =
    subst (IsStore (64 * g.row.W)) c.self.view_is
    (kept_store g.row.W c.self.inside.slots.slots c.self.inside.index c.self.inside.least c.self.invariant.kept)
