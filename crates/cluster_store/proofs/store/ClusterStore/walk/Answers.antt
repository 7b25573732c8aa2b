-- The entries of a level stand for its parts.
use Rattle.std.proofs.Common.{map, sym, ap, ◌∙◌, subst}
use Rattle.chunk_index.specs.Items.{is_in}
use Rattle.cluster_store.specs.Stores.{Stored, Store, shown_in, IsOrdered}
use Rattle.cluster_store.specs.Walks.{HasParts, shown_of}
use Rattle.cluster_store.proofs.Walks.{has_parts, is_ordered, walk_shows}
use Rattle.cluster_store.proofs.store.ClusterStore.walk.Goals as goal

pub new-requires : goal.new-requires
new-requires g c =
    subst (HasParts (λ (s : Stored). s.cluster.parts) c.self.inside.slots.slots) (sym c.walk.ensures.entries)
    (has_parts c.self.inside.slots.slots c.self.inside.index c.self.invariant.kept.shown (is_in c.args.level))

pub returns-clause-parts : goal.returns-clause-parts
returns-clause-parts g c =
    c.new.ensures ∙ ap (map (shown_of (λ (s : Stored). s.cluster.parts) c.self.inside.slots.slots)) c.walk.ensures.entries
    ∙ walk_shows c.self.inside.slots.slots c.self.inside.index c.self.invariant.kept.shown (is_in c.args.level) c.self.inside.least
    ∙ ap (shown_in c.args.level) c.self.view_is

pub returns-clause-order : goal.returns-clause-order
returns-clause-order g c =
    subst (λ (s : Store). IsOrdered s.clusters s.order) c.self.view_is
    (is_ordered c.self.inside.slots.slots c.self.inside.index c.self.invariant.kept.shown)
