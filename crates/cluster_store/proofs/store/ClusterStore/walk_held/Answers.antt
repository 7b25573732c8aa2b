-- The entries of a level stand for its parts.
use Rattle.std.proofs.Common.{rules, map, sym, ap, ◌∙◌, subst}
use Rattle.chunk_index.specs.Items.{is_in}
use Rattle.cluster_store.specs.Held.{MayWalk, held_at_entry, held_in}
use Rattle.cluster_store.specs.Stores.{Stored}
use Rattle.cluster_store.specs.Walks.{HasParts}
use Rattle.cluster_store.proofs.Sizes.{stored_fits}
use Rattle.cluster_store.proofs.Walks.{has_parts, walk_holds}
use Rattle.cluster_store.proofs.store.ClusterStore.walk_held.Goals as goal

pub new-requires : goal.new-requires
new-requires g c =
    let parts : HasParts (λ (s : Stored). s.cluster.parts) c.self.inside.slots.slots c.walk.result =
    subst (HasParts (λ (s : Stored). s.cluster.parts) c.self.inside.slots.slots) (sym c.walk.ensures.entries)
    (has_parts c.self.inside.slots.slots c.self.inside.index c.self.invariant.kept.shown (is_in c.args.level)) in
    let walks : MayWalk g.row.W c.self.inside.slots.slots c.walk.result = record { narrow = c.self.invariant.kept.narrow; parts = parts } in
    (stored_fits g.row.W c.self.invariant.kept.narrow, (search rules, walks))

pub returns : goal.returns
returns g c =
    c.new.ensures ∙ ap (map (held_at_entry c.self.inside.slots.slots)) c.walk.ensures.entries
    ∙ walk_holds c.self.inside.slots.slots c.self.inside.index c.self.invariant.kept.shown c.args.level c.self.inside.least
    ∙ ap (held_in c.args.level) c.self.view_is
