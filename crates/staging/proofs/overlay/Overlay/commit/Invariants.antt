use Rattle.std.proofs.Common.{◌≡◌, ◌+◌, ◌≤◌, length}
use Rattle.indexmap.specs.IndexMap.{spare as room_of}
use Rattle.staging.specs.Changes.{map_of_entries, applied}
use Rattle.staging.proofs.overlay.Overlay.commit.Given as goal

abbrev pub invariant-loop-self : goal.invariant-loop-self
invariant-loop-self g l =
    (applied (map_of_entries l.self-inside.base.entries) l.self-inside.changes.entries
    ≡ applied (map_of_entries l.initial.self-inside.base.entries) l.initial.self-inside.changes.entries)
    × (l.self-inside.spare ≡ l.initial.self-inside.spare)
    × (length l.self-inside.changes.entries + l.self-inside.spare ≤ room_of l.self-inside.base)
    × (l.self-inside.spare ≤ room_of l.self-inside.changes)

abbrev pub decreases-loop-self : goal.decreases-loop-self
decreases-loop-self g l = length l.self-inside.changes.entries
