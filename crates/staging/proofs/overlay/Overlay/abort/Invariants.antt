use Rattle.std.proofs.Common.{◌≡◌, ◌≤◌, length}
use Rattle.indexmap.specs.IndexMap.{spare as room_of}
use Rattle.staging.proofs.overlay.Overlay.abort.Given as goal

abbrev pub invariant-loop : goal.invariant-loop
invariant-loop g l =
    (l.self-inside.base ≡ l.initial.self-inside.base) × (l.self-inside.spare ≡ l.initial.self-inside.spare)
    × (l.self-inside.spare ≤ room_of l.self-inside.changes)

abbrev pub decreases-loop : goal.decreases-loop
decreases-loop g l = length l.self-inside.changes.entries
