-- what the base and the changed keys make together stays, and the room that is used up is that of the keys that were written
use Rattle.std.proofs.Common.{◌≡◌, ◌+◌, ◌-◌, ◌≤◌}
use Rattle.indexmap.specs.IndexMap.{index_map_len, spare as room_of}
use Rattle.staging.specs.Changes.{map_of_entries, applied}
use Rattle.staging.proofs.overlay.commit_few.Given as goal

abbrev pub invariant-loop-place : goal.invariant-loop-place
invariant-loop-place g l =
    (applied (map_of_entries l.base.entries) l.changes.entries ≡ applied (map_of_entries l.fn.base.entries) l.fn.changes.entries)
    × (index_map_len l.changes ≡ index_map_len l.fn.changes - l.place-index)
    × (room_of l.fn.base + index_map_len l.changes ≤ room_of l.base + index_map_len l.fn.changes)
    × (room_of l.fn.changes ≤ room_of l.changes)
