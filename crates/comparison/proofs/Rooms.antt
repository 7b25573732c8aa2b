-- How many bytes a record takes that is stored: the same at each width, since wide sets lie in a box.
use Rattle.std.proofs.Common.{ℕ, ◌+◌, ◌<◌, ◌≤◌, lit<}

abbrev pub record_room : ℕ
record_room = 208

pub stored_fits : (w : ℕ) → w ≤ 2 → record_room + 8 < 9223372036854775808
stored_fits w narrow = lit< tt
