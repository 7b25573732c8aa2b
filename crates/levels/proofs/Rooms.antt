-- How many bytes values take that hold components or records: the same at each width, since wide sets lie in boxes; but for a walk over covers.
use Rattle.std.proofs.Common.{ℕ, ◌+◌, ◌*◌, ◌<◌, ◌≤◌, lit<}

abbrev pub component_room : ℕ
component_room = 200

-- a component or what is over the limits
abbrev pub record_room : ℕ
record_room = 208

pub cluster_fits : (w : ℕ) → w ≤ 2 → component_room < 9223372036854775808
cluster_fits w narrow = lit< tt

pub record_fits : (w : ℕ) → w ≤ 2 → record_room < 9223372036854775808
record_fits w narrow = lit< tt

pub stored_fits : (w : ℕ) → w ≤ 2 → record_room + 8 < 9223372036854775808
stored_fits w narrow = lit< tt

pub exchange_fits : (w : ℕ) → w ≤ 2 → record_room + 8 < 9223372036854775808
exchange_fits w narrow = lit< tt

pub work_fits : (w : ℕ) → w ≤ 2 → 16 < 9223372036854775808
work_fits w narrow = lit< tt

-- what is left of some clusters
pub left_fits : (w : ℕ) → w ≤ 2 → record_room + 56 < 9223372036854775808
left_fits w narrow = lit< tt

-- what comes in
pub news_fits : (w : ℕ) → w ≤ 2 → record_room + 40 < 9223372036854775808
news_fits w narrow = lit< tt
