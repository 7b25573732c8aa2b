-- The room of a record, of one with its tag and of one with its number: the same at each width, since wide sets lie in a box.
use Rattle.std.proofs.Common.{ℕ, ◌≤◌, lit<}
use Rattle.std.specs.Mem.{FitsInMemory}
use Rattle.record.specs.contracts.record.Record as kept
use Rattle.component.specs.contracts.component.Component as component
use Rattle.cluster_store.specs.contracts.stored.Exchange as exchange
use Rattle.cluster_store.specs.contracts.stored.Stored as stored
use denote.Param.{param, number}
use denote.RattleType.{RattleType}

pub cluster_in_exchange : (w : RattleType) → FitsInMemory (exchange.the_row w) → FitsInMemory (kept.the_row w)
cluster_in_exchange w fits = lit< tt

pub cluster_in_stored : (w : RattleType) → FitsInMemory (stored.the_row w) → FitsInMemory (kept.the_row w)
cluster_in_stored w fits = lit< tt

pub stored_fits : (w : ℕ) → w ≤ 64 → FitsInMemory (stored.the_row (param 0 (number w)))
stored_fits w narrow = lit< tt

pub exchange_fits : (w : ℕ) → w ≤ 64 → FitsInMemory (exchange.the_row (param 0 (number w)))
exchange_fits w narrow = lit< tt

pub cluster_fits : (w : ℕ) → w ≤ 64 → FitsInMemory (kept.the_row (param 0 (number w)))
cluster_fits w narrow = lit< tt

pub component_fits : (w : ℕ) → w ≤ 64 → FitsInMemory (component.the_row (param 0 (number w)))
component_fits w narrow = lit< tt
