use Rattle.std.proofs.Common.{◌≡◌, ℕ, ◌<◌, slice_index, nat_eq, Some}
use Rattle.std.specs.HashMap as hash
use Rattle.certificate.proofs.order.is_together.Given as goal

abbrev pub invariant-loop-id : goal.invariant-loop-id
invariant-loop-id l = (k p : ℕ) → k < l.id-index → hash.get nat_eq l.names (slice_index l.ids k) ≡ Some p → slice_index l.groups p ≡ l.group
