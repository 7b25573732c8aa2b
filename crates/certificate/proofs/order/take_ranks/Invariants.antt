use Rattle.std.proofs.Common.{◌≡◌, ℕ, ◌<◌, length, slice_index, Some}
use Rattle.certificate.specs.Orders.{seat_at}
use Rattle.certificate.proofs.order.take_ranks.Given as goal

abbrev pub invariant-loop-place : goal.invariant-loop-place
invariant-loop-place l =
    (length l.ranks ≡ length l.seats) × ((k : ℕ) → k < l.place → seat_at l.seats k ≡ Some (slice_index l.ranks k))
