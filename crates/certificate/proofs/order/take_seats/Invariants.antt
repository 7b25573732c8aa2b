use Rattle.std.proofs.Common.{take}
use Rattle.certificate.specs.Orders.{AreSeats}
use Rattle.certificate.specs.Tables.{names_of}
use Rattle.certificate.proofs.order.take_seats.Given as goal

abbrev pub invariant-loop-rank : goal.invariant-loop-rank
invariant-loop-rank l = AreSeats (names_of l.txs) (take l.rank l.order) l.seats
