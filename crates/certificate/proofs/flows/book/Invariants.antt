use Rattle.std.proofs.Common.{take, nat_eq}
use Rattle.std.specs.HashMap as hash
use Rattle.graphs.specs.Certificates.{given, gotten}
use Rattle.certificate.proofs.Bookings.{Nets}
use Rattle.certificate.proofs.flows.book.Given as goal

abbrev pub invariant-loop-flow : goal.invariant-loop-flow
invariant-loop-flow l = Nets (hash.get nat_eq l.names) l.part (given (take l.flow-index l.flows)) (gotten (take l.flow-index l.flows)) l.fn.accounts l.accounts
