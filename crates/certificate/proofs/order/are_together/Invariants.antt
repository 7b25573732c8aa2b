use Rattle.std.proofs.Common.{ℕ, ◌<◌, nat_eq}
use Rattle.std.specs.HashMap as hash
use Rattle.certificate.specs.Orders.{AreOfOneGroup}
use Rattle.certificate.specs.Parts.{ids_at}
use Rattle.certificate.proofs.order.are_together.Given as goal

abbrev pub invariant-loop-part : goal.invariant-loop-part
invariant-loop-part l = (k : ℕ) → k < l.part-index → AreOfOneGroup (hash.get nat_eq l.names) l.groups (ids_at l.parts k)
