use Rattle.std.proofs.Common.{◌≡◌, take}
use Rattle.certificate.specs.Parts.{order_of}
use Rattle.certificate.proofs.order.ids_of.Given as goal

abbrev pub invariant-loop-part : goal.invariant-loop-part
invariant-loop-part l = l.order.items ≡ order_of (take l.part-index l.parts)
