use Rattle.std.proofs.Common.{◌+◌, ◌≤◌, ◌&&◌, nat_eq, length}
use Rattle.std.specs.HashSet as bag
use Rattle.certificate.proofs.Sets.{IsUpto}
use Rattle.certificate.proofs.names.take_edges.Given as goal

abbrev pub invariant-loop-edge : goal.invariant-loop-edge
invariant-loop-edge l =
    IsUpto (λ q. bag.contains (λ x y. nat_eq x.0 y.0 && nat_eq x.1 y.1) l.set q) l.edges l.edge-index × (length l.edges ≤ bag.spare l.set + l.edge-index)
