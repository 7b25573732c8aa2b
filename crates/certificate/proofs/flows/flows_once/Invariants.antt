use Rattle.std.proofs.Common.{◌+◌, ◌≤◌, ◌&&◌, nat_eq, length}
use Rattle.std.specs.HashSet as bag
use Rattle.certificate.specs.Accounts.{ends_of}
use Rattle.certificate.proofs.Sets.{IsUpto}
use Rattle.certificate.proofs.flows.flows_once.Given as goal

abbrev pub invariant-loop-flow : goal.invariant-loop-flow
invariant-loop-flow l =
    IsUpto (λ q. bag.contains (λ x y. nat_eq x.0 y.0 && nat_eq x.1 y.1) l.seen q) (ends_of l.flows) l.flow-index
    × (length l.flows ≤ bag.spare l.seen + l.flow-index)
