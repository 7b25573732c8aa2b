-- the parts so far are listed
use Rattle.std.proofs.Common.{◌≡◌, ◌++◌, map}
use Rattle.cluster_store.specs.Lent.{lent}
use Rattle.desk.specs.Copies.{IsListed}
use Rattle.desk.proofs.listing.list_parts.Given as goal

abbrev pub invariant-loop-part : goal.invariant-loop-part
invariant-loop-part l = record { rest : l.fn.parts ≡ map lent l.yielded ++ l.part-iterator; listed : IsListed (map lent l.yielded) l.list }
