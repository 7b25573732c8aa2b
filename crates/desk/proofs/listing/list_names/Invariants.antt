-- the names so far are listed
use Rattle.std.proofs.Common.{◌≡◌, ◌++◌}
use Rattle.desk.proofs.listing.list_names.Given as goal

abbrev pub invariant-loop-id : goal.invariant-loop-id
invariant-loop-id l = record { rest : l.fn.names ≡ l.yielded ++ l.id-iterator; listed : l.list.items ≡ l.yielded }
