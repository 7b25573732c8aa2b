-- the numbers so far are listed
use Rattle.std.proofs.Common.{◌≡◌, ◌++◌, map}
use Rattle.cluster_store.specs.Walks.{shown_part}
use Rattle.cluster_store.specs.Stores.{Shown}
use Rattle.desk.proofs.listing.list_numbers.Given as goal

abbrev pub invariant-loop-shown : goal.invariant-loop-shown
invariant-loop-shown l = record { rest : l.fn.parts ≡ map shown_part l.yielded ++ l.shown-iterator; listed : l.list.items ≡ map (λ (s : Shown). s.number) (map shown_part l.yielded) }
