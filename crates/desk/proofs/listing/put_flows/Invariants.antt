-- the flows so far stand behind the others
use Rattle.std.proofs.Common.{◌≡◌, ◌++◌, map, take}
use Rattle.desk.specs.Copies.{flow_words}
use Rattle.desk.proofs.listing.put_flows.Given as goal

abbrev pub invariant-loop-flow : goal.invariant-loop-flow
invariant-loop-flow l = l.list.items ≡ l.fn.list.items ++ map flow_words (take l.flow-index l.flows)
