-- Fewer parts are ahead at each turn.
use Rattle.std.proofs.Common.{length}
use Rattle.node_example.proofs.day.fill_by_hand.Given as goal

abbrev pub decreases-loop-chunk : goal.decreases-loop-chunk
decreases-loop-chunk l = length l.builder.ahead
