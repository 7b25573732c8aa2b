use Rattle.std.proofs.Common.{length}
use Rattle.node_pool.proofs.block.Block.drop.Given as goal

abbrev pub decreases-loop-self : goal.decreases-loop-self
decreases-loop-self g l = length l.self.items
