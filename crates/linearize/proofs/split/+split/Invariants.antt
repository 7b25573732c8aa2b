use Rattle.std.specs.FinSet as fin
use Rattle.linearize.proofs.split.+split.Given as goal

abbrev pub decreases-split : goal.decreases-split
decreases-split g l = fin.len l.within.now
