-- Each step past a chunk leaves fewer ahead.
use Rattle.node_example.proofs.day.fill_by_hand.Goals as goal

pub loop-chunk-smaller-then-chunk-left : goal.loop-chunk-smaller-then-chunk-left
loop-chunk-smaller-then-chunk-left c = c.in_ok-skip.ensures.past.1

pub loop-chunk-smaller : goal.loop-chunk-smaller
loop-chunk-smaller c = c.include.ensures.1
