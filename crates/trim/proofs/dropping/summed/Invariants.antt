-- the sum so far
use Rattle.std.proofs.Common.{◌≡◌, take}
use Rattle.fee_rate.specs.Rates.{sum_from}
use Rattle.graphs.specs.Closures.{rate_of}
use Rattle.graphs.specs.declared.names.Level.TheVariants.{Top}
use Rattle.graphs.specs.Rates.{sums}
use Rattle.levels.specs.Levels.{level_at}
use Rattle.trim.proofs.dropping.summed.Given as goal

abbrev pub invariant-loop-id : goal.invariant-loop-id
invariant-loop-id g l = l.sum ≡ sums (λ id. sum_from (rate_of (level_at l.fn.graph.levels Top).graph id)) (take l.id-index l.fn.ids)
