-- How much may still come after a read.
use Rattle.std.proofs.Common.{◌≡◌, ℕ, ◌+◌, ◌-◌, ◌<◌, ◌≤◌, Bool, List, ◌++◌, length, ap, arith}
use Rattle.graph_model.specs.Lines.{max_input}
use Rattle.replay.specs.declared.lines.Stage.{Stage}
use Rattle.replay.specs.declared.lines.Stage.TheVariants.{Open, Ended, Past}
use Rattle.replay.specs.Cuts.{CountsWithin, weight, stage_rank}
use Rattle.replay.proofs.CutLemmas.{weight-append}

-- what is held grows by what was taken
pub ahead_read : (was long : Bool) (before shown now more : List ℕ) (taken sum : ℕ)
    → weight long shown ≤ weight was before → now ≡ shown ++ more → sum ≡ taken + length more
    → sum ≤ max_input → (max_input - sum) + weight long now ≤ (max_input - taken) + weight was before
ahead_read was long before shown now more taken sum lighter is grew within =
    omega (arith, lighter, ap (weight long) is, weight-append long shown more, grew, within)

-- a read takes some, or ends the reading
pub fewer_reads : (stage : Stage) (taken sum : ℕ) (more past : List ℕ) → CountsWithin stage sum more past → sum ≡ taken + length more → taken ≤ max_input
    → (max_input - sum) + stage_rank stage < (max_input - taken) + 1
fewer_reads Open taken sum more past counts grew within = omega (arith, counts.0, counts.1, grew, within)
fewer_reads Ended taken sum more past counts grew within = omega (arith, ap length counts.1, grew, within)
fewer_reads Past taken sum more past counts grew within = omega (arith, counts.0, grew, within)
