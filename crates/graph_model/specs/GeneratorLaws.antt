-- Laws of the runs over generated commands.
use Rattle.std.specs.Prelude.{◌≡◌, ℕ, ◌+◌, ◌≤◌}
use Rattle.graph_model.specs.Limits.{default_limits}
use Rattle.graph_model.specs.CommandLines.{Generates, HasRange}
use Rattle.graph_model.specs.Generators.{Summary, Summarizes}

-- A summary counts each command once. Of all runs over the commands of a seed, those in which no command is refused for want of memory end
-- with one summary, whatever orders are picked: it is a function of seed and number.
pub record SummariesAreFunctions : Type 0 where
  pub each : (most seed count : ℕ) (summary : Summary) → Summarizes most seed count summary → summary.accepted + summary.refused + summary.memory ≡ count
  pub one : (most seed count : ℕ) (a b : Summary) → default_limits.count ≤ most → HasRange (Generates seed count)
      → Summarizes most seed count a → Summarizes most seed count b → a.memory ≡ 0 → b.memory ≡ 0 → a ≡ b
