-- Steps (to, from) between places.
use Rattle.std.specs.Prelude.{◌≡◌, ℕ, length}
use Rattle.places.specs.Chains.{AreChains, AreWithin}
use Rattle.links.specs.declared.ways.Ways.{Ways}

-- the ways of so many places
pub record AreWays (count : ℕ) (ways : Ways) : Type 0 where
  pub within : AreWithin count ways.steps.items
  pub sized : length ways.chains.last.items ≡ count
  pub chains : AreChains ways.steps.items ways.chains.last.items ways.chains.before.items
