use Rattle.std.proofs.Common.{◌≡◌, map, take}
use Rattle.places.specs.Chains.{turned}
use Rattle.links.proofs.ways.turned_steps.Given as goal

abbrev pub invariant-loop-step : goal.invariant-loop-step
invariant-loop-step l = l.list.items ≡ map turned (take l.step-index l.steps)
