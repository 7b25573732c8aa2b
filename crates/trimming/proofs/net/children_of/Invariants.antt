use Rattle.std.proofs.Common.{◌≡◌, ◌↔◌, ℕ, length, take}
use Rattle.std.specs.Prelude.{Contains}
use Rattle.trimming.specs.Nets.{list_at}
use Rattle.trimming.proofs.net.children_of.Given as goal

abbrev pub invariant-loop-step : goal.invariant-loop-step
invariant-loop-step l = record {
  sized : length l.children.items ≡ l.count;
  exact : (a b : ℕ) → Contains (list_at l.children.items a) b ↔ Contains {X = ℕ × ℕ} (take l.step-index l.steps) (a, b);
}
