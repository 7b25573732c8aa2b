use Rattle.std.proofs.Common.{◌≡◌, ℕ, ◌<◌, []}
use Rattle.certificate.specs.Groups.{HasGroup, IsGrouping}
use Rattle.certificate.proofs.groups.groups_of.Given as goal

abbrev pub invariant-loop-place : goal.invariant-loop-place
invariant-loop-place l = record {
  grouping : IsGrouping l.steps.items l.count l.walk.groups.items l.walk.waiting.items;
  none : l.walk.waiting.items ≡ [];
  all : (k : ℕ) → k < l.place → HasGroup l.count l.walk.groups.items k;
}
