use Rattle.std.proofs.Common.{◌≡◌, ℕ, length, ◌≤◌}
use Rattle.std.specs.Prelude.{Contains, vec_capacity}
use Rattle.trimming.specs.Nets.{list_at}
use Rattle.trimming.proofs.buckets.empty_lists.Given as goal

abbrev pub invariant-loop : goal.invariant-loop
invariant-loop l = record {
  sized : length l.lists.items ≡ l.counter;
  space : l.count ≤ vec_capacity l.lists;
  empty : (i x : ℕ) → Contains (list_at l.lists.items i) x → ⊥;
}
