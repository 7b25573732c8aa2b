use Rattle.std.proofs.Common.{◌≡◌, ◌↔◌, ◌<◌, ℕ, false}
use Rattle.std.specs.Prelude.{Contains}
use Rattle.lists.specs.Distinct.{AreDistinct}
use Rattle.links.specs.Walkers.{mark_at}
use Rattle.trimming.specs.Nets.{name_at}
use Rattle.trimming.proofs.dropped.unkept.Given as goal

abbrev pub invariant-loop-place : goal.invariant-loop-place
invariant-loop-place l = record {
  once : AreDistinct l.ids.items;
  exact : (id : ℕ) → Contains l.ids.items id ↔ ((p : ℕ) × (p < l.place) × (mark_at l.kept p ≡ false) × (name_at l.txs p ≡ id));
}
