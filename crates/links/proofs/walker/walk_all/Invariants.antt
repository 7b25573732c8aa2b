use Rattle.std.proofs.Common.{ℕ, length, take, nat_eq}
use Rattle.std.specs.Prelude.{Contains, ◌↔◌}
use Rattle.std.specs.HashMap as hash
use Rattle.links.specs.Places.{IsPlaceOf}
use Rattle.links.specs.Walkers.{IsWalking}
use Rattle.links.proofs.walker.walk_all.Given as goal

abbrev pub invariant-loop-id : goal.invariant-loop-id
invariant-loop-id l = record {
  walking : IsWalking (length l.fn.walker.marks.items) l.walker;
  starts : (p : ℕ) → Contains l.walker.found.items p ↔ IsPlaceOf (hash.get nat_eq l.maps.places) (take l.id-index l.ids) p;
}
