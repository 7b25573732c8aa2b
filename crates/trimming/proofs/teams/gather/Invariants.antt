use Rattle.std.proofs.Common.{ℕ, length, take, ◌≤◌}
use Rattle.std.specs.Prelude.{Contains}
use Rattle.trimming.specs.Nets.{list_at, IsParent}
use Rattle.trimming.specs.Ties.{AreTied, Or}
use Rattle.trimming.specs.Rooms.{IsFinding}
use Rattle.trimming.specs.Teams.{AreWhole, IsKept}
use Rattle.trimming.proofs.teams.gather.Given as goal

abbrev pub invariant-loop-parent : goal.invariant-loop-parent
invariant-loop-parent l = record {
  finding : IsFinding (length l.net.txs.items) l.room;
  whole : AreWhole l.net l.teams l.room.found.items;
  sound : (x : ℕ) → Contains l.room.found.items x → AreTied (IsParent l.net) (Or (IsKept l.teams) l.place) l.place x;
  here : Contains l.room.found.items l.place;
  all : length l.room.found.items ≤ l.most → (a : ℕ) → Contains (take l.parent-index (list_at l.net.parents.items l.place)) a → Contains l.room.found.items a;
}
