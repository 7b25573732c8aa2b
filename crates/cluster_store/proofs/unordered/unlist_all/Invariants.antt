-- those without an order are listed still
use Rattle.std.proofs.Common.{◌≡◌, ◌≤◌, ℕ, true, nat_eq}
use Rattle.indexmap.specs.IndexSet.{contains, spare as room_of}
use Rattle.cluster_store.specs.Kept.{at}
use Rattle.cluster_store.specs.Unordered.{IsUnordered}
use Rattle.cluster_store.proofs.unordered.unlist_all.Given as goal

abbrev pub invariant-loop-at : goal.invariant-loop-at
invariant-loop-at g l = record {
  unordered : (n : ℕ) → IsUnordered (at l.slots.slots n) → contains nat_eq l.fn.over n ≡ true → contains nat_eq l.over n ≡ true;
  room : room_of l.fn.over ≤ room_of l.over;
}
