-- the first ones are listed, and there is room for the others
use Rattle.std.proofs.Common.{◌≡◌, ◌≤◌, ◌+◌, ℕ, true, nat_eq, take, Contains}
use Rattle.indexmap.specs.IndexSet.{contains, spare as room_of}
use Rattle.cluster_store.specs.Kept.{at}
use Rattle.cluster_store.specs.Unordered.{IsUnordered}
use Rattle.cluster_store.proofs.unordered.list_all.Given as goal

abbrev pub invariant-loop-at : goal.invariant-loop-at
invariant-loop-at g l = record {
  others : (n : ℕ) → contains nat_eq l.fn.over n ≡ true → contains nat_eq l.over n ≡ true;
  listed : (n : ℕ) → Contains (take l.at l.numbers) n → IsUnordered (at l.slots.slots n) → contains nat_eq l.over n ≡ true;
  room : room_of l.fn.over ≤ room_of l.over + l.at;
}
