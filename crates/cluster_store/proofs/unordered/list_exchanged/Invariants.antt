-- the first ones are listed
use Rattle.std.proofs.Common.{◌≡◌, ℕ, true, nat_eq, take, [], Contains}
use Rattle.indexmap.specs.IndexSet.{contains}
use Rattle.cluster_store.specs.Stores.{Exchange}
use Rattle.cluster_store.proofs.unordered.list_exchanged.Given as goal

abbrev pub invariant-loop-at : goal.invariant-loop-at
invariant-loop-at g l = record {
  others : (n : ℕ) → contains nat_eq l.fn.over n ≡ true → contains nat_eq l.over n ≡ true;
  listed : (x : Exchange) → Contains (take l.at l.exchanged) x → x.cluster.parts ≡ [] → contains nat_eq l.over x.number ≡ true;
}
