-- What is stored under the number is what its slot has.
use Rattle.std.proofs.Common.{rules, ◌≡◌, ℕ, ◌≤◌, length, Contains, arith, subst}
use Rattle.cluster_store.specs.Stores.{Stored}
use Rattle.cluster_store.proofs.ancestry.add_kin.Goals as goal

pub add_kin-requires : goal.add_kin-requires
add_kin-requires g c =
    let (s, at, here, room) = c.requires in
    let is : s ≡ c.in-Some.stored.now = search rules in (
      omega arith,
      (
        subst (λ (x : Stored). (id : ℕ) → Contains c.args.ids.now id → Contains x.cluster.names id) is here,
        subst (λ (x : Stored). length x.cluster.names ≤ c.args.out.now.room) is room,
      ),
    )
