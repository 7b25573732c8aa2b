-- The store puts them of what is stored under the number.
use Rattle.std.proofs.Common.{ℕ, Contains, ◌≤◌, length, arith, sym, ap, ◌∙◌, subst}
use Rattle.graphs.specs.Unions.{IsKinOfSome, PutsBehind}
use Rattle.cluster.specs.Clusters.{Cluster}
use Rattle.levels.specs.Shelves.{Shelf, stored_at}
use Rattle.levels.proofs.Seen.{slot_of}
use Rattle.levels.proofs.shelves.Shelves.add_kin.Goals as goal

pub add_kin-requires : goal.add_kin-requires
add_kin-requires g c =
    let (d, at, here, room) = c.requires in
    let s = slot_of c.self.inside.store.clusters c.args.number d (ap (λ (x : Shelf). stored_at x.store.clusters c.args.number) c.self.view_is ∙ at) in (
      omega arith,
      (
        s.0,
        s.1,
        subst (λ (x : Cluster). (id : ℕ) → Contains c.args.ids.now id → Contains x.names id) (sym s.2) here,
        subst (λ (x : Cluster). length x.names ≤ c.args.out.now.room) (sym s.2) room,
      ),
    )

pub returns-clause-adds : goal.returns-clause-adds
returns-clause-adds g c d at =
    let s = slot_of c.self.inside.store.clusters c.args.number d (ap (λ (x : Shelf). stored_at x.store.clusters c.args.number) c.self.view_is ∙ at) in
    subst (λ (x : Cluster). PutsBehind (IsKinOfSome c.args.kin x.graph c.args.ids.now) c.args.out.now.ids c.add_kin.new.out.ids) s.2
    (c.add_kin.ensures.adds s.0 s.1)
