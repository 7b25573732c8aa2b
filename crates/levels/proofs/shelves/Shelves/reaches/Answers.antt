-- The store tells it of what is stored under the number.
use Rattle.std.proofs.Common.{Contains, arith, sym, ap, ◌∙◌, subst}
use Rattle.graphs.specs.Closures.{is_ancestor}
use Rattle.cluster.specs.Clusters.{Cluster}
use Rattle.levels.specs.Shelves.{Shelf, stored_at}
use Rattle.levels.proofs.Seen.{slot_of}
use Rattle.levels.proofs.shelves.Shelves.reaches.Goals as goal

pub reaches-requires : goal.reaches-requires
reaches-requires g c =
    let (d, at, a_in, b_in) = c.requires in
    let s = slot_of c.self.inside.store.clusters c.args.number d (ap (λ (x : Shelf). stored_at x.store.clusters c.args.number) c.self.view_is ∙ at) in (
      omega arith,
      (
        s.0,
        s.1,
        subst (λ (x : Cluster). Contains x.names c.args.a) (sym s.2) a_in,
        subst (λ (x : Cluster). Contains x.names c.args.b) (sym s.2) b_in,
      ),
    )

pub returns-clause-ancestor : goal.returns-clause-ancestor
returns-clause-ancestor g c d at =
    let s = slot_of c.self.inside.store.clusters c.args.number d (ap (λ (x : Shelf). stored_at x.store.clusters c.args.number) c.self.view_is ∙ at) in
    c.reaches.ensures.ancestor s.0 s.1 ∙ ap (λ (x : Cluster). is_ancestor x.graph c.args.a c.args.b) s.2
