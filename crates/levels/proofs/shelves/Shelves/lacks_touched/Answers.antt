-- The store tells it of what is stored under the number.
use Rattle.std.proofs.Common.{◌↔◌, Contains, arith, sym, ap, ◌∙◌, subst}
use Rattle.std.specs.Prelude.{IsTrue}
use Rattle.cluster.specs.Clusters.{Cluster}
use Rattle.levels.specs.Mining.{LacksTouched}
use Rattle.levels.specs.Shelves.{Shelf, stored_at}
use Rattle.levels.proofs.Seen.{slot_of, stored_of}
use Rattle.levels.proofs.shelves.Shelves.lacks_touched.Goals as goal

pub lacks-requires : goal.lacks-requires
lacks-requires g c =
    let (d, at, here) = c.requires.here in
    let s = slot_of c.self.inside.store.clusters c.args.number d (ap (λ (x : Shelf). stored_at x.store.clusters c.args.number) c.self.view_is ∙ at) in (
      omega arith,
      (
        (s.0, s.1, subst (λ (x : Cluster). Contains x.names c.args.id) (sym s.2) here),
        λ t a there inside. c.requires.named t.cluster a
            (sym (ap (λ (x : Shelf). stored_at x.store.clusters c.args.number) c.self.view_is) ∙ stored_of c.self.inside.store.clusters c.args.number t there)
            inside,
      ),
    )

pub returns-clause-lacks : goal.returns-clause-lacks
returns-clause-lacks g c d at =
    let s = slot_of c.self.inside.store.clusters c.args.number d (ap (λ (x : Shelf). stored_at x.store.clusters c.args.number) c.self.view_is ∙ at) in
    subst (λ (x : Cluster). IsTrue c.lacks.result ↔ LacksTouched x.graph c.args.rings.now c.args.id) s.2 (c.lacks.ensures.lacks s.0 s.1)
