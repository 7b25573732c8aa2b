-- A touched name is dropped, or the names of its cluster are settled.
use Rattle.std.proofs.Common.{◌≡◌, ◌*◌, ℕ, List, sym, ap, subst, ◌∙◌}
use Rattle.std.proofs.lemmas.Option.{same_Some}
use Rattle.cluster.specs.Clusters.{Cluster}
use Rattle.levels.specs.Settling.{SettlesAll}
use Rattle.levels.specs.Shelves.{view_of}
use Rattle.levels.proofs.Seen.{seen_is_stored}
use Rattle.levels.proofs.Settlements.{dropped, release_settles, released}
use Rattle.levels.proofs.Standing.{indexed_at}
use Rattle.levels.proofs.settling.settle_first.Given as given
use Rattle.levels.proofs.settling.settle_first.Goals as goal

abbrev cluster : (g : given.Over) (c : goal.After-settle_names g) → Cluster
cluster g c = c.in-Some.ensures.stands.0

settled : (g : given.Over) (c : goal.After-settle_names g) → SettlesAll c.args.stays (cluster g c).names c.args.rings.now c.settle_names.new.rings
settled g c =
    let stands = c.in-Some.ensures.stands in
    let stored = seen_is_stored c.args.stays c.args.shelves.now.store.clusters c.in-Some.number stands.0 stands.1 in
    let names : c.names.result.now ≡ stands.0.names = c.names.ensures.names ∙ ap (λ (e : Cluster). e.names) (same_Some c.at.result.now stands.0 (sym c.at.ensures ∙ stored)) in
    subst (λ (xs : List ℕ). SettlesAll c.args.stays xs c.args.rings.now c.settle_names.new.rings) names c.settle_names.ensures

pub returns-in-Some-clause-settling : goal.returns-in-Some-clause-settling
returns-in-Some-clause-settling g c =
    let stands = c.in-Some.ensures.stands in
    released c.args.stays (64 * g.row.W) (view_of c.args.stays c.args.shelves.now) (indexed_at g.row.W c.args.stays c.args.shelves.now c.requires.order)
    c.in-Some.number c.args.id stands.0 stands.1 stands.2 c.args.rings.now c.settle_names.new.rings c.requires.settling c.requires.touched (settled g c)

pub returns-in-Some-clause-settles : goal.returns-in-Some-clause-settles
returns-in-Some-clause-settles g c =
    let stands = c.in-Some.ensures.stands in
    release_settles c.args.stays (64 * g.row.W) (view_of c.args.stays c.args.shelves.now) (indexed_at g.row.W c.args.stays c.args.shelves.now c.requires.order)
    c.in-Some.number c.args.id stands.0 stands.1 stands.2 c.args.rings.now c.settle_names.new.rings c.requires.settling c.requires.touched (settled g c)

pub returns-in-None-clause-settling : goal.returns-in-None-clause-settling
returns-in-None-clause-settling g c =
    dropped c.args.stays (64 * g.row.W) (view_of c.args.stays c.args.shelves.now) (indexed_at g.row.W c.args.stays c.args.shelves.now c.requires.order)
    c.args.id c.args.rings.now c.forget.new.self c.requires.settling (sym c.in-None.ensures.number) c.forget.ensures
