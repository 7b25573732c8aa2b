use Rattle.std.proofs.Common.{rules, ℕ, ◌*◌, subst, to_z-of_z, refl, sym, ap, ◌∙◌, arith}
use Rattle.std.specs.FinSet as fin
use Rattle.graphs.specs.Closures.{AddsPlace}
use Rattle.dep_graph.specs.Rows.{IsKept, graph_from}
use Rattle.dep_graph.proofs.Kept.{keeps, inside, members_of-kept, IsClosed-kept}
use Rattle.dep_graph.proofs.Added.{free_low, contains-only}
use Rattle.dep_graph.proofs.Changed.{place_keeps, place_is}
use Rattle.dep_graph.proofs.graph.DepGraph.add.Goals as goal

pub insert-requires : goal.insert-requires
insert-requires g c =
    let k = keeps c.self.invariant c.self.view_is in
    let place = c.free_place-place.result in
    let low = free_low (64 * g.row.W) place c.len.result c.self.inside.members _ (inside k) (members_of-kept k) c.requires
    c.free_place-place.ensures.least c.free_place-place.ensures.within (omega (arith, c.self.invariant.room, c.len.ensures.value)) in
    (search rules, low)

pub insert-requires-2 : goal.insert-requires-2
insert-requires-2 g c =
    let k = keeps c.self.invariant c.self.view_is in
    let place = c.free_place-place.result in
    let low = free_low (64 * g.row.W) place c.len.result c.self.inside.members _ (inside k) (members_of-kept k) c.requires
    c.free_place-place.ensures.least c.free_place-place.ensures.within (omega (arith, c.self.invariant.room, c.len.ensures.value)) in
    (search rules, low)

pub invariant_of-self-2 : goal.invariant_of-self-2
invariant_of-self-2 g c =
    let k = keeps c.self.invariant c.self.view_is in
    let place = c.free_place-place.result in
    let low = free_low (64 * g.row.W) place c.len.result c.self.inside.members _ (inside k) (members_of-kept k) c.requires
    c.free_place-place.ensures.least c.free_place-place.ensures.within (omega (arith, c.self.invariant.room, c.len.ensures.value)) in
    let itself_is = λ (q : ℕ). ap (λ s. fin.contains s q) (c.insert.ensures ∙ ap (λ s. fin.insert s place) c.empty-itself.ensures) ∙ contains-only place q in
    place_keeps k place _ c.free_place-place.ensures.free c.free_place-place.ensures.least low itself_is c.in_ok-put.ensures.ok c.insert-2.ensures

pub returns-clause-ok : goal.returns-clause-ok
returns-clause-ok g c =
    let k = keeps c.self.invariant c.self.view_is in
    let place = c.free_place-place.result in
    let low = free_low (64 * g.row.W) place c.len.result c.self.inside.members _ (inside k) (members_of-kept k) c.requires
    c.free_place-place.ensures.least c.free_place-place.ensures.within (omega (arith, c.self.invariant.room, c.len.ensures.value)) in
    let itself_is = λ (q : ℕ). ap (λ s. fin.contains s q) (c.insert.ensures ∙ ap (λ s. fin.insert s place) c.empty-itself.ensures) ∙ contains-only place q in
    subst (λ fee. AddsPlace c.args.self.now (graph_from (64 * g.row.W) c.insert-2.new.self c.put.new.rows.items)
    (record { fee = fee; size = c.args.size }) place)
    (to_z-of_z c.ranges.fee)
    (place_is k place _ c.free_place-place.ensures.free c.free_place-place.ensures.least low itself_is c.in_ok-put.ensures.ok c.insert-2.ensures)

pub returns-clause-closed : goal.returns-clause-closed
returns-clause-closed g c = IsClosed-kept (keeps (invariant_of-self-2 g c) refl)

pub returns-in_err-put-clause-closed : goal.returns-in_err-put-clause-closed
returns-in_err-put-clause-closed g c =
    let kept = subst (IsKept (64 * g.row.W) c.self.inside.members) (sym c.in_err-put.ensures.err) c.self.invariant in
    IsClosed-kept (keeps kept refl)
