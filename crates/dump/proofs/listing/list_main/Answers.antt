use Rattle.std.proofs.Common.{ℕ, ◌≡◌, List, [], ◌∷◌, map, Contains, sym, ap, subst, subst₂, ◌∙◌}
use Rattle.std.specs.Borrow.{Bor}
use Rattle.lists.proofs.Entries.{Contains-head, Contains-later}
use Rattle.graphs.specs.Certificates.{Part, Txs}
use Rattle.graph_model.specs.Answers.{order_of}
use Rattle.cluster.specs.Clusters.{Cluster}
use Rattle.cluster.specs.declared.cluster.PartRef.{PartRef}
use Rattle.cluster_store.specs.Held.{Held, held_part}
use Rattle.levels.specs.Held.{IsHeldIn}
use Rattle.dump.specs.Listings.{AreListed}
use Rattle.dump.proofs.Listed.{none_listed, part_once}
use Rattle.dump.proofs.Rooms.{cluster_fits}
use Rattle.dump.proofs.Walking.{rest_on, gave_all, flat_map_push}
use Rattle.dump.proofs.listing.list_main.Goals as goal

pub add_part-requires : goal.add_part-requires
add_part-requires g c = (
  cluster_fits g.row.W assumption,
  (
    (let x = held_part (c.in-Some.part, c.in-Some.cluster) in
        (c.loop-part.invariant.held x (subst (λ (hs : List Held). Contains hs x) (sym c.in-Some.ensures.steps) (Contains-head x c.next.new.self))).names),
    c.held-part-items.ensures.narrow,
  ),
)

pub loop-part-init : goal.loop-part-init
loop-part-init g c = record {
  rest = sym (ap (map (λ (h : Held). h.part)) c.into_iter-part-iterator.ensures.into_iter_gives ∙ c.held-part-items.ensures.parts);
  held = λ h here. c.held-part-items.ensures.clusters h (subst (λ (hs : List Held). Contains hs h) c.into_iter-part-iterator.ensures.into_iter_gives here);
  listed = λ once. subst₂ (λ (txs : Txs) (edges : List (ℕ × ℕ)). AreListed c.args.graph.now.levels.main [] txs edges)
      (sym c.in_ok-with_capacity.ensures.items) (sym c.new.ensures.items) (none_listed c.args.graph.now.levels.main);
}

pub loop-part-preserved : goal.loop-part-preserved
loop-part-preserved g c =
    let level = c.args.graph.now.levels.main in
    let part : PartRef × Bor Cluster → Part = λ x. (held_part x).part in
    let x : PartRef × Bor Cluster = (c.in-Some.part, c.in-Some.cluster) in
    let front = map part c.loop-part.yielded in
    let now = map (λ (h : Held). h.part) c.loop-part.part-iterator in
    let next = map (λ (h : Held). h.part) c.next.new.self in
    let was = c.loop-part.invariant in
    let step = c.in-Some.ensures.steps in
    let parts_step : now ≡ part x ∷ next = ap (map (λ (h : Held). h.part)) step in
    let is : IsHeldIn level (held_part x) =
    was.held (held_part x) (subst (λ (hs : List Held). Contains hs (held_part x)) (sym step) (Contains-head (held_part x) c.next.new.self)) in
    record {
      rest = rest_on part level.parts c.loop-part.yielded now next x was.rest parts_step;
      held = λ h here. was.held h (subst (λ (hs : List Held). Contains hs h) (sym step) (Contains-later (held_part x) h c.next.new.self here));
      listed = λ once.
          subst (λ (ids : List ℕ). AreListed level ids c.add_part.new.lists.txs.items c.add_part.new.lists.edges.items)
          (sym (flat_map_push (λ (p : Part). p.ids) part c.loop-part.yielded x))
          (c.in_ok-add_part.ensures level (order_of front) (record { rates = is.rates; covers = is.covers }) once
          (part_once level.parts front now next (part x) was.rest parts_step once) (was.listed once));
    }

pub returns : goal.returns
returns g c once =
    let level = c.args.graph.now.levels.main in
    subst (λ (parts : List Part). AreListed level (order_of parts) c.loop-part.lists.txs.items c.loop-part.lists.edges.items)
    (gave_all level.parts (map (λ (x : PartRef × Bor Cluster). (held_part x).part) c.loop-part.yielded) (map (λ (h : Held). h.part) c.loop-part.part-iterator)
    c.loop-part.invariant.rest (ap (map (λ (h : Held). h.part)) c.in-None.ensures.steps.0))
    (c.loop-part.invariant.listed once)
