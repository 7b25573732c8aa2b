use Rattle.std.proofs.Common.{rules, ℕ, List, [], ◌++◌, map, flat_map, Contains, refl, sym, ap, subst, ◌∙◌}
use Rattle.std.specs.Borrow.{Bor}
use Rattle.std.proofs.lemmas.List.{map-append}
use Rattle.lists.proofs.Entries.{Contains-head, Contains-later}
use Rattle.graphs.specs.Certificates.{Part}
use Rattle.graphs.specs.Closures.{IsCover}
use Rattle.graph_model.specs.Answers.{order_of}
use Rattle.graph_model.specs.Texts.{edge_line}
use Rattle.cluster.specs.Covers.{ListsInOrder}
use Rattle.cluster.specs.Clusters.{Cluster}
use Rattle.cluster.specs.declared.cluster.PartRef.{PartRef}
use Rattle.cluster_store.specs.Held.{Held, held_part}
use Rattle.levels.specs.Held.{IsHeldIn}
use Rattle.levels.specs.Levels.{level_at}
use Rattle.levels.specs.Orders.{ListsCovers}
use Rattle.replay.specs.Writings.{ListsEach, edges_lines}
use Rattle.replay.proofs.Rooms.{cluster_fits}
use Rattle.replay.proofs.TextLemmas.{each_append, each_other}
use Rattle.replay.proofs.WritingLemmas.{no_lines, lines_on, rest_on, flat_map_push}
use Rattle.replay.proofs.YieldedLemmas.{gave_all}
use Rattle.replay.proofs.writing.more_all_edges.Goals as goal

-- that a graph and its clusters fit in memory is asked of the caller too
pub held-part-items-requires : goal.held-part-items-requires
held-part-items-requires g c = (assumption, search rules)

pub more_edges-so_far-requires : goal.more_edges-so_far-requires
more_edges-so_far-requires g c = (
  cluster_fits g.row.W assumption,
  (
    (let x = held_part (c.in-Some.part, c.in-Some.cluster) in
        (c.loop-part.invariant.held x (subst (λ (hs : List Held). Contains hs x) (sym c.in-Some.ensures.steps) (Contains-head x c.next.new.self))).names),
    c.held-part-items.ensures.narrow,
  ),
)

pub loop-part-init : goal.loop-part-init
loop-part-init g c = record {
  rest = sym (ap (map (λ (h : Held). h.part)) c.into_iter-part-iterator.ensures.into_iter_gives ∙ c.held-part-items.ensures.parts);
  held = λ h here. c.held-part-items.ensures.clusters h (subst (λ (hs : List Held). Contains hs h) c.into_iter-part-iterator.ensures.into_iter_gives here);
  out = ([], refl, no_lines c.args.so_far (g.K.Sink.written c.args.sink.now) (g.K.Sink.faults c.args.sink.now));
}

pub loop-part-preserved : goal.loop-part-preserved
loop-part-preserved g c =
    let level = level_at c.args.graph.now.levels c.args.level in
    let order = order_of level.parts in
    let part : PartRef × Bor Cluster → Part = λ x. (held_part x).part in
    let x : PartRef × Bor Cluster = (c.in-Some.part, c.in-Some.cluster) in
    let before = order_of (map part c.loop-part.yielded) in
    let ids = c.in-Some.part.ids.now in
    let cluster = c.in-Some.cluster.now in
    let was = c.loop-part.invariant in
    let step = c.in-Some.ensures.steps in
    let is : IsHeldIn level (held_part x) =
    was.held (held_part x) (subst (λ (hs : List Held). Contains hs (held_part x)) (sym step) (Contains-head (held_part x) c.next.new.self)) in
    let (edges, had, out) = was.out in
    let (own, each, more) = c.more_edges-so_far.ensures in
    let told : ListsEach level.graph order ids own =
    each_other (λ child parents. ListsInOrder (λ a. IsCover cluster.graph a child) (flat_map (λ p. p.ids) cluster.parts) parents)
    (ListsCovers level.graph order) ids own (λ child parents here listed. is.covers child parents (is.names child here) listed) each in
    record {
      rest = rest_on part level.parts c.loop-part.yielded (map (λ (h : Held). h.part) c.loop-part.part-iterator)
          (map (λ (h : Held). h.part) c.next.new.self) x was.rest (ap (map (λ (h : Held). h.part)) step);
      held = λ h here. was.held h (subst (λ (hs : List Held). Contains hs h) (sym step) (Contains-later (held_part x) h c.next.new.self here));
      out = (
        edges ++ own,
        subst (λ (ids : List ℕ). ListsEach level.graph order ids (edges ++ own))
            (sym (flat_map_push (λ (p : Part). p.ids) part c.loop-part.yielded x)) (each_append (ListsCovers level.graph order) before ids edges own had told),
        lines_on _ _ _ _ _ _ _ _ _ (edges_lines edges) (edges_lines own) _ out more (map-append (λ (edge : ℕ × ℕ). edge_line edge.0 edge.1) edges own),
      );
    }

pub returns : goal.returns
returns g c =
    let level = level_at c.args.graph.now.levels c.args.level in
    let (edges, had, out) = c.loop-part.invariant.out in
    let all =
    gave_all level.parts (map (λ (x : PartRef × Bor Cluster). (held_part x).part) c.loop-part.yielded) (map (λ (h : Held). h.part) c.loop-part.part-iterator)
    c.loop-part.invariant.rest (ap (map (λ (h : Held). h.part)) c.in-None.ensures.steps.0) in
    (edges, subst (λ (parts : List Part). ListsEach level.graph (order_of level.parts) (order_of parts) edges) all had, out)
