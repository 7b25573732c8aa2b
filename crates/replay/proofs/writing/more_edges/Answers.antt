use Rattle.std.proofs.Common.{List, ℕ, map, flat_map, take, get_or, ◌∷◌, [], ◌++◌, sym, ap, subst, ◌∙◌}
use Rattle.std.proofs.lemmas.List.{map-append, take_more}
use Rattle.std.proofs.lemmas.Simd.{map-map}
use Rattle.std.proofs.lemmas.List.Elements.{Contains-get_or}
use Rattle.graphs.specs.Closures.{IsCover}
use Rattle.cluster.specs.Covers.{ListsInOrder}
use Rattle.graph_model.specs.Texts.{edge_line}
use Rattle.replay.specs.Writings.{ListsOwn, edges_lines}
use Rattle.component.proofs.Rooms.{covers_fits}
use Rattle.replay.proofs.TextLemmas.{each_append, each_one}
use Rattle.replay.proofs.WritingLemmas.{lines_on}
use Rattle.replay.proofs.writing.more_edges.Goals as goal

pub loop-id-preserved : goal.loop-id-preserved
loop-id-preserved g c =
    let cluster = c.args.cluster.now in
    let are = λ (child : ℕ) (parents : List ℕ). ListsInOrder (λ a. IsCover cluster.graph a child) (flat_map (λ part. part.ids) cluster.parts) parents in
    let before = take c.loop-id.id-index c.args.ids.now in
    let id = get_or c.args.ids.now c.loop-id.id-index 0 in
    let edges = c.loop-id.invariant.0 in
    let parents : List ℕ = c.covers.result in
    let own = map (λ (parent : ℕ). (parent, id)) parents in
    let each = each_append are before (id ∷ []) edges own c.loop-id.invariant.1 (each_one are id parents c.covers.ensures) in
    let lines = map-append (λ (edge : ℕ × ℕ). edge_line edge.0 edge.1) edges own ∙ ap (λ (more : List (List ℕ)). edges_lines edges ++ more)
    (map-map (λ (edge : ℕ × ℕ). edge_line edge.0 edge.1) (λ (parent : ℕ). (parent, id)) parents) in (
      edges ++ own,
      subst (λ (ids : List ℕ). ListsOwn cluster ids (edges ++ own)) (sym (take_more c.args.ids.now c.loop-id.id-index 0 c.loop-id-test.true)) each,
      lines_on _ _ _ _ _ _ _ _ _ (edges_lines edges)
          (map (λ (parent : ℕ). edge_line parent id) parents) _ c.loop-id.invariant.2 c.more_covers-so_far.ensures lines,
    )

pub covers-requires : goal.covers-requires
covers-requires g c = (assumption, (covers_fits g.row.W c.requires.narrow, c.requires.names _ (Contains-get_or c.args.ids.now c.loop-id.id-index 0 c.loop-id-test.true)))

pub more_covers-so_far-requires : goal.more_covers-so_far-requires
more_covers-so_far-requires g c = covers_fits g.row.W c.requires.narrow
