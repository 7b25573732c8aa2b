use Rattle.std.proofs.Common.{rules, ◌≡◌, List, ◌++◌, map, Contains, sym, ap, subst, ◌∙◌}
use Rattle.std.specs.Borrow.{Bor}
use Rattle.std.proofs.lemmas.List.{map-append}
use Rattle.fee_rate.specs.declared.rates.FeeRate.{FeeRate}
use Rattle.lists.proofs.Entries.{Contains-head, Contains-later, map_along}
use Rattle.graphs.specs.Certificates.{Part}
use Rattle.graph_model.specs.Answers.{order_of}
use Rattle.graph_model.specs.Texts.{tx_line}
use Rattle.cluster.specs.Clusters.{Cluster}
use Rattle.cluster.specs.declared.cluster.PartRef.{PartRef}
use Rattle.cluster_store.specs.Held.{Held, held_part}
use Rattle.levels.specs.Held.{IsHeldIn}
use Rattle.levels.specs.Levels.{level_at}
use Rattle.replay.specs.Writings.{GoesOnLines, tx_line_of}
use Rattle.replay.proofs.Rooms.{cluster_fits}
use Rattle.replay.proofs.WritingLemmas.{no_lines, lines_on, rest_on, flat_map_push}
use Rattle.replay.proofs.YieldedLemmas.{gave_all}
use Rattle.replay.proofs.writing.more_all_txs.Goals as goal

-- that a graph and its clusters fit in memory is asked of the caller too
pub held-part-items-requires : goal.held-part-items-requires
held-part-items-requires g c = (assumption, search rules)

pub more_txs-so_far-requires : goal.more_txs-so_far-requires
more_txs-so_far-requires g c = (
  cluster_fits g.row.W assumption,
  let x = held_part (c.in-Some.part, c.in-Some.cluster) in
      (c.loop-part.invariant.held x (subst (λ (hs : List Held). Contains hs x) (sym c.in-Some.ensures.steps) (Contains-head x c.next.new.self))).names,
)

pub loop-part-init : goal.loop-part-init
loop-part-init g c = record {
  rest = sym (ap (map (λ (h : Held). h.part)) c.into_iter-part-iterator.ensures.into_iter_gives ∙ c.held-part-items.ensures.parts);
  held = λ h here. c.held-part-items.ensures.clusters h (subst (λ (hs : List Held). Contains hs h) c.into_iter-part-iterator.ensures.into_iter_gives here);
  out = no_lines _ _ _;
}

pub loop-part-preserved : goal.loop-part-preserved
loop-part-preserved g c =
    let level = level_at c.args.graph.now.levels c.args.level in
    let line = tx_line_of level.graph in
    let part : PartRef × Bor Cluster → Part = λ x. (held_part x).part in
    let x : PartRef × Bor Cluster = (c.in-Some.part, c.in-Some.cluster) in
    let before = order_of (map part c.loop-part.yielded) in
    let own = c.in-Some.part.ids.now in
    let was = c.loop-part.invariant in
    let step = c.in-Some.ensures.steps in
    let is : IsHeldIn level (held_part x) =
    was.held (held_part x) (subst (λ (hs : List Held). Contains hs (held_part x)) (sym step) (Contains-head (held_part x) c.next.new.self)) in
    let same : map line own ≡ map (tx_line_of c.in-Some.cluster.now.graph) own =
    map_along line (tx_line_of c.in-Some.cluster.now.graph) own
    (λ id here. ap (λ (rate : FeeRate). tx_line id rate.fee rate.size) (is.rates id (is.names id here))) in
    record {
      rest = rest_on part level.parts c.loop-part.yielded (map (λ (h : Held). h.part) c.loop-part.part-iterator)
          (map (λ (h : Held). h.part) c.next.new.self) x was.rest (ap (map (λ (h : Held). h.part)) step);
      held = λ h here. was.held h (subst (λ (hs : List Held). Contains hs h) (sym step) (Contains-later (held_part x) h c.next.new.self here));
      out = lines_on _ _ _ _ _ _ _ _ _ (map line before) (map (tx_line_of c.in-Some.cluster.now.graph) own) _ was.out c.more_txs-so_far.ensures
          (ap (map line) (flat_map_push (λ (p : Part). p.ids) part c.loop-part.yielded x) ∙ map-append line before own
          ∙ ap (λ lines. map line before ++ lines) same);
    }

pub returns : goal.returns
returns g c =
    let level = level_at c.args.graph.now.levels c.args.level in
    subst (λ (parts : List Part). GoesOnLines c.args.so_far (g.K.Sink.written c.args.sink.now) (g.K.Sink.written c.loop-part.sink)
    (g.K.Sink.faults c.args.sink.now) (g.K.Sink.faults c.loop-part.sink) c.loop-part.so_far (map (tx_line_of level.graph) (order_of parts)))
    (gave_all level.parts (map (λ (x : PartRef × Bor Cluster). (held_part x).part) c.loop-part.yielded) (map (λ (h : Held). h.part) c.loop-part.part-iterator)
    c.loop-part.invariant.rest (ap (map (λ (h : Held). h.part)) c.in-None.ensures.steps.0))
    c.loop-part.invariant.out
