use Rattle.std.proofs.Common.{List, map, subst, ◌∷◌, []}
use Rattle.cluster_store.specs.Lent.{lent}
use Rattle.graphs.specs.Certificates.{Part}
use Rattle.graph_model.specs.Texts.{chunk_line}
use Rattle.replay.specs.Writings.{GoesOnLines}
use Rattle.replay.proofs.WritingLemmas.{no_lines, lines_on, rest_on, map_push}
use Rattle.replay.proofs.YieldedLemmas.{gave_all}
use Rattle.replay.proofs.writing.more_chunks.Goals as goal

-- that a part's cluster fits in memory is asked of the caller too
pub next-requires : goal.next-requires
next-requires g c = assumption

pub loop-part-init : goal.loop-part-init
loop-part-init g c = record { rest = search; out = no_lines _ _ _ }

pub loop-part-preserved : goal.loop-part-preserved
loop-part-preserved g c = record {
  rest =
      rest_on lent c.args.parts c.loop-part.yielded c.loop-part.part-iterator c.next.new.self c.in-Some.part c.loop-part.invariant.rest c.in-Some.ensures.steps;
  out = lines_on _ _ _ _ _ _ _ _ _ (map chunk_line (map lent c.loop-part.yielded))
      (chunk_line (lent c.in-Some.part) ∷ []) _ c.loop-part.invariant.out c.more-so_far.ensures (map_push chunk_line lent c.loop-part.yielded c.in-Some.part);
}

pub returns : goal.returns
returns g c =
    subst (λ (parts : List Part). GoesOnLines c.args.so_far (g.K.Sink.written c.args.sink.now) (g.K.Sink.written c.loop-part.sink)
    (g.K.Sink.faults c.args.sink.now) (g.K.Sink.faults c.loop-part.sink) c.loop-part.so_far (map chunk_line parts))
    (gave_all c.args.parts (map lent c.loop-part.yielded) c.loop-part.part-iterator c.loop-part.invariant.rest c.in-None.ensures.steps.0)
    c.loop-part.invariant.out
