use Rattle.std.proofs.Common.{List, map, flat_map, ◌∷◌, [], ◌++◌, refl, sym, subst, ◌∙◌, append_assoc}
use Rattle.cluster_store.specs.Lent.{lent}
use Rattle.graphs.specs.Certificates.{Part}
use Rattle.graph_model.specs.Texts.{chunk_line, flow_line, part_lines}
use Rattle.replay.specs.Writings.{GoesOnLines}
use Rattle.replay.proofs.WritingLemmas.{no_lines, lines_on, rest_on, flat_map_push}
use Rattle.replay.proofs.YieldedLemmas.{gave_all}
use Rattle.replay.proofs.writing.more_parts.Goals as goal

-- that a part's cluster fits in memory is asked of the caller too
pub next-requires : goal.next-requires
next-requires g c = assumption

pub loop-part-init : goal.loop-part-init
loop-part-init g c = record { rest = search; out = no_lines _ _ _ }

pub loop-part-preserved : goal.loop-part-preserved
loop-part-preserved g c =
    let so_far = flat_map part_lines (map lent c.loop-part.yielded) in
    let chunk = chunk_line (lent c.in-Some.part) ∷ [] in
    let flows = map flow_line c.in-Some.part.flows.now in
    let headed = lines_on _ _ _ _ _ _ _ _ _ so_far (chunk) _ c.loop-part.invariant.out c.more-so_far.ensures (refl) in
    record {
      rest = rest_on lent c.args.parts c.loop-part.yielded c.loop-part.part-iterator
          c.next.new.self c.in-Some.part c.loop-part.invariant.rest c.in-Some.ensures.steps;
      out = lines_on _ _ _ _ _ _ _ _ _ (so_far ++ chunk) flows _ headed c.more_flows-so_far.ensures
          (flat_map_push part_lines lent c.loop-part.yielded c.in-Some.part ∙ sym (append_assoc so_far chunk flows));
    }

pub returns : goal.returns
returns g c =
    subst (λ (parts : List Part). GoesOnLines c.args.so_far (g.K.Sink.written c.args.sink.now) (g.K.Sink.written c.loop-part.sink)
    (g.K.Sink.faults c.args.sink.now) (g.K.Sink.faults c.loop-part.sink) c.loop-part.so_far (flat_map part_lines parts))
    (gave_all c.args.parts (map lent c.loop-part.yielded) c.loop-part.part-iterator c.loop-part.invariant.rest c.in-None.ensures.steps.0)
    c.loop-part.invariant.out
