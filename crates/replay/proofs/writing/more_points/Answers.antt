use Rattle.std.proofs.Common.{rules, ℕ, ℤ, List, map, ◌∷◌, [], FitsSigned, sym, subst}
use Rattle.std.specs.Int.{w128}
use Rattle.std.proofs.lemmas.Int.{to_z-of_z}
use Rattle.std.proofs.lemmas.List.{map-append}
use Rattle.std.specs.Iterator.{AlwaysYields}
use Rattle.graph_model.specs.Replies.{point_line}
use Rattle.replay.specs.Writings.{GoesOnLines}
use Rattle.replay.proofs.WritingLemmas.{lines_on}
use Rattle.lists.proofs.Iterators.{all_given}
use Rattle.replay.proofs.writing.more_points.Goals as goal

pub loop-size-preserved : goal.loop-size-preserved
loop-size-preserved g c =
    let point : ℕ × ℤ = (c.in-Some.size, c.in-Some.fee) in
    let fits : FitsSigned w128 c.in-Some.fee = search rules in
    lines_on _ _ _ _ _ _ _ _ _ (map point_line c.loop-size.yielded) (point_line point ∷ []) _ c.loop-size.invariant
    (rw (to_z-of_z w128 c.in-Some.fee fits) at c.more-so_far.ensures)
    (map-append point_line c.loop-size.yielded (point ∷ []))

pub returns : goal.returns
returns g c list always =
    let gives =
    subst (λ s. AlwaysYields g.I.Iterator.next_gives (λ (point : ℕ × ℤ). point) s list) (sym c.into_iter-size-iterator.ensures.into_iter_gives) always in
    let same = all_given g.I.Iterator.next_gives c.into_iter-size-iterator.result c.loop-size.size-iterator c.next.new.self c.loop-size.yielded list gives
    c.loop-size.yielded_by c.in-None.ensures.steps in
    subst (λ (points : List (ℕ × ℤ)). GoesOnLines c.args.so_far (g.K.Sink.written c.args.sink.now) (g.K.Sink.written c.loop-size.sink)
    (g.K.Sink.faults c.args.sink.now) (g.K.Sink.faults c.loop-size.sink) c.loop-size.so_far (map point_line points)) (sym same) c.loop-size.invariant
