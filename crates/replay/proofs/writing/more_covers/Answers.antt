use Rattle.std.proofs.Common.{ℕ, map, ◌∷◌, []}
use Rattle.std.proofs.lemmas.List.{map-append}
use Rattle.graph_model.specs.Texts.{edge_line}
use Rattle.replay.proofs.WritingLemmas.{lines_on, rest_same}
use Rattle.replay.proofs.writing.more_covers.Goals as goal

pub loop-parent-preserved : goal.loop-parent-preserved
loop-parent-preserved g c =
    let line = λ (parent : ℕ). edge_line parent c.args.child in
    record {
      rest = rest_same c.args.parents c.loop-parent.yielded c.loop-parent.parent-iterator
          c.next.new.self c.in-Some.parent c.loop-parent.invariant.rest c.in-Some.ensures.steps;
      out = lines_on _ _ _ _ _ _ _ _ _ (map line c.loop-parent.yielded) (line c.in-Some.parent ∷ []) _ c.loop-parent.invariant.out c.more-so_far.ensures
          (map-append line c.loop-parent.yielded (c.in-Some.parent ∷ []));
    }
