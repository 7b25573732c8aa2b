use Rattle.std.proofs.Common.{◌∙◌, ◌+◌, ◌||◌, ap, ap₂}
use Rattle.std.specs.FinSet as fin
use Rattle.bitset.specs.Sets.{contains-union, contains-intersection, contains-difference}
use Rattle.dep_graph.proofs.numbering.moved_down.Goals as goal

pub returns : goal.returns
returns g c p =
    ap (λ s. fin.contains s p) c.union.ensures ∙ contains-union c.minus.result c.lowered.result p
    ∙ ap₂ (λ a b. a || b)
    (ap (λ s. fin.contains s p) c.minus.ensures ∙ contains-difference c.args.set.now c.args.moving.now p)
    (c.lowered.ensures p ∙ ap (λ s. fin.contains s (p + c.args.by)) c.meet.ensures ∙ contains-intersection c.args.set.now c.args.moving.now (p + c.args.by))
