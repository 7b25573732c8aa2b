use Rattle.std.proofs.Common.{arith, ◌∙◌}
use Rattle.std.proofs.lemmas.List.{get_or_default}
use Rattle.cluster.proofs.members.place_of.Goals as goal

pub unreachable-requires : goal.unreachable-requires
unreachable-requires c =
    let at = c.requires in
    let low = at.1 in
    let end = c.loop-place-test.false in
    c.loop-place.invariant at.0 (omega (arith, low, end)) (get_or_default c.args.names.now at.0 0 c.args.id low ∙ at.2)
