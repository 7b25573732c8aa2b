use Rattle.std.proofs.Common.{ap, ◌∙◌, map, arith}
use Rattle.std.proofs.lemmas.List.{take_all}
use Rattle.levels.proofs.left.names_of.Goals as goal

pub push_reserved-requires : goal.push_reserved-requires
push_reserved-requires c = omega arith

pub returns : goal.returns
returns c = c.loop-entry.invariant.names ∙ ap (map (λ e. e.1)) (take_all c.loop-entry.entry-index c.args.run.now (omega arith))
