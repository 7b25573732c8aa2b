use Rattle.std.proofs.Common.{Some, inl, inr, refl, ap, ◌∙◌}
use Rattle.graphs.specs.declared.names.Level.TheVariants.{Main}
use Rattle.desk.proofs.OrderLemmas.{not_over, pick_is}
use Rattle.desk.proofs.ordering.last_chunk.Goals as goal

pub returns-then-oversized : goal.returns-then-oversized
returns-then-oversized c = λ state stands. inl (refl, (c.oversized.ensures.state state stands).0 c.if-oversized.true)

pub returns-in-Some : goal.returns-in-Some
returns-in-Some c = λ state stands. (c.args.graph.now.levels.main.parts, pick_is c.args.graph.now state Main stands (not_over c.args.graph.now.levels Main c.oversized.result c.oversized.ensures.exact c.if-oversized.false), c.in-Some.ensures)

pub returns-in-None : goal.returns-in-None
returns-in-None c = λ state stands. inr (refl, pick_is c.args.graph.now state Main stands (not_over c.args.graph.now.levels Main c.oversized.result c.oversized.ensures.exact c.if-oversized.false) ∙ ap Some c.in-None.ensures)
