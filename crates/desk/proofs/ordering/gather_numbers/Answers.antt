use Rattle.std.proofs.Common.{Some, inl, inr, refl, sym, ap, ◌∙◌}
use Rattle.graphs.specs.declared.names.Level.TheVariants.{Main}
use Rattle.desk.proofs.OrderLemmas.{not_over, pick_is}
use Rattle.desk.proofs.ordering.gather_numbers.Goals as goal

pub returns-then-oversized : goal.returns-then-oversized
returns-then-oversized c = inr (λ state stands. inl ((c.oversized.ensures.state state stands).0 c.if-oversized.true, refl))

pub returns-in-Ok : goal.returns-in-Ok
returns-in-Ok c = λ state stands. (
  c.numbered.result,
  pick_is c.args.graph.now state Main stands (not_over c.args.graph.now.levels Main c.oversized.result c.oversized.ensures.exact c.if-oversized.false) ∙ ap Some (sym c.numbered.ensures.parts),
  c.numbered.ensures.numbers state stands,
  c.from_vec.ensures ∙ c.in-Ok.ensures,
)
