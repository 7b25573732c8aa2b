-- A part of a marked cluster is passed over.
use Rattle.std.proofs.Common.{sym, ◌∙◌}
use Rattle.cluster_store.specs.Walks.{shown_part}
use Rattle.block_builder.proofs.Passing.{passed_more}
use Rattle.block_builder.proofs.ahead.Ahead.go_past.Goals as goal

pub loop-shown-preserved : goal.loop-shown-preserved
loop-shown-preserved g c =
    passed_more c.args.marks.now c.self.inside.behind c.loop-shown.self-inside.behind c.next.new.self (shown_part c.in-Some.shown) c.loop-shown.invariant
    c.in-Some.ensures.steps (sym c.has_mark.ensures ∙ c.if-not-has_mark.false)
