use Rattle.std.proofs.Common.{sym, ap, ◌∙◌}
use Rattle.chunk_index.specs.declared.part.Part.{Part}
use Rattle.chunk_index.specs.Numbers.{span_left}
use Rattle.chunk_index.specs.Parts.{part_left}
use Rattle.chunk_index.proofs.Kept.{main-order, top-order}
use Rattle.chunk_index.proofs.Whole.{index-order, shown_all, shown_old}
use Rattle.chunk_index.proofs.index.ChunkIndex.walk_wanted.Goals as goal
use Rattle.chunk_index.proofs.index.ChunkIndex.walk_wanted.Goals.{then-passes, else-passes}

pub over_map-requires-clause-main : goal.over_map-requires-clause-main
over_map-requires-clause-main c = main-order c.self.invariant.listed

pub over_map-requires-clause-top : goal.over_map-requires-clause-top
over_map-requires-clause-top c = top-order c.self.invariant.listed

pub returns-clause-entries : goal.returns-clause-entries
returns-clause-entries c =
    c.over_map.ensures ∙ elim c.if-passes.branch [
      | then-passes w ↦ shown_all c.self.invariant c.self.view_is c.args.wanted (span_left c.all.result) (part_left c.if-passes.fresh)
          c.all.ensures (ap (λ (p : Part). part_left p) w.fresh-is ∙ w.whole-fresh.ensures) (sym w.if-passes.ensures)
      | else-passes w ↦ shown_old c.self.invariant c.self.view_is c.args.wanted (span_left c.all.result) (part_left c.if-passes.fresh)
          c.all.ensures (ap (λ (p : Part). part_left p) w.fresh-is ∙ w.none-fresh.ensures) (sym w.if-passes.ensures)
    ]

pub returns-clause-order : goal.returns-clause-order
returns-clause-order c = index-order c.self.invariant c.self.view_is
