use Rattle.std.proofs.Common.{rules, sym, ap, ◌∙◌}
use Rattle.chunk_index.specs.declared.entry.Tag.{Tag}
use Rattle.chunk_index.specs.Items.{entries_tagged}
use Rattle.chunk_index.proofs.Whole.{index-order, shown_main, shown_fresh}
use Rattle.chunk_index.proofs.index.ChunkIndex.walk_only.Goals as goal

pub returns-in-MainOnly-clause-entries : goal.returns-in-MainOnly-clause-entries
returns-in-MainOnly-clause-entries c =
    c.over_tree.ensures ∙ shown_main c.self.invariant c.self.view_is
    ∙ ap (λ (t : Tag). entries_tagged t c.args.self.now) (sym c.in-MainOnly.is)

pub returns-in-MainOnly-clause-order : goal.returns-in-MainOnly-clause-order
returns-in-MainOnly-clause-order c = index-order c.self.invariant c.self.view_is

pub returns-in-TopOnly-clause-entries : goal.returns-in-TopOnly-clause-entries
returns-in-TopOnly-clause-entries c =
    c.over_tree-in-TopOnly.ensures ∙ shown_fresh c.self.invariant c.self.view_is (search rules)
    ∙ ap (λ (t : Tag). entries_tagged t c.args.self.now) (sym c.in-TopOnly.is)

pub returns-in-TopOnly-clause-order : goal.returns-in-TopOnly-clause-order
returns-in-TopOnly-clause-order c = index-order c.self.invariant c.self.view_is
