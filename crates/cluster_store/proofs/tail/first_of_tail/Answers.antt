-- One entry more is taken from the end.
use Rattle.std.proofs.Common.{List, None, sym, subst, arith}
use Rattle.chunk_index.specs.declared.entry.Entry.{Entry}
use Rattle.chunk_index.specs.declared.entry.Tag.TheVariants.{Both}
use Rattle.chunk_index.specs.Items.{entries_tagged}
use Rattle.cluster_store.specs.Rates.{AreTaken}
use Rattle.cluster_store.proofs.Tails.{taken_enough, taken_more, taken_none}
use Rattle.cluster_store.proofs.tail.first_of_tail.Goals as goal

pub loop-entry-init : goal.loop-entry-init
loop-entry-init c =
    subst (λ (left : List Entry). AreTaken c.args.size c.args.size (entries_tagged Both c.args.index.now) left None) (sym c.walk_only-walk.ensures.entries)
    (taken_none c.args.size (entries_tagged Both c.args.index.now))

pub loop-entry-preserved : goal.loop-entry-preserved
loop-entry-preserved c =
    taken_more c.args.size c.loop-entry.short c.saturating_sub-short.result (entries_tagged Both c.args.index.now) c.loop-entry.walk
    c.take_needed.new.walk c.loop-entry.first c.in-Some.entry c.loop-entry.invariant c.in-Some.ensures.needed (omega (arith, c.saturating_sub-short.ensures))

pub returns : goal.returns
returns c =
    taken_enough c.args.size c.loop-entry.short (entries_tagged Both c.args.index.now) c.loop-entry.walk c.loop-entry.first c.loop-entry.invariant
    c.in_default.ensures.needed
