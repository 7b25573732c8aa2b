use Rattle.std.proofs.Common.{refl, ap, ◌∙◌}
use Rattle.chunk_index.specs.declared.entry.Tag.TheVariants.{Both}
use Rattle.chunk_index.specs.declared.key.Key.{Key}
use Rattle.chunk_index.specs.declared.walk.Wanted.TheVariants.{Of}
use Rattle.chunk_index.specs.Keys.{key_of, not_before}
use Rattle.chunk_index.specs.Items.{entries_tagged}
use Rattle.chunk_index.specs.Numbers.{span_left}
use Rattle.chunk_index.specs.Parts.{part_left}
use Rattle.chunk_index.proofs.Kept.{main-order, top-order}
use Rattle.chunk_index.proofs.Whole.{index-order, shown_from}
use Rattle.chunk_index.proofs.index.ChunkIndex.walk_shared_from.Goals as goal

pub over_map-requires-clause-main : goal.over_map-requires-clause-main
over_map-requires-clause-main c = main-order c.self.invariant.listed

pub over_map-requires-clause-top : goal.over_map-requires-clause-top
over_map-requires-clause-top c = top-order c.self.invariant.listed

pub returns-clause-entries : goal.returns-clause-entries
returns-clause-entries c =
    c.over_map.ensures
    ∙ shown_from c.self.invariant c.self.view_is (Of Both) c.of.result (span_left c.from.result) (part_left c.none.result) c.from.ensures
    c.none.ensures refl
    ∙ ap (λ (k : Key). not_before key_of (entries_tagged Both c.args.self.now) k) c.of.ensures

pub returns-clause-order : goal.returns-clause-order
returns-clause-order c = index-order c.self.invariant c.self.view_is
