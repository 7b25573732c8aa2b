-- What stands in one level alone decides where no part has a fee below 0.
use Rattle.graphs.specs.declared.names.Level.TheVariants.{Main, Top}
use Rattle.chunk_index.specs.declared.entry.Tag.TheVariants.{Both, MainOnly, TopOnly}
use Rattle.chunk_index.specs.Items.{same_tag}
use Rattle.cluster_store.specs.Stores.{parts_of_level}
use Rattle.diagram.specs.Parts.{sums_of}
use Rattle.comparison.proofs.Merging.{common_pays, level_merges, main_alone, rates_by, top_alone, yields_alone}
use Rattle.comparison.proofs.compare.Goals as goal

pub compare_changed-requires-clause-main_changes : goal.compare_changed-requires-clause-main_changes
compare_changed-requires-clause-main_changes g c = (
  rates_by (same_tag MainOnly) c.args.store.now,
  yields_alone c.args.store.now c.ends_well.ensures.order c.requires.fits Main MainOnly main_alone (c.ends_well.ensures.last.0 c.if-ends_well.true)
      c.rates_only-main_only.result c.rates_only-main_only.ensures,
)

pub compare_changed-requires-clause-top_changes : goal.compare_changed-requires-clause-top_changes
compare_changed-requires-clause-top_changes g c = (
  rates_by (same_tag TopOnly) c.args.store.now,
  yields_alone c.args.store.now c.ends_well.ensures.order c.requires.fits Top TopOnly top_alone
      (c.ends_well-then-ends_well.ensures.last.0 c.if-ends_well-2.true) c.rates_only-top_only.result c.rates_only-top_only.ensures,
)

pub returns-then-ends_well-2 : goal.returns-then-ends_well-2
returns-then-ends_well-2 g c before after joins_main joins_top =
    let store = c.args.store.now in
    let order = c.ends_well.ensures.order in
    let fits = c.requires.fits in
    let main_ends = c.ends_well.ensures.last.0 c.if-ends_well.true in
    let top_ends = c.ends_well-then-ends_well.ensures.last.0 c.if-ends_well-2.true in
    c.compare_changed.ensures (rates_by (same_tag MainOnly) store) (rates_by (same_tag TopOnly) store) (rates_by (same_tag Both) store)
    (sums_of (parts_of_level Main store)) (sums_of (parts_of_level Top store)) before after
    (yields_alone store order fits Main MainOnly main_alone main_ends c.rates_only-main_only.result c.rates_only-main_only.ensures)
    (yields_alone store order fits Top TopOnly top_alone top_ends c.rates_only-top_only.result c.rates_only-top_only.ensures)
    (common_pays store order fits Main MainOnly main_alone main_ends)
    (level_merges store order fits Main MainOnly main_alone) (level_merges store order fits Top TopOnly top_alone)
    joins_main joins_top
