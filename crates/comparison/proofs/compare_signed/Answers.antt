-- The changes with the worst of what stands in both decide.
use Rattle.std.proofs.Common.{◌<◌, ◌^◌, ◌∙◌, List, ap, sym, subst, refl, arith}
use Rattle.fee_rate.specs.declared.rates.Sum.{Sum}
use Rattle.graphs.specs.Rates.{sum_of}
use Rattle.graphs.specs.declared.names.Level.TheVariants.{Main, Top}
use Rattle.chunk_index.specs.declared.entry.Tag.TheVariants.{MainOnly, TopOnly}
use Rattle.chunk_index.specs.Items.{same_tag}
use Rattle.cluster_store.specs.Stores.{parts_of_level}
use Rattle.diagram.specs.Parts.{sums_of}
use Rattle.comparison.proofs.Merging.{main_alone, rates_by, top_alone}
use Rattle.comparison.proofs.Tailed.{alone_size, enough, tail_merges, yield_both}
use Rattle.comparison.proofs.compare_signed.Goals as goal

pub total_size-main_size-requires : goal.total_size-main_size-requires
total_size-main_size-requires g c =
    let most = alone_size c.args.store.now c.requires.order c.requires.fits Main MainOnly main_alone in
    subst (λ (xs : List Sum). (sum_of xs).size < 2 ^ 64) (sym c.rates_only.ensures) (omega (arith, most))

pub total_size-top_size-requires : goal.total_size-top_size-requires
total_size-top_size-requires g c =
    let most = alone_size c.args.store.now c.requires.order c.requires.fits Top TopOnly top_alone in
    subst (λ (xs : List Sum). (sum_of xs).size < 2 ^ 64) (sym c.rates_only-2.ensures) (omega (arith, most))

pub compare_with_tail-requires-clause-main : goal.compare_with_tail-requires-clause-main
compare_with_tail-requires-clause-main g c =
    let tail = c.last_shared-main_tail.result.0 in (
      rates_by (same_tag MainOnly) c.args.store.now,
      tail,
      yield_both c.args.store.now c.requires.order c.requires.fits Main MainOnly main_alone c.abs_diff.result tail c.last_shared-main_tail.ensures.tail
          c.rates_only-main_only.result tail c.rates_only-main_only.ensures refl,
    )

pub compare_with_tail-requires-clause-top : goal.compare_with_tail-requires-clause-top
compare_with_tail-requires-clause-top g c =
    let tail = c.last_shared-main_tail.result.0 in (
      rates_by (same_tag TopOnly) c.args.store.now,
      tail,
      yield_both c.args.store.now c.requires.order c.requires.fits Top TopOnly top_alone c.abs_diff.result tail c.last_shared-main_tail.ensures.tail
          c.rates_only-top_only.result c.last_shared-main_tail.result.1 c.rates_only-top_only.ensures c.last_shared-main_tail.ensures.same,
    )

pub returns : goal.returns
unfolding compare_with_tail-requires-clause-main compare_with_tail-requires-clause-top
returns g c before after joins_main joins_top =
    let store = c.args.store.now in
    let order = c.requires.order in
    let fits = c.requires.fits in
    let size = c.abs_diff.result in
    let tail = c.last_shared-main_tail.result.0 in
    let at_end = c.last_shared-main_tail.ensures.tail in
    let main_size = c.total_size-main_size.ensures ∙ ap (λ (xs : List Sum). (sum_of xs).size) c.rates_only.ensures in
    let top_size = c.total_size-top_size.ensures ∙ ap (λ (xs : List Sum). (sum_of xs).size) c.rates_only-2.ensures in
    c.compare_with_tail.ensures (rates_by (same_tag MainOnly) store) (rates_by (same_tag TopOnly) store) at_end.upper tail
    (sums_of (parts_of_level Main store)) (sums_of (parts_of_level Top store)) before after
    (compare_with_tail-requires-clause-main g c.before).2 (compare_with_tail-requires-clause-top g c.before).2
    (enough store order fits size c.total_size-main_size.result c.total_size-top_size.result tail at_end main_size top_size
    (omega (arith, c.abs_diff.ensures)) (omega (arith, c.abs_diff.ensures)))
    (tail_merges store order fits Main MainOnly main_alone size tail at_end) (tail_merges store order fits Top TopOnly top_alone size tail at_end)
    joins_main joins_top
