-- A graph stands for some state, which says what holds of the names that are dropped.
use Rattle.std.proofs.Common.{rules, arith, ◌≡◌, ◌≤◌, List, ℕ, sym, ap, ◌∙◌, subst, SFits, to_z, of_z}
use Rattle.std.specs.Int.{w128}
use Rattle.std.proofs.lemmas.Int.{to_z-of_z}
use Rattle.fee_rate.specs.declared.rates.Sum.{Sum}
use Rattle.fee_rate.specs.Rates.{sum_from}
use Rattle.graphs.specs.Closures.{rate_of}
use Rattle.graphs.specs.declared.names.Level.TheVariants.{Top}
use Rattle.graphs.specs.Rates.{sums}
use Rattle.graph_model.specs.declared.limits.TheConstants.{MAX_COUNT}
use Rattle.levels.specs.Levels.{level_at}
use Rattle.tx_graph.specs.Dropped.{MayGo}
use Rattle.trim.specs.Trimmed.{IsDropped}
use Rattle.trim.proofs.Standing.{MayBeSummed, may_be_summed, dropped_one, dropped_told, limits_in_range, trimmed_may_go}
use Rattle.trim.proofs.dropping.picked.Goals as goal

pub dropped-requires : goal.dropped-requires
dropped-requires g c =
    let graph = c.additions-additions.ensures in
    let wide : c.args.graph.now.most ≤ MAX_COUNT = omega (arith, graph.most, graph.narrow) in
    (search rules, (limits_in_range c.args.graph.now graph.stands.0 graph.stands.1 wide).count_high)

pub summed-sum-requires : goal.summed-sum-requires
summed-sum-requires g c =
    let kept = c.args.graph.now in
    let may : MayBeSummed kept c.as_slice.result.now =
    subst (MayBeSummed kept) (sym c.as_slice.ensures.value)
    (may_be_summed kept c.additions-additions.ensures.stands c.in_ok-ids.ids.items c.in_ok-ids.ensures) in
    (search rules, (may.live, (may.rates, may.few)))

pub returns-clause-dropped : goal.returns-clause-dropped
returns-clause-dropped g c =
    let kept = c.args.graph.now in
    let fine : SFits w128 c.summed-sum.result.fee = search rules in
    let sum : Sum = record { fee = to_z w128 (of_z w128 c.summed-sum.result.fee); size = c.summed-sum.result.size } in
    let same : sum ≡ c.summed-sum.result = λ i. record { fee = to_z-of_z w128 c.summed-sum.result.fee fine i; size = c.summed-sum.result.size } in
    let told : sum ≡ sums (λ id. sum_from (rate_of (level_at kept.levels Top).graph id)) c.in_ok-ids.ids.items =
    same ∙ c.summed-sum.ensures ∙ ap (sums (λ id. sum_from (rate_of (level_at kept.levels Top).graph id))) c.as_slice.ensures.value in
    subst (λ (ids : List ℕ). IsDropped kept (record { fee = sum.fee; size = sum.size; ids = ids })) (sym c.from_vec.ensures)
    (dropped_told kept c.in_ok-ids.ids.items sum c.in_ok-ids.ensures told)

pub returns-clause-may_go : goal.returns-clause-may_go
returns-clause-may_go g c =
    let kept = c.args.graph.now in
    let some = c.additions-additions.ensures.stands in
    subst (MayGo (level_at kept.levels Top).graph) (sym c.from_vec.ensures)
    (trimmed_may_go kept some.0 some.1 c.in_ok-ids.ids.items (c.in_ok-ids.ensures some.0 some.1))

pub returns-clause-one : goal.returns-clause-one
returns-clause-one g c ids drops =
    c.from_vec.ensures ∙ dropped_one c.args.graph.now c.additions-additions.ensures.stands c.in_ok-ids.ids.items ids c.in_ok-ids.ensures drops
