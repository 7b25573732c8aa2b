-- What the states that a graph stands for say of its top level.
use Rattle.std.proofs.Common.{◌≡◌, ℕ, ◌≤◌, true, false, List, length, is_some, is_err, Result, Ok, Err, IfOk, IfErr, inr, refl, sym, ap, ◌∙◌, subst, arith, true≢false}
use Rattle.std.specs.Prelude.{Contains}
use Rattle.std.specs.FinMap as finmap
use Rattle.lists.specs.Distinct.{AreDistinct}
use Rattle.lists.proofs.Keys.{names-within}
use Rattle.arithmetic.proofs.Sums.{sum_by_along, total_along}
use Rattle.fee_rate.specs.declared.limits.TheConstants.{MAX_TOTAL}
use Rattle.fee_rate.specs.declared.rates.Sum.{Sum}
use Rattle.fee_rate.specs.Limits.{IsRate}
use Rattle.fee_rate.specs.Rates.{sum_from}
use Rattle.fee_rate.proofs.Orders.{same_sum}
use Rattle.graphs.specs.Closures.{is_member, rate_of}
use Rattle.graphs.specs.declared.names.Level.TheVariants.{Top}
use Rattle.graphs.specs.Graphs.{Graph}
use Rattle.graphs.specs.Rates.{HasSizes, sums}
use Rattle.graphs.proofs.DropLemmas.{down_walk}
use Rattle.graph_model.specs.declared.limits.TheConstants.{MAX_COUNT}
use Rattle.graph_model.specs.declared.names.Picked.{Picked}
use Rattle.graph_model.specs.declared.names.Refusal.TheVariants.{Memory}
use Rattle.graph_model.specs.Commands.{Trim}
use Rattle.graph_model.specs.Limits.{Bounds, AreInRange, bounds_of}
use Rattle.graph_model.specs.Replies.{Refused, Trimmed, picked_sum}
use Rattle.graph_model.specs.States.{State, level_of}
use Rattle.graph_model.specs.States as states
use Rattle.graph_model.specs.Trims.{IsTrimmed}
use Rattle.graph_model.proofs.OverLemmas.{graph_itself}
use Rattle.graph_model.proofs.TrimLemmas.{trimmed_descendants, trimmed_once}
use Rattle.levels.specs.Levels.{OneLevel, level_at}
use Rattle.tx_graph.specs.Dropped.{DropsSet, MayGo}
use Rattle.tx_graph.specs.Kept.{Kept, StandsFor, IsGraphOf, Leads, MakesStep, entry_of}
use Rattle.tx_graph.proofs.Standing.{graph_at, sum_kept, told, steps_without_memory}
use Rattle.trim.specs.Trimmed.{IsDropped, TrimDrops}

-- the sums of names are the same where their fees and sizes are
pub sums_same : (f g : ℕ → Sum) (ids : List ℕ) → ((id : ℕ) → Contains ids id → f id ≡ g id) → sums f ids ≡ sums g ids
sums_same f g ids same =
    same_sum (sums f ids) (sums g ids)
    (total_along (λ id. (f id).fee) (λ id. (g id).fee) ids (λ id here. ap (λ (s : Sum). s.fee) (same id here)))
    (sum_by_along (λ id. (f id).size) (λ id. (g id).size) ids (λ id here. ap (λ (s : Sum). s.size) (same id here)))

module _ (kept : Kept) (state : State) (stands : StandsFor kept state) where
  abbrev top : OneLevel
  top = level_at kept.levels Top

  abbrev graph : Graph
  graph = level_of state.plain Top

  pub of_top : IsGraphOf top graph
  of_top = graph_at kept state.plain stands.plain Top

  abbrev rate : ℕ → Sum
  rate = states.rate_of state.plain.table

  pub limits_in_range : kept.most ≤ MAX_COUNT → AreInRange MAX_COUNT (bounds_of kept.levels.limits)
  limits_in_range wide =
      let fine : AreInRange state.plain.most (bounds_of kept.levels.limits) =
      subst (λ (bounds : Bounds). AreInRange state.plain.most bounds) stands.plain.limits stands.plain.valid.limits in
      record {
        count_low = fine.count_low;
        count_high = let high = fine.count_high in let most = stands.plain.most in omega (arith, high, most, wide);
        size_low = fine.size_low;
        size_high = fine.size_high;
        total_low = fine.total_low;
        total_high = fine.total_high;
      }

  pub rate_at : (id : ℕ) → is_member top.graph id ≡ true → rate id ≡ sum_from (rate_of top.graph id)
  rate_at id member = sum_kept kept.levels state.plain.table stands.plain.table Top id member

  pub rate_fine : (id : ℕ) → is_member top.graph id ≡ true → IsRate (rate_of top.graph id)
  rate_fine id member =
      let fine = stands.plain.valid.rates id (entry_of (rate_of top.graph id)) (stands.plain.table.names Top id member) in
      record { fee = fine.0; some = fine.1.0; size = fine.1.1 }

  pub has_sizes : HasSizes rate graph.names
  has_sizes id here =
      let member : is_member top.graph id ≡ true = (of_top.closure.names id).0 here in
      subst (λ (s : Sum). 1 ≤ s.size) (sym (rate_at id member)) (rate_fine id member).some

  pub few_names : (ids : List ℕ) → AreDistinct ids → ((id : ℕ) → Contains ids id → is_member top.graph id ≡ true) → length ids ≤ MAX_TOTAL
  few_names ids once live =
      let in_table : length ids ≤ finmap.len state.plain.table =
      names-within ids state.plain.table once (λ id here. ap is_some (stands.plain.table.names Top id (live id here))) in
      let few = stands.plain.valid.few in
      let most = stands.plain.valid.limits.total_high in
      omega (arith, in_table, few, most)

  -- what is dropped may go
  pub trimmed_may_go : (ids : List ℕ) → IsTrimmed state.plain.limits rate graph ids → MayGo top.graph ids
  trimmed_may_go ids trimmed =
      let set = trimmed_descendants state.plain.limits rate graph ids of_top.valid trimmed in
      record {
        once = set.once;
        live = λ id here. (of_top.closure.names id).0 (set.inside id here);
        descendants = λ a d here above.
            let walk = (told top graph of_top a d).1 (inr above) in down_walk graph.pairs ids set.children a d walk.0 walk.1 here;
      }

  -- fee and size of names of the level
  pub sums_at : (ids : List ℕ) → ((id : ℕ) → Contains ids id → is_member top.graph id ≡ true) → sums (λ id. sum_from (rate_of top.graph id)) ids ≡ sums rate ids
  sums_at ids live = sums_same (λ id. sum_from (rate_of top.graph id)) rate ids (λ id here. sym (rate_at id (live id here)))

-- ---- what is told of the names that are dropped

pub dropped_told : (kept : Kept) (ids : List ℕ) (sum : Sum) → TrimDrops kept ids
    → sum ≡ sums (λ id. sum_from (rate_of (level_at kept.levels Top).graph id)) ids → IsDropped kept (record { fee = sum.fee; size = sum.size; ids = ids })
dropped_told kept ids sum drops is = record {
  ids = drops;
  sum = λ state stands. is ∙ sums_at kept state stands ids (trimmed_may_go kept state stands ids (drops state stands)).live;
}

-- a graph stands for some state, and so trimming drops one list of names
pub dropped_one : (kept : Kept) → (state : State) × StandsFor kept state → (ids others : List ℕ) → TrimDrops kept ids → TrimDrops kept others → ids ≡ others
dropped_one kept some ids others one other =
    let graph : Graph = level_of some.0.plain Top in
    trimmed_once some.0.plain.limits (states.rate_of some.0.plain.table) graph graph ids others (graph_itself graph) (one some.0 some.1) (other some.0 some.1)

-- what the names meet that are summed
pub record MayBeSummed (kept : Kept) (ids : List ℕ) : Type 0 where
  pub live : (id : ℕ) → Contains ids id → is_member (level_at kept.levels Top).graph id ≡ true
  pub rates : (id : ℕ) → Contains ids id → IsRate (rate_of (level_at kept.levels Top).graph id)
  pub few : length ids ≤ MAX_TOTAL

pub may_be_summed : (kept : Kept) → (state : State) × StandsFor kept state → (ids : List ℕ) → TrimDrops kept ids → MayBeSummed kept ids
may_be_summed kept some ids drops =
    let go = trimmed_may_go kept some.0 some.1 ids (drops some.0 some.1) in
    record {
      live = go.live;
      rates = λ id here. rate_fine kept some.0 some.1 id (go.live id here);
      few = few_names kept some.0 some.1 ids go.once go.live;
    }

-- ---- the step of the machine

pub trim_step : (old new : Kept) (picked : Picked) → IsDropped old picked → Leads old new (DropsSet picked.ids)
    → MakesStep old new Trim (Trimmed (picked_sum picked) picked.ids)
trim_step old new picked dropped leads state stands =
    let next = leads state stands in (
      next.0,
      next.1,
      inr (inr (record {
        none = refl;
        accepts = record {
          plain = record {
            answer = (picked.ids, dropped.ids state stands, ap (λ (sum : Sum). Trimmed sum picked.ids) (dropped.sum state stands));
            change = (picked.ids, dropped.ids state stands, next.2.0);
          };
          picks = next.2.1;
        };
      })),
    )

pub trim_lacks : (old new : Kept) → new ≡ old → MakesStep old new Trim (Refused Memory)
trim_lacks old new same = subst (λ (k : Kept). MakesStep old k Trim (Refused Memory)) (sym same) (steps_without_memory old Trim tt (λ state stands. refl))

-- ---- calls that were answered

pub when_ok : {T E P : Type 0} (r : Result T E) → is_err r ≡ false → IfOk r (λ _. P) → P
when_ok (Ok x) is holds = holds
when_ok (Err e) is holds = absurd (true≢false is)

pub when_err : {T E P : Type 0} (r : Result T E) (why : E) → is_err r ≡ true → IfErr r (λ e. (e ≡ why) × P) → P
when_err (Ok x) why is holds = absurd (true≢false (sym is))
when_err (Err e) why is holds = holds.1
