-- What the calls of a graph need of its parts.
use Rattle.std.proofs.Common.{◌≡◌, ◌≢◌, ℕ, ℤ, ◌^◌, ◌<◌, ◌≤◌, ◌+◌, Bool, true, false, List, [], ◌∷◌, length, sym, refl, ap, subst, subst₂, ◌∙◌, inl, inr, ◌⊎◌, Option, None, Some, true≢false, arith, Result, Ok, Err, OnOk, OnErr, is_err, IsErrAnd, is_some}
use Rattle.std.specs.Prelude.{Contains, unsigned_abs, option_map, IsTrue, MatchOption, ◌↔◌}
use Rattle.std.proofs.lemmas.Bool.{cases_lt, false_from_ne_true, true_from_ne_false}
use Rattle.std.proofs.lemmas.Option.{none-some}
use Rattle.std.specs.FinMap as finmap
use Rattle.lists.proofs.Entries.{none_in_empty}
use Rattle.fee_rate.specs.declared.limits.TheConstants.{MAX_FEE, MAX_SIZE}
use Rattle.fee_rate.specs.declared.rates.FeeRate.{FeeRate}
use Rattle.fee_rate.specs.Limits.{IsFee, IsSize}
use Rattle.graphs.specs.declared.names.Level.{Level}
use Rattle.graphs.specs.declared.names.Level.TheVariants.{Main, Top}
use Rattle.graphs.specs.Closures.{Closure, is_member, is_ancestor, rate_of, IsOrder, AddsPair, DropsPlace, AreLinked}
use Rattle.graphs.specs.declared.names.Verdict.{Verdict}
use Rattle.graphs.specs.declared.names.Verdict.TheVariants.{Better, Worse, Equal, Incomparable}
use Rattle.graphs.specs.Graphs.{Lists}
use Rattle.graphs.proofs.ListLemmas.{Lists-for}
use Rattle.cluster.specs.Clusters.{Cluster}
use Rattle.cluster.specs.Steps.{GrowsWithin}
use Rattle.record.specs.Steps.{most_steps_fit}
use Rattle.graph_model.specs.declared.names.Limits.{Limits}
use Rattle.graph_model.specs.declared.names.Refusal.{Refusal}
use Rattle.graph_model.specs.declared.names.Refusal.TheVariants.{Fee, Size, Taken, Full, Count, ClusterSize, Unknown, Cycle, Memory}
use Rattle.graph_model.specs.Limits.{AreInRange, bounds_of}
use Rattle.graph_model.specs.States.{Entry, State}
use Rattle.graph_model.specs.Commands.{Command, SetLimits, Add, Dep, SetFee, Remove, Stage, Commit, Abort, Settle}
use Rattle.graph_model.specs.Refusals.{First, FirstAt, NoRefusal}
use Rattle.graph_model.specs.Replies.{Reply, Refused, Done, Settled}
use Rattle.graph_model.specs.Steps.{Step}
use Rattle.tx_graph.specs.Additions.{AddRefusalIs, CountsLive}
use Rattle.levels.specs.Joins.{DepRefusalIs, JoinsTooMany, JoinsTooLarge}
use Rattle.tx_graph.specs.Kept.{Kept, StandsFor, Leads, MakesStep, entry_of}
use Rattle.levels.specs.Levels.{OneLevel, Levels, HavePicks, AddsName, ChangesTop, SetsFeeIn, level_at, IsLive, IsWithin}
use Rattle.levels.specs.Levels as levels
use Rattle.tx_graph.specs.Sound.{IsSound}
use Rattle.levels.specs.Orders.{ComparesParts}
use Rattle.levels.specs.Lefts.{DropsWithin}
use Rattle.levels.specs.Views.{IsClusterOf}
use Rattle.tx_graph.proofs.Added.{steps_added}
use Rattle.tx_graph.proofs.Counting.{add_row, live_listed, counted}
use Rattle.tx_graph.proofs.Dropped.{steps_dropped}
use Rattle.tx_graph.proofs.Drawn.{AreRated}
use Rattle.tx_graph.proofs.Limited.{steps_limited}
use Rattle.tx_graph.proofs.Paid.{steps_paid}
use Rattle.tx_graph.proofs.Paired.{steps_paired}
use Rattle.tx_graph.proofs.Rows.{AreWithin, limits_row, fee_row, dep_row, known_here, closed_row, open_row}
use Rattle.tx_graph.proofs.Settled.{steps_settled, steps_unsettled}
use Rattle.tx_graph.proofs.Staged.{opened, committed, aborted, picks_of_opened, picks_of_committed, picks_of_aborted, steps_opened, steps_committed, steps_aborted}
use Rattle.tx_graph.proofs.Standing.{Meets, closed_level, graph_at, named, order_kept, steps_refused, steps_without_memory}
use Rattle.tx_graph.proofs.Tops.{AreTopped, topped_from, topped_with}

-- what a graph keeps, by its fields
abbrev pub kept_of : ℕ → Bool → Levels → Kept
kept_of most begun levels = record { most = most; begun = begun; levels = levels }

-- a step from the fields is one from the value
pub from_view : (old value new : Kept) (command : Command) (reply : Reply) → old ≡ value → MakesStep old new command reply
    → MakesStep value new command reply
from_view old value new command reply is step = subst (λ (k : Kept). MakesStep k new command reply) is step

pub both_views : (kept value : Kept) (command : Command) (reply : Reply) → kept ≡ value → MakesStep kept kept command reply
    → MakesStep value value command reply
both_views kept value command reply is step = subst (λ (k : Kept). MakesStep k k command reply) is step

-- a level that isn't over the limits, from the value
pub within_view : (kept value : Kept) (level : Level) → kept ≡ value → IsWithin value.levels level → IsWithin kept.levels level
within_view kept value level is within = subst (λ (k : Kept). IsWithin k.levels level) (sym is) within

-- a level of which a test told that it isn't over the limits
pub tested : {P : Type 0} (test : Bool) → IsTrue test ↔ P → test ≡ false → P → ⊥
tested test told is holds = true≢false (sym (told.1 holds) ∙ is)

-- a step that leaves levels as they were
pub same_levels : (most : ℕ) (begun : Bool) (old new : Levels) (value : Kept) (command : Command) (reply : Reply) → new ≡ old
    → kept_of most begun old ≡ value → MakesStep (kept_of most begun old) (kept_of most begun old) command reply
    → MakesStep value (kept_of most begun new) command reply
same_levels most begun old new value command reply same is step =
    from_view (kept_of most begun old) value (kept_of most begun new) command reply is
    (subst (λ (l : Levels). MakesStep (kept_of most begun old) (kept_of most begun l) command reply) (sym same) step)

-- a graph that a sound one leads to is sound
pub sound_led : (old new : Kept) (Relates : State → State → Type 0) → IsSound old → HavePicks new.levels → Leads old new Relates → IsSound new
sound_led old new Relates sound picked leads =
    let next = leads sound.stands.0 sound.stands.1 in
    record { picked = picked; stands = (next.0, next.1) }

-- such as one after a step
pub sound_after : (old new : Kept) (command : Command) (reply : Reply) → IsSound old → HavePicks new.levels → MakesStep old new command reply → IsSound new
sound_after old new command reply = sound_led old new (λ state next. Step state command reply next)

-- its limits are in range
pub in_range : (kept : Kept) → IsSound kept → AreInRange kept.most (bounds_of kept.levels.limits)
in_range kept sound =
    let stands = sound.stands.1.plain in
    subst₂ AreInRange stands.most stands.limits stands.valid.limits

-- and one that stays
pub sound_still : (most : ℕ) (begun : Bool) (old new : Levels) → new ≡ old → IsSound (kept_of most begun old)
    → IsSound (kept_of most begun new)
sound_still most begun old new same = subst (λ (l : Levels). IsSound (kept_of most begun l)) (sym same)

order_sound : (kept : Kept) → IsSound kept → (level : Level)
    → IsOrder (is_member (level_at kept.levels level).graph) (is_ancestor (level_at kept.levels level).graph)
order_sound kept sound level = order_kept _ _ (graph_at kept sound.stands.0.plain sound.stands.1.plain level)

-- a name has the same fee and size in both levels
pub rates_agree : (kept : Kept) → IsSound kept → (id : ℕ) → is_member kept.levels.main.graph id ≡ true → is_member (level_at kept.levels Top).graph id ≡ true
    → rate_of kept.levels.main.graph id ≡ rate_of (level_at kept.levels Top).graph id
rates_agree kept sound id one two =
    let table = sound.stands.1.plain.table in
    ap rate_in (sym (table.names Main id one) ∙ table.names Top id two)
  where
    rate_in : Option Entry → FeeRate
    rate_in None = record { fee = (rate_of kept.levels.main.graph id).fee; size = 0 }
    rate_in (Some entry) = record { fee = entry.fee; size = entry.size }

pub when_ok : {T E P : Type 0} (r : Result T E) → is_err r ≡ false → OnOk r P → P
when_ok (Ok x) is holds = holds
when_ok (Err e) is holds = absurd (true≢false is)

pub when_err : {T E P : Type 0} (r : Result T E) → is_err r ≡ true → OnErr r P → P
when_err (Ok x) is holds = absurd (true≢false (sym is))
when_err (Err e) is holds = holds

pub on_error : {T E P : Type 0} (r : Result T E) → P → OnErr r P
on_error (Ok x) holds = tt
on_error (Err e) holds = holds

pub error_is : {T E : Type 0} (r : Result T E) (e : E) → IsErrAnd r (λ y. y ≡ e) → r ≡ Err e
error_is (Ok x) e is = absurd is
error_is (Err y) e is = ap Err is

-- ---- what an addition that isn't refused may count on

-- the row of an addition that has none of the earlier causes ends with how many names are live
pub last_row : (levels : Levels) (live id : ℕ) (fee : ℤ) (size : ℕ) (found : Option Refusal) → IsFee fee → IsSize size
    → (IsLive levels id → ⊥) → size ≤ levels.limits.size → First (levels.limits.total ≤ live) Full NoRefusal found
    → AddRefusalIs levels live id fee size found
last_row levels live id fee size found pays measures absent small last =
    inr (λ out. out pays, inr (λ out. out measures, inr (absent, inr (λ over. omega (arith, over, small), last))))

-- the row of an addition, however many names are live
abbrev pub AddRowIs : Kept → ℕ → ℤ → ℕ → Option Refusal → Type 0
AddRowIs kept id fee size found = (live : ℕ) → CountsLive kept.levels live → AddRefusalIs kept.levels live id fee size found

pub add_met : (kept : Kept) (id : ℕ) (fee : ℤ) (size : ℕ) (found : Option Refusal) → AddRowIs kept id fee size found → Meets kept (Add id fee size) found
add_met kept id fee size found row =
    let names = live_listed kept.levels in
    let counts = counted kept.levels names.0 names.1 in
    add_row kept (length names.0) id fee size found counts (row (length names.0) counts)

none_of : (cause : Type 0) (why : Refusal) (later : Option Refusal → Type 0) → First cause why later None → (cause → ⊥) × later None
none_of cause why later row = elim row [ inl here ↦ absurd (none-some why here.1) | inr on ↦ on ]

not_over : (a b : ℕ) → (a < b → ⊥) → b ≤ a
not_over a b no_way = elim (cases_lt a b) [ inl over ↦ absurd (no_way over) | inr past ↦ past ]

not_past : (a b : ℕ) → (a ≤ b → ⊥) → b < a
not_past a b no_way = elim (cases_lt b a) [ inl over ↦ over | inr past ↦ absurd (no_way past) ]

-- what an addition meets that isn't refused
pub record MayAdd (levels : Levels) (live id : ℕ) (fee : ℤ) (size : ℕ) : Type 0 where
  pub pays : IsFee fee
  pub measures : IsSize size
  pub absent : IsLive levels id → ⊥
  pub fits : size ≤ levels.limits.size
  pub room : live < levels.limits.total

pub may_add : (levels : Levels) (live id : ℕ) (fee : ℤ) (size : ℕ) → AddRefusalIs levels live id fee size None → MayAdd levels live id fee size
may_add levels live id fee size row =
    let full : Option Refusal → Type 0 = First (levels.limits.total ≤ live) Full NoRefusal in
    let large : Option Refusal → Type 0 = First (levels.limits.size < size) (ClusterSize size) full in
    let taken : Option Refusal → Type 0 = First (IsLive levels id) Taken large in
    let a = none_of (IsFee fee → ⊥) Fee (First (IsSize size → ⊥) Size taken) row in
    let b = none_of (IsSize size → ⊥) Size taken a.1 in
    let c = none_of (IsLive levels id) Taken large b.1 in
    let d = none_of (levels.limits.size < size) (ClusterSize size) full c.1 in
    let e = none_of (levels.limits.total ≤ live) Full NoRefusal d.1 in
    record {
      pays = not_over MAX_FEE (unsigned_abs fee) (λ over. a.0 (λ is. omega (arith, over, is)));
      measures = (not_over size 1 (λ none. b.0 (λ is. omega (arith, none, is.0))), not_over MAX_SIZE size (λ over. b.0 (λ is. omega (arith, over, is.1))));
      absent = c.0;
      fits = not_over levels.limits.size size d.0;
      room = not_past levels.limits.total live e.0;
    }

-- and what a pair does
pub record MayPair (graph : Closure) (parent child : ℕ) : Type 0 where
  pub above : is_member graph parent ≡ true
  pub below : is_member graph child ≡ true
  pub no_way : is_ancestor graph child parent ≡ false

may_pair : (limits : Limits) (graph : Closure) (parent child : ℕ) → DepRefusalIs limits graph parent child None → MayPair graph parent child
may_pair limits graph parent child row =
    let large : Option Refusal → Type 0 =
    FirstAt (JoinsTooMany limits graph parent child) Count (FirstAt (JoinsTooLarge limits graph parent child) ClusterSize NoRefusal) in
    let cycle : Option Refusal → Type 0 = First (is_ancestor graph child parent ≡ true) Cycle large in
    let a = none_of (is_member graph parent ≡ true → ⊥) (Unknown parent) (First (is_member graph child ≡ true → ⊥) (Unknown child) cycle) row in
    let b = none_of (is_member graph child ≡ true → ⊥) (Unknown child) cycle a.1 in
    let c = none_of (is_ancestor graph child parent ≡ true) Cycle large b.1 in
    record { above = member_from parent a.0; below = member_from child b.0; no_way = false_from_ne_true (is_ancestor graph child parent) c.0 }
  where
    member_from : (id : ℕ) → ((is_member graph id ≡ true → ⊥) → ⊥) → is_member graph id ≡ true
    member_from id none = true_from_ne_false (is_member graph id) (λ fails. none (λ holds. true≢false (sym holds ∙ fails)))

-- a pair that is refused
pub dep_refused : (kept : Kept) (parent child : ℕ) (why : Refusal)
    → ((why ≡ Memory) × DepRefusalIs kept.levels.limits (level_at kept.levels Top).graph parent child None)
    ⊎ ((why ≢ Memory) × DepRefusalIs kept.levels.limits (level_at kept.levels Top).graph parent child (Some why))
    → MakesStep kept kept (Dep parent child) (Refused why)
dep_refused kept parent child why row = elim row [
  | inl lacks ↦
      subst (λ r. MakesStep kept kept (Dep parent child) (Refused r)) (sym lacks.0)
      (steps_without_memory kept (Dep parent child) tt (dep_row kept parent child None lacks.1))
  | inr met ↦ steps_refused kept (Dep parent child) why (dep_row kept parent child (Some why) met.1)
]

-- ---- accepted changes of the top level

-- the levels after an accepted addition
abbrev pub IsAddedTo : ℕ → ℤ → ℕ → Levels → Levels → Type 0
IsAddedTo id fee size old new =
    (mid : Levels) × ChangesTop (λ a b. AddsName a b id (record { fee = fee; size = size })) old mid × (new ≡ record mid { issued = old.issued + 1 })

pub topped_same : (old new : Levels) (top : OneLevel) → new ≡ levels.with_top old top → AreTopped old top new
topped_same old new top is = subst (AreTopped old top) (sym is) (topped_from old top)

topped_added : (old mid new : Levels) (top : OneLevel) (n : ℕ) → mid ≡ levels.with_top old top → new ≡ record mid { issued = n } → AreTopped old top new
topped_added old mid new top n is made =
    subst (AreTopped old top) (sym (made ∙ ap (λ (l : Levels). record l { issued = n }) is)) (topped_with old top n)

module _ (most : ℕ) (begun : Bool) (old new : Levels) (picked : HavePicks new) where
  abbrev before : Kept
  before = kept_of most begun old

  abbrev after : Kept
  after = kept_of most true new

  pub add_step : (id : ℕ) (fee : ℤ) (size : ℕ) → id < 2 ^ 64 → AddRowIs before id fee size None → IsAddedTo id fee size old new
      → MakesStep before after (Add id fee size) Done
  add_step id fee size small row added =
      let change = added.1 in
      let names = live_listed old in
      let may = may_add old (length names.0) id fee size (row (length names.0) (counted old names.0 names.1)) in
      steps_added before after id fee size refl refl may.absent change.0 change.1
      (topped_added old added.0 new change.0 (old.issued + 1) change.2 added.2) small (add_met before id fee size None row) picked

  pub dep_step : IsSound before → (parent child : ℕ) → DepRefusalIs old.limits (level_at old Top).graph parent child None
      → ChangesTop (λ a b. AddsPair a b parent child) old new → (is_ancestor (level_at old Top).graph parent child ≡ true → new ≡ old)
      → MakesStep before after (Dep parent child) Done
  dep_step sound parent child row change still =
      let may = may_pair old.limits (level_at old Top).graph parent child row in
      steps_paired before after parent child refl refl may.above may.below may.no_way change.0 change.1 (topped_same old new change.0 change.2) still
      (order_sound before sound Top) (dep_row before parent child None row) picked

  pub remove_step : (id : ℕ) → is_member (level_at old Top).graph id ≡ true → ChangesTop (λ a b. DropsPlace a b id) old new
      → MakesStep before after (Remove id) Done
  remove_step id live change =
      steps_dropped before after id refl refl live change.0 change.1 (topped_same old new change.0 change.2) (known_here before Top id live) picked

  pub fee_step : (id : ℕ) (fee : ℤ) → IsFee fee → IsLive old id → SetsFeeIn id fee old new
      → (((level : Level) → is_member (level_at old level).graph id ≡ true → (rate_of (level_at old level).graph id).fee ≡ fee) → new ≡ old)
      → MakesStep before after (SetFee id fee) Done
  fee_step id fee in_range live sets still =
      steps_paid before after id fee refl refl live sets still (fee_row before id fee in_range live) picked

-- ---- other limits

-- before the first change there is no name, and no staging
pub none_yet : (kept : Kept) → IsSound kept → kept.begun ≡ false
    → ((id : ℕ) → is_member kept.levels.main.graph id ≡ false) × (kept.levels.staging ≡ None)
none_yet kept sound not_yet =
    let state = sound.stands.0.plain in
    let stands = sound.stands.1.plain in
    let fresh = stands.valid.fresh (stands.begun ∙ not_yet) in (
      λ id. false_from_ne_true (is_member kept.levels.main.graph id) (λ member.
          none_in_empty id (subst (λ ns. Contains ns id) fresh.0 ((named kept state stands Main id).1 member))),
      closed_level kept.levels.staging state.staging stands.staging fresh.1,
    )

pub limits_step : (most : ℕ) (set : Limits) (begun : Bool) (old new : Levels) → IsSound (kept_of most begun old) → HavePicks new → begun ≡ false
    → AreInRange most (bounds_of set) → new ≡ record old { limits = set }
    → MakesStep (kept_of most begun old) (kept_of most true new) (SetLimits (bounds_of set)) Done
limits_step most set begun old new sound picked not_yet in_range is =
    let blank = none_yet (kept_of most begun old) sound not_yet in
    steps_limited (kept_of most begun old) (kept_of most true new) set is refl refl blank.0 blank.1
    (limits_row (kept_of most begun old) set not_yet in_range) picked

-- ---- staging

pub picks_opened : (old new : Levels) → new ≡ opened old → HavePicks old → HavePicks new
picks_opened old new is picked = subst HavePicks (sym is) (picks_of_opened old picked)

pub picks_committed : (old new : Levels) → new ≡ committed old → HavePicks old → HavePicks new
picks_committed old new is picked = subst HavePicks (sym is) (picks_of_committed old picked)

pub picks_aborted : (old new : Levels) → new ≡ aborted old → HavePicks old → HavePicks new
picks_aborted old new is picked = subst HavePicks (sym is) (picks_of_aborted old picked)

better_or_not : (verdict : Verdict) → (verdict ≡ Better) ⊎ (verdict ≢ Better)
better_or_not Better = inl refl
better_or_not Worse = inr (λ e. cc)
better_or_not Equal = inr (λ e. cc)
better_or_not Incomparable = inr (λ e. cc)

pub picks_settled : (old new : Levels) (verdict : Verdict) → (verdict ≡ Better → new ≡ committed old) → (verdict ≢ Better → new ≡ aborted old)
    → HavePicks old → HavePicks new
picks_settled old new verdict better other picked = elim (better_or_not verdict) [
  | inl is ↦ picks_committed old new (better is) picked
  | inr not ↦ picks_aborted old new (other not) picked
]

module _ (most : ℕ) (begun : Bool) (old new : Levels) where
  abbrev first : Kept
  first = kept_of most begun old

  abbrev last : Kept
  last = kept_of most true new

  pub stage_step : is_some old.staging ≡ false → new ≡ opened old → MakesStep first last Stage Done
  stage_step alone is = steps_opened first last refl refl alone is (closed_row first alone)

  pub commit_step : HavePicks old → is_some old.staging ≡ true → new ≡ committed old → MakesStep first last Commit Done
  commit_step picked open_is is = steps_committed first last refl refl is open_is (open_row first open_is)

  pub abort_step : HavePicks old → is_some old.staging ≡ true → new ≡ aborted old → MakesStep first last Abort Done
  abort_step picked open_is is = steps_aborted first last refl refl is picked (open_row first open_is)

  pub settle_step : (verdict : Verdict) → HavePicks old → AreRated old → AreWithin old → ComparesParts old.main.parts (level_at old Top).parts verdict
      → is_some old.staging ≡ true → (verdict ≡ Better → new ≡ committed old) → (verdict ≢ Better → new ≡ aborted old)
      → MakesStep first last Settle (Settled verdict)
  settle_step verdict picked rated within compares open_is better other = elim (better_or_not verdict) [
    | inl is ↦ steps_settled first last verdict picked rated within compares open_is refl refl is (better is)
    | inr not ↦ steps_unsettled first last verdict picked rated within compares open_is refl refl not (other not)
  ]

-- ---- readings

module _ (graph : Closure) (id : ℕ) (c : Cluster) (cluster : IsClusterOf graph id c) (ids : List ℕ) where
  pub cluster_lists : Lists (λ q. Contains c.names q) ids → Lists (λ q. AreLinked graph id q) ids
  cluster_lists = Lists-for (λ q. Contains c.names q) (λ q. AreLinked graph id q) ids cluster.linked cluster.alone

  pub ancestors_list : Lists (λ q. is_ancestor c.graph q id ≡ true) ids → Lists (λ q. is_ancestor graph q id ≡ true) ids
  ancestors_list = Lists-for (λ q. is_ancestor c.graph q id ≡ true) (λ q. is_ancestor graph q id ≡ true) ids
      (λ q up. cluster.above q id cluster.here ∙ up) (λ q up. sym (cluster.above q id cluster.here) ∙ up)

  pub descendants_list : Lists (λ q. is_ancestor c.graph id q ≡ true) ids → Lists (λ q. is_ancestor graph id q ≡ true) ids
  descendants_list = Lists-for (λ q. is_ancestor c.graph id q ≡ true) (λ q. is_ancestor graph id q ≡ true) ids
      (λ q up. cluster.below id q cluster.here ∙ up) (λ q up. sym (cluster.below id q cluster.here) ∙ up)

pub sums_some : (kept : Kept) (level : Level) (id : ℕ) (rate : FeeRate) → is_member (level_at kept.levels level).graph id ≡ true
    → rate ≡ rate_of (level_at kept.levels level).graph id → (state : State) → StandsFor kept state
    → finmap.get state.plain.table id ≡ Some (record { fee = rate.fee; size = rate.size })
sums_some kept level id rate live rated state stands = stands.plain.table.names level id live ∙ ap (λ r. Some (entry_of r)) (sym rated)

-- what is found of a name that main hasn't
pub sums_found : (kept : Kept) (id : ℕ) (found : Option FeeRate) → is_member kept.levels.main.graph id ≡ false
    → MatchOption found (is_member (level_at kept.levels Top).graph id ≡ false)
    (λ rate. (is_member (level_at kept.levels Top).graph id ≡ true) × (rate ≡ rate_of (level_at kept.levels Top).graph id))
    → (state : State) → StandsFor kept state
    → finmap.get state.plain.table id ≡ option_map (λ (rate : FeeRate). record { fee = rate.fee; size = rate.size }) found
sums_found kept id None absent none state stands =
    stands.plain.table.none id (λ live. elim live [ inl one ↦ true≢false (sym one ∙ absent) | inr two ↦ true≢false (sym two ∙ none) ])
sums_found kept id (Some rate) absent here state stands = sums_some kept Top id rate here.0 here.1 state stands

-- ---- steps

-- the steps of a call that makes one cluster of the names that are linked to one of two
abbrev pub GrowsForPair : ℕ → ℕ → ℕ → ℕ → Kept → Type 0
GrowsForPair parent child start end kept =
    let graph = (level_at kept.levels Top).graph in
    (ids : List ℕ) → Lists (λ q. AreLinked graph q parent ⊎ AreLinked graph q child) ids → GrowsWithin (most_steps_fit kept.levels.limits graph ids) start end

-- and of one that drops a name
abbrev pub GrowsForParts : ℕ → ℕ → ℕ → Kept → Type 0
GrowsForParts id start end kept = DropsWithin kept.levels.limits (id ∷ []) (level_at kept.levels Top).graph start end

-- a fee that is the same takes no step
abbrev pub FreeForFee : ℕ → ℤ → ℕ → ℕ → Kept → Type 0
FreeForFee id fee start end kept =
    ((level : Level) → is_member (level_at kept.levels level).graph id ≡ true → (rate_of (level_at kept.levels level).graph id).fee ≡ fee) → end ≡ start
