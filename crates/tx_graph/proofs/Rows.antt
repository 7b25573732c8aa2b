-- The rows of refusals, by the levels that are kept.
use Rattle.std.proofs.Common.{◌≡◌, ℕ, ℤ, ◌<◌, true, false, List, sym, refl, ap, subst, ◌∙◌, inl, inr, ◌⊎◌, ◌↔◌, Option, None, Some, is_some, true≢false}
use Rattle.std.specs.Prelude.{Contains, sum_by}
use Rattle.std.proofs.lemmas.Bool.{false_from_ne_true, true_from_ne_false}
use Rattle.lists.proofs.Cases.{none_of}
use Rattle.lists.proofs.Walks.{Walk-keeps}
use Rattle.fee_rate.specs.Limits.{IsFee}
use Rattle.graphs.specs.declared.names.Level.{Level}
use Rattle.graphs.specs.declared.names.Level.TheVariants.{Main, Top}
use Rattle.graphs.specs.Closures.{is_member, is_ancestor, rate_of, IsRelated, AreLinked}
use Rattle.graphs.specs.Graphs.{Graph, IsAncestor, AreConnected, Lists}
use Rattle.graphs.proofs.ClosingLemmas.{linked_back}
use Rattle.graphs.proofs.ListLemmas.{Lists-for}
use Rattle.graph_model.specs.declared.names.Limits.{Limits}
use Rattle.graph_model.specs.declared.names.Refusal.{Refusal}
use Rattle.graph_model.specs.declared.names.Refusal.TheVariants.{Late, Range, Fee, Unknown, Cycle, Count, ClusterSize, Staging, NoStaging, Oversized}
use Rattle.graph_model.specs.Limits.{Bounds, AreInRange, bounds_of}
use Rattle.graph_model.specs.States.{PlainState, level_of, size_of, IsStaged}
use Rattle.graph_model.specs.Commands.{SetLimits, Dep, SetFee, Before}
use Rattle.graph_model.specs.Oversize.{IsOversized}
use Rattle.graph_model.specs.Refusals.{RefusalIs, First, NoRefusal, NameRow, CompareRow, IsAbsent, OverCount, OverSize}
use Rattle.arithmetic.proofs.Sums.{sum_by_along}
use Rattle.graph_model.proofs.RowLemmas.{first_along, first_at_along}
use Rattle.levels.specs.Levels.{OneLevel, Levels, level_at, IsLive, IsWithin}
use Rattle.levels.specs.Oversize as over_limits
use Rattle.levels.specs.Joins.{JoinsTo, JoinsTooMany, JoinsTooLarge, DepRefusalIs}
use Rattle.tx_graph.specs.Kept.{Kept, IsGraphOf, StandsPlainly}
use Rattle.tx_graph.specs.Readings.{CompareRefusalIs, NameRefusalIs}
use Rattle.tx_graph.proofs.Oversizing.{none_over, oversized_at}
use Rattle.tx_graph.proofs.Standing.{order_kept, told, connected-linked, graph_at, named, staged, live_told, size_kept, Meets}

-- ---- limits

pub late_row : (kept : Kept) (set : Limits) → kept.begun ≡ true → Meets kept (SetLimits (bounds_of set)) (Some Late)
late_row kept set begun state stands = inl (stands.begun ∙ begun, refl)

early : (kept : Kept) → kept.begun ≡ false → (state : PlainState) → StandsPlainly kept state → state.begun ≡ true → ⊥
early kept not_yet state stands is = true≢false (sym is ∙ stands.begun ∙ not_yet)

pub range_row : (kept : Kept) (set : Limits) → kept.begun ≡ false → (AreInRange kept.most (bounds_of set) → ⊥)
    → Meets kept (SetLimits (bounds_of set)) (Some Range)
range_row kept set not_yet out state stands =
    inr (early kept not_yet state stands, inl ((λ is. out (subst (λ most. AreInRange most (bounds_of set)) stands.most is)), refl))

pub limits_row : (kept : Kept) (set : Limits) → kept.begun ≡ false → AreInRange kept.most (bounds_of set)
    → Meets kept (SetLimits (bounds_of set)) None
limits_row kept set not_yet in_range state stands =
    inr (early kept not_yet state stands, inr (λ out. out (subst (λ most. AreInRange most (bounds_of set)) (sym stands.most) in_range), refl))

-- ---- fees

pub fee_out_row : (kept : Kept) (id : ℕ) (fee : ℤ) → (IsFee fee → ⊥) → Meets kept (SetFee id fee) (Some Fee)
fee_out_row kept id fee out state stands = inl (out, refl)

pub fee_unknown_row : (kept : Kept) (id : ℕ) (fee : ℤ) → IsFee fee → (IsLive kept.levels id → ⊥) → Meets kept (SetFee id fee) (Some (Unknown id))
fee_unknown_row kept id fee in_range absent state stands =
    inr (λ out. out in_range, inl (λ live. absent ((live_told kept.levels state.table stands.table id).1 live), refl))

pub fee_row : (kept : Kept) (id : ℕ) (fee : ℤ) → IsFee fee → IsLive kept.levels id → Meets kept (SetFee id fee) None
fee_row kept id fee in_range live state stands =
    inr (λ out. out in_range, inr (λ none. none ((live_told kept.levels state.table stands.table id).0 live), refl))

-- ---- a name that must be in a level

-- a row that begins with an unknown name
pub unknown_first : (kept : Kept) (level : Level) (id : ℕ) (later : Option Refusal → Type 0) → is_member (level_at kept.levels level).graph id ≡ false
    → (state : PlainState) → StandsPlainly kept state → First (IsAbsent state level id) (Unknown id) later (Some (Unknown id))
unknown_first kept level id later fails state stands = inl (λ here. true≢false (sym ((named kept state stands level id).0 here) ∙ fails), refl)

pub unknown_here : (kept : Kept) (level : Level) (id : ℕ) → is_member (level_at kept.levels level).graph id ≡ false
    → (state : PlainState) → StandsPlainly kept state → First (IsAbsent state level id) (Unknown id) NoRefusal (Some (Unknown id))
unknown_here kept level id = unknown_first kept level id NoRefusal

pub known_here : (kept : Kept) (level : Level) (id : ℕ) → is_member (level_at kept.levels level).graph id ≡ true
    → (state : PlainState) → StandsPlainly kept state → First (IsAbsent state level id) (Unknown id) NoRefusal None
known_here kept level id holds state stands = inr (λ none. none ((named kept state stands level id).1 holds), refl)

-- the row of a reading of an order
pub ordered_row : (kept : Kept) (level : Level) → IsWithin kept.levels level → (state : PlainState) → StandsPlainly kept state
    → First (IsOversized state level) Oversized NoRefusal None
ordered_row kept level within state stands = inr (none_over kept level within state stands, refl)

-- the row of a reading of a name
pub name_row : (kept : Kept) (level : Level) (id : ℕ) → IsWithin kept.levels level → is_member (level_at kept.levels level).graph id ≡ true
    → (state : PlainState) → StandsPlainly kept state → NameRow (IsAbsent state level id) (IsOversized state level) id None
name_row kept level id within holds state stands =
    inr (λ none. none ((named kept state stands level id).1 holds), ordered_row kept level within state stands)

-- and where it is refused
pub unread_row : (kept : Kept) (level : Level) (id : ℕ) (found : Option Refusal) → NameRefusalIs kept.levels level id found
    → (state : PlainState) → StandsPlainly kept state → NameRow (IsAbsent state level id) (IsOversized state level) id found
unread_row kept level id found row state stands =
    let here = named kept state stands level id in
    first_along (Unknown id) (λ none there. none (here.0 there), λ none member. none (here.1 member))
    (first_along Oversized (oversized_at kept state stands level) (λ none. none)) row

pub no_first_row : (kept : Kept) (a b : ℕ) → is_member kept.levels.main.graph a ≡ false → Meets kept (Before a b) (Some (Unknown a))
no_first_row kept a b fails state stands = inl (λ here. true≢false (sym ((named kept state stands Main a).0 here) ∙ fails), refl)

pub no_second_row : (kept : Kept) (a b : ℕ) → is_member kept.levels.main.graph a ≡ true → is_member kept.levels.main.graph b ≡ false
    → Meets kept (Before a b) (Some (Unknown b))
no_second_row kept a b holds fails state stands =
    inr (λ none. none ((named kept state stands Main a).1 holds), inl (λ here. true≢false (sym ((named kept state stands Main b).0 here) ∙ fails), refl))

pub both_row : (kept : Kept) (a b : ℕ) → IsWithin kept.levels Main → is_member kept.levels.main.graph a ≡ true
    → is_member kept.levels.main.graph b ≡ true → Meets kept (Before a b) None
both_row kept a b within one two state stands =
    inr (λ none. none ((named kept state stands Main a).1 one), name_row kept Main b within two state stands)

pub over_row : (kept : Kept) (a b : ℕ) → over_limits.IsOversized kept.levels.limits kept.levels.main.graph → is_member kept.levels.main.graph a ≡ true
    → is_member kept.levels.main.graph b ≡ true → Meets kept (Before a b) (Some Oversized)
over_row kept a b over one two state stands =
    inr (
      λ none. none ((named kept state stands Main a).1 one),
      inr (λ none. none ((named kept state stands Main b).1 two), inl ((oversized_at kept state stands Main).0 over, refl)),
    )

-- ---- a staging that must be open, or closed

abbrev pub StagingRow : PlainState → Option Refusal → Type 0
StagingRow state found = First (IsStaged state) Staging NoRefusal found

abbrev pub NoStagingRow : PlainState → Option Refusal → Type 0
NoStagingRow state found = First (IsStaged state → ⊥) NoStaging NoRefusal found

pub staged_row : (kept : Kept) → is_some kept.levels.staging ≡ true → (state : PlainState) → StandsPlainly kept state → StagingRow state (Some Staging)
staged_row kept is state stands = inl (staged kept state stands ∙ is, refl)

pub closed_row : (kept : Kept) → is_some kept.levels.staging ≡ false → (state : PlainState) → StandsPlainly kept state → StagingRow state None
closed_row kept is state stands = inr (λ there. true≢false (sym there ∙ staged kept state stands ∙ is), refl)

pub unstaged_row : (kept : Kept) → is_some kept.levels.staging ≡ false → (state : PlainState) → StandsPlainly kept state
    → NoStagingRow state (Some NoStaging)
unstaged_row kept is state stands = inl (λ there. true≢false (sym there ∙ staged kept state stands ∙ is), refl)

pub open_row : (kept : Kept) → is_some kept.levels.staging ≡ true → (state : PlainState) → StandsPlainly kept state → NoStagingRow state None
open_row kept is state stands = inr (λ none. none (staged kept state stands ∙ is), refl)

-- the row of what reads the orders of both levels
abbrev pub BothRow : PlainState → Option Refusal → Type 0
BothRow state = CompareRow (IsStaged state → ⊥) (IsOversized state Main ⊎ IsOversized state Top)

-- neither level is over the limits
abbrev pub AreWithin : Levels → Type 0
AreWithin levels = IsWithin levels Main × IsWithin levels Top

pub compare_row : (kept : Kept) → is_some kept.levels.staging ≡ true → AreWithin kept.levels → (state : PlainState) → StandsPlainly kept state
    → BothRow state None
compare_row kept is within state stands =
    inr (
      λ none. none (staged kept state stands ∙ is),
      inr (
        λ over. elim over [
          | inl main ↦ none_over kept Main within.0 state stands main
          | inr top ↦ none_over kept Top within.1 state stands top
        ],
        refl,
      ),
    )

-- and where it is refused
pub uncompared_row : (kept : Kept) (found : Option Refusal) → CompareRefusalIs kept.levels found → (state : PlainState) → StandsPlainly kept state
    → BothRow state found
uncompared_row kept found row state stands =
    let is = staged kept state stands in
    let main = oversized_at kept state stands Main in
    let top = oversized_at kept state stands Top in
    first_along NoStaging (
      λ none there. true≢false (sym there ∙ is ∙ ap is_some none),
      λ none. none_of kept.levels.staging (false_from_ne_true (is_some kept.levels.staging) (λ there. none (is ∙ there))),
    )
    (first_along Oversized (
      λ over. elim over [ inl one ↦ inl (main.0 one) | inr two ↦ inr (top.0 two) ],
      λ over. elim over [ inl one ↦ inl (main.1 one) | inr two ↦ inr (top.1 two) ],
    ) (λ none. none)) row

-- ---- pairs

module _ (kept : Kept) (state : PlainState) (stands : StandsPlainly kept state) (parent child : ℕ) where
  abbrev top : OneLevel
  top = level_at kept.levels Top

  abbrev graph : Graph
  graph = level_of state Top

  of : IsGraphOf top graph
  of = graph_at kept state stands Top

  absent : (id : ℕ) → (is_member top.graph id ≡ true → ⊥) ↔ (Contains graph.names id → ⊥)
  absent id = (λ none here. none ((of.closure.names id).0 here), λ none member. none ((of.closure.names id).1 member))

  -- a name is linked to one of the two, or connected to it
  abbrev IsNear : ℕ → Type 0
  IsNear id = AreLinked top.graph id parent ⊎ AreLinked top.graph id child

  abbrev IsJoined : ℕ → Type 0
  IsJoined id = AreConnected graph.pairs id parent ⊎ AreConnected graph.pairs id child

  linked : (a b : ℕ) → AreConnected graph.pairs a b ↔ AreLinked top.graph a b
  linked = connected-linked top graph of

  near_joined : (id : ℕ) → IsNear id ↔ IsJoined id
  near_joined id = (
    λ near. elim near [ inl x ↦ inl ((linked id parent).1 x) | inr y ↦ inr ((linked id child).1 y) ],
    λ met. elim met [ inl x ↦ inl ((linked id parent).0 x) | inr y ↦ inr ((linked id child).0 y) ],
  )

  joins_to : (members : List ℕ) → JoinsTo top.graph parent child members ↔ ((AreConnected graph.pairs parent child → ⊥) × Lists IsJoined members)
  joins_to members = (
    λ joins. (
      λ trail. joins.0 ((linked parent child).0 trail),
      Lists-for IsNear IsJoined members (λ id. (near_joined id).0) (λ id. (near_joined id).1) joins.1,
    ),
    λ joins. (
      λ meet. joins.0 ((linked parent child).1 meet),
      Lists-for IsJoined IsNear members (λ id. (near_joined id).1) (λ id. (near_joined id).0) joins.1,
    ),
  )

  defer : state.limits.defer ≡ kept.levels.limits.defer
  defer = ap (λ (b : Bounds). b.defer) stands.limits

  too_many : (n : ℕ) → JoinsTooMany kept.levels.limits top.graph parent child n ↔ OverCount state parent child n
  too_many n = (
    λ many. (many.0, defer ∙ many.1, (joins_to many.0).0 many.2, many.3, subst (λ (l : Bounds). l.count < n) (sym stands.limits) many.4),
    λ many. (many.0, sym defer ∙ many.1, (joins_to many.0).1 many.2, many.3, subst (λ (l : Bounds). l.count < n) stands.limits many.4),
  )

  -- what is linked to a name of the level is one
  near_here : (a id : ℕ) → is_member top.graph a ≡ true → AreLinked top.graph id a → is_member top.graph id ≡ true
  near_here a id here meet =
      Walk-keeps (IsRelated top.graph) (λ q. is_member top.graph q ≡ true)
      (λ x y related there. elim related [ inl up ↦ (of.among x y up).1 | inr down ↦ (of.among y x down).0 ]) a id (linked_back top.graph id a meet) here

  module _ (above : is_member top.graph parent ≡ true) (below : is_member top.graph child ≡ true) where
    members_here : (members : List ℕ) → JoinsTo top.graph parent child members → (id : ℕ) → Contains members id → is_member top.graph id ≡ true
    members_here members joins id here = elim ((joins.1.exact id).0 here) [
      | inl meet ↦ near_here parent id above meet
      | inr meet ↦ near_here child id below meet
    ]

    -- fees and sizes of the table are those of the level
    sizes : (members : List ℕ) → JoinsTo top.graph parent child members
        → sum_by (size_of state.table) members ≡ sum_by (λ id. (rate_of top.graph id).size) members
    sizes members joins =
        sum_by_along (size_of state.table) (λ id. (rate_of top.graph id).size) members
        (λ id here. size_kept kept.levels state.table stands.table Top id (members_here members joins id here))

    too_large : (n : ℕ) → JoinsTooLarge kept.levels.limits top.graph parent child n ↔ OverSize state parent child n
    too_large n = (
      λ large. (
        large.0,
        defer ∙ large.1,
        (joins_to large.0).0 large.2,
        large.3 ∙ sym (sizes large.0 large.2),
        subst (λ (l : Bounds). l.size < n) (sym stands.limits) large.4,
      ),
      λ large.
          let joins = (joins_to large.0).1 large.2 in
          (large.0, sym defer ∙ large.1, joins, large.3 ∙ sizes large.0 joins, subst (λ (l : Bounds). l.size < n) stands.limits large.4),
    )

    -- a name of the level is an ancestor of itself
    cycle : (is_ancestor top.graph child parent ≡ true) ↔ IsAncestor graph.pairs child parent
    cycle = (
      λ up. (told top graph of child parent).1 (inr up),
      λ walk. elim ((told top graph of child parent).0 walk) [
        | inl same ↦ subst (λ x. is_ancestor top.graph x parent ≡ true) (sym same) ((order_kept top graph of).reflexive parent above)
        | inr up ↦ up
      ],
    )

  here_from : (id : ℕ) → ((is_member top.graph id ≡ true → ⊥) → ⊥) → is_member top.graph id ≡ true
  here_from id there = true_from_ne_false (is_member top.graph id) (λ fails. there (λ holds. true≢false (sym holds ∙ fails)))

  dep_row_here : (found : Option Refusal) → DepRefusalIs kept.levels.limits top.graph parent child found → RefusalIs state (Dep parent child) found
  dep_row_here found row = elim row [
    | inl here ↦ inl ((absent parent).0 here.0, here.1)
    | inr on ↦ inr (
      λ holds. on.0 ((absent parent).1 holds),
      elim on.1 [
        | inl here ↦ inl ((absent child).0 here.0, here.1)
        | inr more ↦
            let above = here_from parent on.0 in
            let below = here_from child more.0 in
            inr (
              λ holds. more.0 ((absent child).1 holds),
              first_along Cycle (cycle above below)
                  (first_at_along Count too_many (first_at_along ClusterSize (too_large above below) (λ none. none))) more.1,
            )
      ],
    )
  ]

pub dep_row : (kept : Kept) (parent child : ℕ) (found : Option Refusal) → DepRefusalIs kept.levels.limits (level_at kept.levels Top).graph parent child found
    → Meets kept (Dep parent child) found
dep_row kept parent child found row state stands = dep_row_here kept state stands parent child found row
