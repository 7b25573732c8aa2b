-- Refusals of a pair: the rows in which they come.
use Rattle.std.proofs.Common.{true, false, true≢false, ◌≡◌, ℕ, ◌<◌, ◌≤◌, List, length, sym, refl, ap, inl, inr, ◌⊎◌, ◌↔◌, ◌∙◌, arith, Option, None, Some}
use Rattle.std.specs.Prelude.{Contains, sum_by}
use Rattle.graph_model.specs.declared.names.Limits.{Limits}
use Rattle.graph_model.specs.declared.names.Refusal.{Refusal}
use Rattle.graph_model.specs.declared.names.Refusal.TheVariants.{Unknown, Cycle, Count, ClusterSize}
use Rattle.graphs.specs.Graphs.{IsAncestor, AreConnected}
use Rattle.graph_model.specs.States.{PlainState, Table, size_of}
use Rattle.graph_model.specs.Commands.{Dep}
use Rattle.graph_model.specs.Refusals.{RefusalIs, JoinsTo, OverCount, OverSize}
use Rattle.graph_model.proofs.RowLemmas.{first_at_along}
use Rattle.graphs.proofs.ListLemmas.{Lists-same}
use Rattle.plain_graph.specs.declared.tx.Tx.{Tx}
use Rattle.plain_graph.specs.Plain.{Kept, StandsFor, sizes_in}
use Rattle.plain_graph.specs.Sound.{names_of}
use Rattle.plain_graph.specs.Joins.{JoinsTooMany, JoinsTooLarge, JoinRefusalIs}
use Rattle.plain_graph.proofs.Standing.{HasTable, state_of, of_states, same_sizes}

-- two lists of a joined component are equal
same_members : (pairs : List (ℕ × ℕ)) (a b : ℕ) (one other : List ℕ) → JoinsTo pairs a b one → JoinsTo pairs a b other → one ≡ other
same_members pairs a b one other first second = Lists-same (λ id. AreConnected pairs id a ⊎ AreConnected pairs id b) one other first.1 second.1

pub join_too_many : (set : Limits) (txs : List Tx) (pairs : List (ℕ × ℕ)) (a b : ℕ) (members : List ℕ) (n : ℕ)
    → set.defer ≡ false → JoinsTo pairs a b members → n ≡ length members → set.count < n → JoinRefusalIs set txs pairs a b (Some (Count n))
join_too_many set txs pairs a b members n strict joins same over = inl (n, (members, strict, joins, same, over), refl)

not_too_many : (set : Limits) (pairs : List (ℕ × ℕ)) (a b : ℕ) (members : List ℕ)
    → JoinsTo pairs a b members → length members ≤ set.count → (n : ℕ) → JoinsTooMany set pairs a b n → ⊥
not_too_many set pairs a b members joins fits n many =
    let same : length many.0 ≡ length members = ap length (same_members pairs a b many.0 members many.2 joins) in
    let is : n ≡ length many.0 = many.3 in
    let over : set.count < n = many.4 in
    omega arith

pub join_too_large : (set : Limits) (txs : List Tx) (pairs : List (ℕ × ℕ)) (a b : ℕ) (members : List ℕ) (n : ℕ)
    → set.defer ≡ false → JoinsTo pairs a b members → length members ≤ set.count → n ≡ sum_by (sizes_in txs) members → set.size < n
    → JoinRefusalIs set txs pairs a b (Some (ClusterSize n))
join_too_large set txs pairs a b members n strict joins fits same over =
    inr (not_too_many set pairs a b members joins fits, inl (n, (members, strict, joins, same, over), refl))

not_too_large : (set : Limits) (txs : List Tx) (pairs : List (ℕ × ℕ)) (a b : ℕ) (members : List ℕ) → JoinsTo pairs a b members
    → sum_by (sizes_in txs) members ≤ set.size → (n : ℕ) → JoinsTooLarge set txs pairs a b n → ⊥
not_too_large set txs pairs a b members joins fits n large =
    let same : sum_by (sizes_in txs) large.0 ≡ sum_by (sizes_in txs) members =
    ap (sum_by (sizes_in txs)) (same_members pairs a b large.0 members large.2 joins) in
    let is : n ≡ sum_by (sizes_in txs) large.0 = large.3 in
    let over : set.size < n = large.4 in
    omega arith

pub join_fits : (set : Limits) (txs : List Tx) (pairs : List (ℕ × ℕ)) (a b : ℕ) (members : List ℕ) → JoinsTo pairs a b members
    → length members ≤ set.count → sum_by (sizes_in txs) members ≤ set.size → JoinRefusalIs set txs pairs a b None
join_fits set txs pairs a b members joins fits small =
    inr (not_too_many set pairs a b members joins fits, inr (not_too_large set txs pairs a b members joins small, refl))

-- names in one component make no new one
pub join_together : (set : Limits) (txs : List Tx) (pairs : List (ℕ × ℕ)) (a b : ℕ) → AreConnected pairs a b → JoinRefusalIs set txs pairs a b None
join_together set txs pairs a b together = inr (λ n many. many.2.0 together, inr (λ n large. large.2.0 together, refl))

-- where a pair may pass the limits, none meets a refusal for them
pub join_deferred : (set : Limits) (txs : List Tx) (pairs : List (ℕ × ℕ)) (a b : ℕ) → set.defer ≡ true → JoinRefusalIs set txs pairs a b None
join_deferred set txs pairs a b deferred =
    let not_strict : set.defer ≡ false → ⊥ = λ strict. true≢false (sym deferred ∙ strict) in
    inr (λ n many. not_strict many.1, inr (λ n large. not_strict large.1, refl))

same_totals : (txs : List Tx) (table : Table) → HasTable txs table → (ids : List ℕ) → sum_by (size_of table) ids ≡ sum_by (sizes_in txs) ids
same_totals txs table has ids = λ i. sum_by (same_sizes txs table has i) ids

-- a component is over the limits of a state exactly where it is over those of the graph
over_count : (kept : Kept) (table : Table) (a b n : ℕ) → JoinsTooMany kept.limits kept.pairs a b n ↔ OverCount (state_of kept table) a b n
over_count kept table a b n = (λ many. many, λ over. over)

over_size : (kept : Kept) (table : Table) → HasTable kept.txs table → (a b n : ℕ)
    → JoinsTooLarge kept.limits kept.txs kept.pairs a b n ↔ OverSize (state_of kept table) a b n
over_size kept table has a b n = (
  λ large. (large.0, large.1, large.2, large.3 ∙ sym (same_totals kept.txs table has large.0), large.4),
  λ over. (over.0, over.1, over.2, over.3 ∙ same_totals kept.txs table has over.0, over.4),
)

-- the row of `dep`, of names that are live and no cycle, ends with the joined component's
pub dep_join : (kept : Kept) (a b : ℕ) (found : Option Refusal) → Contains (names_of kept.txs) a
    → Contains (names_of kept.txs) b → (IsAncestor kept.pairs b a → ⊥) → JoinRefusalIs kept.limits kept.txs kept.pairs a b found
    → (state : PlainState) → StandsFor kept state → RefusalIs state (Dep a b) found
dep_join kept a b found here there no_cycle join =
    of_states kept (λ (state : PlainState). RefusalIs state (Dep a b) found)
    (λ table has valid. inr (
      λ absent. absent here,
      inr (
        λ absent. absent there,
        inr (
          no_cycle,
          first_at_along Count (over_count kept table a b) (first_at_along ClusterSize (over_size kept table has a b) (λ none. none)) join,
        ),
      ),
    ))

pub dep_cycle : (kept : Kept) (a b : ℕ) → Contains (names_of kept.txs) a → Contains (names_of kept.txs) b
    → IsAncestor kept.pairs b a → (state : PlainState) → StandsFor kept state → RefusalIs state (Dep a b) (Some Cycle)
dep_cycle kept a b here there cycle =
    of_states kept (λ (state : PlainState). RefusalIs state (Dep a b) (Some Cycle))
    (λ table has valid. inr (λ absent. absent here, inr (λ absent. absent there, inl (cycle, refl))))

pub dep_no_parent : (kept : Kept) (a b : ℕ) → (Contains (names_of kept.txs) a → ⊥)
    → (state : PlainState) → StandsFor kept state → RefusalIs state (Dep a b) (Some (Unknown a))
dep_no_parent kept a b absent = of_states kept (λ (state : PlainState). RefusalIs state (Dep a b) (Some (Unknown a))) (λ table has valid. inl (absent, refl))

pub dep_no_child : (kept : Kept) (a b : ℕ) → Contains (names_of kept.txs) a → (Contains (names_of kept.txs) b → ⊥)
    → (state : PlainState) → StandsFor kept state → RefusalIs state (Dep a b) (Some (Unknown b))
dep_no_child kept a b here absent =
    of_states kept (λ (state : PlainState). RefusalIs state (Dep a b) (Some (Unknown b))) (λ table has valid. inr (λ missing. missing here, inl (absent, refl)))
