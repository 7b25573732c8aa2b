-- Which states a graph stands for, and the steps of the machine that change nothing.
use Rattle.std.proofs.Common.{◌≡◌, ℕ, Bool, true, false, sym, refl, ap, subst, ◌∙◌, inl, inr, ◌⊎◌, ◌↔◌, Option, None, Some, is_some, true≢false}
use Rattle.std.specs.Prelude.{Contains}
use Rattle.std.specs.FinMap as finmap
use Rattle.lists.proofs.Cases.{some_none}
use Rattle.graphs.specs.declared.names.Level.{Level}
use Rattle.graphs.specs.declared.names.Level.TheVariants.{Main, Top}
use Rattle.graphs.specs.Closures.{is_member, is_ancestor, IsOrder, AreLinked}
use Rattle.graphs.specs.Graphs.{Graph, IsAncestor, AreConnected}
use Rattle.graphs.proofs.ClosingLemmas.{order_from, ancestors_told, connected_linked}
use Rattle.cluster.specs.Clusters.{sum_at}
use Rattle.graph_model.specs.declared.names.Refusal.{Refusal}
use Rattle.graph_model.specs.declared.names.Refusal.TheVariants.{Memory}
use Rattle.graph_model.specs.Limits.{bounds_of}
use Rattle.graph_model.specs.Validity.{IsValid}
use Rattle.graph_model.specs.States.{PlainState, Table, level_of, top_of, sum_in, size_of}
use Rattle.graph_model.specs.States as states
use Rattle.graph_model.specs.Commands.{Command}
use Rattle.graph_model.specs.Refusals.{RefusalIs}
use Rattle.graph_model.specs.Replies.{Refused}
use Rattle.graph_model.specs.Steps.{MayLackMemory}
use Rattle.levels.specs.Levels.{OneLevel, Levels, level_at, IsLive}
use Rattle.tx_graph.specs.Kept.{Kept, HasRates, IsGraphOf, IsStagingOf, StandsPlainly, MakesStep}

-- ---- one level

module _ (level : OneLevel) (graph : Graph) (of : IsGraphOf level graph) where
  pub order_kept : IsOrder (is_member level.graph) (is_ancestor level.graph)
  order_kept = order_from (is_member level.graph) (is_ancestor level.graph) graph of.closure of.among

  pub told : (a b : ℕ) → IsAncestor graph.pairs a b ↔ ((a ≡ b) ⊎ (is_ancestor level.graph a b ≡ true))
  told = ancestors_told (is_member level.graph) (is_ancestor level.graph) graph of.closure order_kept

  -- names are connected by pairs where steps to ancestors and descendants lead from the one to the other
  pub connected-linked : (a b : ℕ) → AreConnected graph.pairs a b ↔ AreLinked level.graph a b
  connected-linked = connected_linked level.graph graph order_kept of.closure

-- ---- what is shown of a state before it is known to be valid

-- A graph stands for a plain state, but that this is valid.
pub record StandsBarely (kept : Kept) (state : PlainState) : Type 0 where
  pub limits : state.limits ≡ bounds_of kept.levels.limits
  pub most : state.most ≡ kept.most
  pub begun : state.begun ≡ kept.begun
  pub table : HasRates kept.levels state.table
  pub main : IsGraphOf kept.levels.main state.main
  pub staging : IsStagingOf kept.levels.staging state.staging

pub made_valid : (kept : Kept) (state : PlainState) → StandsBarely kept state → IsValid state → StandsPlainly kept state
made_valid kept state stands valid = record {
  limits = stands.limits;
  most = stands.most;
  begun = stands.begun;
  table = stands.table;
  main = stands.main;
  staging = stands.staging;
  valid = valid;
}

-- ---- both levels

staged_alike : (level : Option OneLevel) (staging : Option Graph) → IsStagingOf level staging → is_some staging ≡ is_some level
staged_alike None None of = refl
staged_alike None (Some graph) of = absurd of
staged_alike (Some level) None of = absurd of
staged_alike (Some level) (Some graph) of = refl

pub top_graph : (main : OneLevel) (graph : Graph) (level : Option OneLevel) (staging : Option Graph) → IsGraphOf main graph → IsStagingOf level staging
    → IsGraphOf (top_of main level) (top_of graph staging)
top_graph main graph None None one of = one
top_graph main graph None (Some staging) one of = absurd of
top_graph main graph (Some level) None one of = absurd of
top_graph main graph (Some level) (Some staging) one of = of

-- the graph of an open staging
pub open_level : (level : Option OneLevel) (staging : Option Graph) (graph : Graph) → IsStagingOf level staging → staging ≡ Some graph
    → (one : OneLevel) × (level ≡ Some one) × IsGraphOf one graph
open_level None None graph of is = absurd (some_none graph (sym is))
open_level None (Some other) graph of is = absurd of
open_level (Some one) None graph of is = absurd of
open_level (Some one) (Some other) graph of is = (one, refl, subst (IsGraphOf one) (one_of other graph is) of)
  where
    one_of : (a b : Graph) → Some a ≡ Some b → a ≡ b
    one_of a b same = cc

pub closed_level : (level : Option OneLevel) (staging : Option Graph) → IsStagingOf level staging → staging ≡ None → level ≡ None
closed_level None None of is = refl
closed_level None (Some other) of is = absurd of
closed_level (Some one) None of is = absurd of
closed_level (Some one) (Some other) of is = absurd (some_none other is)

module _ (kept : Kept) (state : PlainState) (stands : StandsPlainly kept state) where
  pub graph_at : (level : Level) → IsGraphOf (level_at kept.levels level) (level_of state level)
  graph_at Main = stands.main
  graph_at Top = top_graph kept.levels.main state.main kept.levels.staging state.staging stands.main stands.staging

  pub named : (level : Level) (id : ℕ) → Contains (level_of state level).names id ↔ (is_member (level_at kept.levels level).graph id ≡ true)
  named level = (graph_at level).closure.names

  pub staged : is_some state.staging ≡ is_some kept.levels.staging
  staged = staged_alike kept.levels.staging state.staging stands.staging

-- ---- what is live

told_live : (a b : Bool) → ((a ≡ true) ⊎ (b ≡ true)) ⊎ (((a ≡ true) ⊎ (b ≡ true)) → ⊥)
told_live true b = inl (inl refl)
told_live false true = inl (inr refl)
told_live false false = inr (λ live. elim live [ inl one ↦ true≢false (sym one) | inr two ↦ true≢false (sym two) ])

pub live_or_not : (levels : Levels) (id : ℕ) → IsLive levels id ⊎ (IsLive levels id → ⊥)
live_or_not levels id = told_live (is_member levels.main.graph id) (is_member (level_at levels Top).graph id)

-- a name of a level is live
pub live_at : (levels : Levels) (level : Level) (id : ℕ) → is_member (level_at levels level).graph id ≡ true → IsLive levels id
live_at levels Main id member = inl member
live_at levels Top id member = inr member

-- ---- tables

module _ (levels : Levels) (table : Table) (rates : HasRates levels table) where
  -- the sum of a name of a level
  pub sum_kept : (level : Level) (id : ℕ) → is_member (level_at levels level).graph id ≡ true
      → states.rate_of table id ≡ sum_at (level_at levels level).graph id
  sum_kept level id member = ap sum_in (rates.names level id member)

  pub size_kept : (level : Level) (id : ℕ) → is_member (level_at levels level).graph id ≡ true
      → size_of table id ≡ (sum_at (level_at levels level).graph id).size
  size_kept level id member = ap states.size_in (rates.names level id member)

  -- a name is live where it is in a level
  pub live_told : (id : ℕ) → IsLive levels id ↔ (is_some (finmap.get table id) ≡ true)
  live_told id = (
    λ live. elim live [ inl one ↦ ap is_some (rates.names Main id one) | inr two ↦ ap is_some (rates.names Top id two) ],
    λ there. elim (live_or_not levels id) [ inl live ↦ live | inr none ↦ absurd (true≢false (sym there ∙ ap is_some (rates.none id none))) ],
  )

-- ---- steps that change nothing

-- what a command meets in every state that the graph stands for
abbrev pub Meets : Kept → Command → Option Refusal → Type 0
Meets kept command found = (state : PlainState) → StandsPlainly kept state → RefusalIs state command found

pub steps_refused : (kept : Kept) (command : Command) (why : Refusal) → Meets kept command (Some why) → MakesStep kept kept command (Refused why)
steps_refused kept command why refused state stands =
    (state, stands, inl (record { why = why; first = refused state.plain stands.plain; told = refl; same = refl }))

pub steps_without_memory : (kept : Kept) (command : Command) → MayLackMemory command → Meets kept command None → MakesStep kept kept command (Refused Memory)
steps_without_memory kept command may none state stands =
    (state, stands, inr (inl (inl (record { none = none state.plain stands.plain; may = may; told = refl; same = refl }))))
