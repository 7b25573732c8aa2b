-- What is told of main's order, by the graph beside its mined blocks.
use Rattle.std.proofs.Common.{◌≡◌, ℕ, List, Option, None, Some, inl, inr, true, refl, sym, ap, subst, ◌∙◌, eqb, ne_eqb, get_or, true≢false}
use Rattle.std.specs.Prelude.{◌↔◌, ◌⊎◌, Bool, false, Contains, IsSome, IsTrue}
use Rattle.std.specs.List.Sorted.{IsPermutation, IsNonDecreasing}
use Rattle.std.proofs.lemmas.List.Sorted.{Contains-permutation, IsPermutation-sym}
use Rattle.std.proofs.lemmas.Map.Keys.{IsDistinct-from_apart, IsStrictlyIncreasing-from_distinct}
use Rattle.lists.specs.Distinct.{AreDistinct}
use Rattle.lists.proofs.Cases.{clash, some_none}
use Rattle.lists.proofs.Distinct.{places_apart}
use Rattle.dump_text.proofs.Rising.{distinct_moved}
use Rattle.graphs.specs.Certificates.{Part}
use Rattle.graphs.specs.Closures.{is_member}
use Rattle.graphs.specs.Graphs.{Graph, Lists}
use Rattle.graphs.specs.declared.names.Level.{Level}
use Rattle.graphs.specs.declared.names.Level.TheVariants.{Main, Top}
use Rattle.graph_model.specs.declared.names.Limits.{Limits}
use Rattle.graph_model.specs.declared.names.Refusal.{Refusal}
use Rattle.graph_model.specs.declared.names.Refusal.TheVariants.{Memory}
use Rattle.graph_model.specs.Commands.{Command}
use Rattle.graph_model.specs.Refusals.{RefusalIs}
use Rattle.graph_model.specs.Replies.{Refused}
use Rattle.graph_model.specs.States.{State, IsStaged, level_of, pick_of, top_of}
use Rattle.levels.specs.Levels.{IsWithin, Levels, OneLevel, level_at}
use Rattle.levels.specs.Oversize.{IsOversized}
use Rattle.tx_graph.specs.Kept as graphs
use Rattle.tx_graph.proofs.Standing.{graph_at}
use Rattle.tx_graph.specs.Readings.{CompareRefusalIs}
use Rattle.reorg.specs.Kept.{StandsFor}
use Rattle.desk.specs.declared.desk.Desk.{Desk}
use Rattle.desk.specs.declared.desk.Held.{Held}
use Rattle.desk.specs.Calls.{LacksRoom}
use Rattle.desk.specs.Numbers.{code_of, kept_of}
use Rattle.desk.specs.Orders.{Holds, IsRefused}

picked : (limits : Limits) (level : OneLevel) (pick : Option (List Part)) → graphs.IsPickOf limits level pick
    → (IsOversized limits level.graph → ⊥) → pick ≡ Some level.parts
picked limits level None over within = absurd (within over)
picked limits level (Some parts) is within = ap Some is.1

top_picked : (limits : Limits) (main : OneLevel) (p : Option (List Part)) (staging : Option OneLevel) (q : Option (Option (List Part)))
    → graphs.IsPickOf limits main p → graphs.IsStagingPickOf limits staging q → graphs.IsPickOf limits (top_of main staging) (top_of p q)
top_picked limits main p None None one two = one
top_picked limits main p None (Some q) one two = absurd two
top_picked limits main p (Some level) None one two = absurd two
top_picked limits main p (Some level) (Some q) one two = two

-- where a level isn't over the limits, its parts are its pick
pub pick_is : (kept : graphs.Kept) (state : State) (level : Level) → graphs.StandsFor kept state → IsWithin kept.levels level
    → pick_of state.picks level ≡ Some (level_at kept.levels level).parts
pick_is kept state Main stands within = picked kept.levels.limits kept.levels.main state.picks.main stands.picks.main within
pick_is kept state Top stands within =
    picked kept.levels.limits (level_at kept.levels Top) (pick_of state.picks Top)
    (top_picked kept.levels.limits kept.levels.main state.picks.main kept.levels.staging state.picks.staging stands.picks.main stands.picks.staging) within

-- the answer no tells that a level isn't over the limits
pub not_over : (levels : Levels) (level : Level) (over : Bool) → IsTrue over ↔ IsOversized levels.limits (level_at levels level).graph → over ≡ false
    → IsWithin levels level
not_over levels level over exact isnt here = clash over (exact.1 here) isnt

-- what is so of the states of a graph is so of those of a graph with its blocks
pub of_pool : (desk : Desk) (graph : graphs.Kept) → graph ≡ desk.pool.graph → (P : State → Type 0)
    → ((state : State) → graphs.StandsFor graph state → P state) → (state : State) → StandsFor desk.pool state → P state
of_pool desk graph is P so state stands = so state (subst (λ (g : graphs.Kept). graphs.StandsFor g state) (sym is) stands.graph)

no_staging : (kept : Option OneLevel) (staging : Option Graph) → graphs.IsStagingOf kept staging → kept ≡ None → IsSome staging → ⊥
no_staging None None is none some = absurd (true≢false (sym some))
no_staging None (Some graph) is none some = is
no_staging (Some level) staging is none some = absurd (some_none level none)

-- nothing refuses a comparison where there is a staging and neither level is over the limits
pub compares : (kept : graphs.Kept) (state : State) (why : Refusal) → graphs.StandsFor kept state → CompareRefusalIs kept.levels (Some why)
    → IsStaged state.plain → IsWithin kept.levels Main → IsWithin kept.levels Top → ⊥
compares kept state why stands row staged main top = elim row [
  | inl alone ↦ no_staging kept.levels.staging state.plain.staging stands.plain.staging alone.0 staged
  | inr later ↦ elim later.1 [
    | inl over ↦ elim over.0 [ inl first ↦ main first | inr second ↦ top second ]
    | inr none ↦ absurd (some_none why none.1)
  ]
]

-- a level's names are the members of what is kept of it
pub level_names : (kept : graphs.Kept) (state : State) → graphs.StandsFor kept state → (level : Level) (id : ℕ)
    → (is_member (level_at kept.levels level).graph id ≡ true) ↔ Contains (level_of state.plain level).names id
level_names kept state stands level id = let names = (graph_at kept state.plain stands.plain level).closure.names id in (names.1, names.0)

-- a sorted list of what has a property has it in rising order
pub sorted_lists : (P : ℕ → Type 0) (ids sorted : List ℕ) → AreDistinct ids → ((id : ℕ) → Contains ids id ↔ P id) → IsPermutation ids sorted
    → IsNonDecreasing sorted → Lists P sorted
sorted_lists P ids sorted once exact moved rises = record {
  rising = IsStrictlyIncreasing-from_distinct sorted rises
      (IsDistinct-from_apart eqb sorted (λ i j d before below. ne_eqb (get_or sorted i d) (get_or sorted j d)
      (λ e. places_apart sorted i j d (distinct_moved ids sorted moved once) before below e)));
  exact = λ id. (
    λ here. (exact id).0 (Contains-permutation sorted ids id (IsPermutation-sym ids sorted moved) here),
    λ is. Contains-permutation ids sorted id moved ((exact id).1 is),
  );
}

-- a reading that is refused, as a command is or for want of memory
pub reads_none : (desk : Desk) (command : Command) (code kept : ℕ) (why : Refusal) (Shows : State → Held → Held → Type 0)
    → code ≡ code_of (Refused why) → kept ≡ kept_of (Refused why)
    → (why ≡ Memory) ⊎ ((state : State) → StandsFor desk.pool state → RefusalIs state.plain command (Some why))
    → LacksRoom desk desk code kept ⊎ (IsRefused desk desk command code kept ⊎ Holds desk desk code kept Shows)
reads_none desk command code kept why Shows told keeps h = elim h [
  | inl none ↦ inl (record {
    code_is = told ∙ ap (λ (w : Refusal). code_of (Refused w)) none;
    kept_is = keeps ∙ ap (λ (w : Refusal). kept_of (Refused w)) none;
    same = refl;
  })
  | inr row ↦ inr (inl (record { why = why; row = row; code_is = told; kept_is = keeps; same = refl }))
]
