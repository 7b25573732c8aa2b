-- The steps of the machine that a pair and a reading of names are.
use Rattle.std.proofs.Common.{◌≡◌, ℕ, true, List, [], ◌∷◌, ◌++◌, length, sym, refl, subst, ◌↔◌, Option, ap, ◌∙◌, inl, inr, None, Some, Result, Ok, Err}
use Rattle.std.specs.Prelude.{Contains, MatchResult}
use Rattle.std.proofs.lemmas.List.Elements.{Contains-push_cases}
use Rattle.graph_model.specs.declared.names.Limits.{Limits}
use Rattle.graphs.specs.declared.names.Level.{Level}
use Rattle.graph_model.specs.declared.names.Refusal.{Refusal}
use Rattle.graph_model.specs.declared.names.Refusal.TheVariants.{Unknown, Oversized}
use Rattle.graphs.specs.Graphs.{Graph, IsAncestor, AreConnected, Lists}
use Rattle.graph_model.specs.States.{PlainState, Table, with_top}
use Rattle.graph_model.specs.Limits.{bounds_of}
use Rattle.graph_model.specs.Validity.{IsValid}
use Rattle.graph_model.specs.Changes.{begun}
use Rattle.graph_model.specs.Commands.{Dep, Cluster, Ancestors, Descendants}
use Rattle.graph_model.specs.Oversize.{IsOversized}
use Rattle.graph_model.specs.Refusals.{RefusalIs, IsAbsent, NameRow}
use Rattle.graph_model.proofs.RowLemmas.{first_along}
use Rattle.plain_graph.specs.Overs.{IsOver, WalkRefusalIs}
use Rattle.plain_graph.proofs.OverLemmas.{over_level}
use Rattle.graphs.specs.declared.names.Level.TheVariants.{Main, Top}
use Rattle.graph_model.specs.Replies.{Ids, Done}
use Rattle.plain_graph.specs.declared.tx.Tx.{Tx}
use Rattle.plain_graph.specs.declared.walk.Way.{Way}
use Rattle.plain_graph.specs.declared.walk.Way.TheVariants.{Up, Down, Either}
use Rattle.graph_model.specs.Replies.{names_reply}
use Rattle.plain_graph.specs.Plain.{Kept, StandsFor, Steps, entry_in}
use Rattle.plain_graph.specs.Sound.{names_of, IsSound}
use Rattle.plain_graph.specs.Walks.{Reaches}
use Rattle.lists.proofs.Distinct.{distinct_push}
use Rattle.plain_graph.proofs.Standing.{IsSameGraph, HasTable, state_of, of_states, stands_for, stands_still, level-main, steps_refused, steps_accepted}

pub same_but_found : (old new : Kept) (ids : List ℕ) → new ≡ record old { found = ids } → IsSameGraph old new
same_but_found old new ids same = record {
  limits = ap (λ (kept : Kept). kept.limits) same;
  begun = ap (λ (kept : Kept). kept.begun) same;
  txs = ap (λ (kept : Kept). kept.txs) same;
  pairs = ap (λ (kept : Kept). kept.pairs) same;
}

-- the new graph stands for the state with these pairs, after a change
stands_changed : (old new : Kept) (table : Table) (pairs : List (ℕ × ℕ)) → HasTable old.txs table → new.limits ≡ old.limits → new.begun ≡ true
    → new.txs ≡ old.txs → new.pairs ≡ pairs → IsValid (record (state_of old table) { begun = true; main = record { names = names_of old.txs; pairs = pairs } })
    → StandsFor new (record (state_of old table) { begun = true; main = record { names = names_of old.txs; pairs = pairs } })
stands_changed old new table pairs has limits begun txs same valid = record {
  limits = ap bounds_of (sym limits);
  most = refl;
  begun = sym begun;
  table = λ id. has.gets id ∙ ap (λ (txs : List Tx). entry_in txs id) (sym txs);
  live = has.live ∙ ap length (sym txs);
  names = ap names_of (sym txs);
  pairs = sym same;
  staging = refl;
  blocks = refl;
  valid = valid;
}

pub steps_paired_again : (old new : Kept) (a b : ℕ) → new.limits ≡ old.limits → new.begun ≡ true → new.txs ≡ old.txs → new.pairs ≡ old.pairs
    → Contains old.pairs (a, b) → ((state : PlainState) → StandsFor old state → RefusalIs state (Dep a b) None) → Steps old new (Dep a b) Done
steps_paired_again old new a b limits begins txs pairs here none =
    steps_accepted old new (Dep a b) Done tt none
    (λ table has. (
      begun (state_of old table),
      λ valid. stands_changed old new table old.pairs has limits begins txs pairs valid,
      λ picks. record { answer = refl; change = inl (here, refl) },
    ))

pub steps_paired : (old new : Kept) (a b : ℕ) → new.limits ≡ old.limits → new.begun ≡ true → new.txs ≡ old.txs → new.pairs ≡ old.pairs ++ (a, b) ∷ []
    → (Contains old.pairs (a, b) → ⊥) → ((state : PlainState) → StandsFor old state → RefusalIs state (Dep a b) None) → Steps old new (Dep a b) Done
steps_paired old new a b limits begins txs pairs absent none =
    steps_accepted old new (Dep a b) Done tt none
    (λ table has. (
      with_top (begun (state_of old table)) (record { names = names_of old.txs; pairs = old.pairs ++ (a, b) ∷ [] }),
      λ valid. stands_changed old new table (old.pairs ++ (a, b) ∷ []) has limits begins txs pairs valid,
      λ picks. record { answer = refl; change = inr (absent, refl) },
    ))

same_ends : (names : List ℕ) (a b : ℕ) (pair : ℕ × ℕ) → ◌≡◌ {A = ℕ × ℕ} (a, b) pair
    → Contains names a → Contains names b → Contains names pair.0 × Contains names pair.1
same_ends names a b pair same one other = subst (λ (pair : ℕ × ℕ). Contains names pair.0 × Contains names pair.1) same (one, other)

-- what the fields keep after one more pair
pub sound_paired : (set : Limits) (txs : List Tx) (pairs : List (ℕ × ℕ)) (places a b : ℕ) → IsSound set txs pairs places
    → (Contains pairs (a, b) → ⊥) → Contains (names_of txs) a → Contains (names_of txs) b → IsSound set txs (pairs ++ (a, b) ∷ []) places
sound_paired set txs pairs places a b sound absent one other = record {
  in_range = sound.in_range;
  small = sound.small;
  names_once = sound.names_once;
  pairs_once = distinct_push pairs (a, b) sound.pairs_once absent;
  ends = λ parent child pair. elim (Contains-push_cases pairs (a, b) (parent, child) pair) [
    | inl before ↦ sound.ends parent child before
    | inr same ↦ same_ends (names_of txs) a b (parent, child) same one other
  ];
  enough = sound.enough;
}

pub walk_over : (kept : Kept) (id : ℕ) → Contains (names_of kept.txs) id → IsOver kept.limits kept.txs kept.pairs → WalkRefusalIs kept id (Some Oversized)
walk_over kept id here over = inr (λ absent. absent here, inl (over, refl))

pub walk_found : (kept : Kept) (id : ℕ) → Contains (names_of kept.txs) id → (IsOver kept.limits kept.txs kept.pairs → ⊥) → WalkRefusalIs kept id None
walk_found kept id here within = inr (λ absent. absent here, inr (within, refl))

-- the row of a reading of a name
row_read : (kept : Kept) (level : Level) (id : ℕ) (found : Option Refusal) → WalkRefusalIs kept id found → (table : Table) → HasTable kept.txs table
    → IsValid (state_of kept table) → NameRow (IsAbsent (state_of kept table) level id) (IsOversized (state_of kept table) level) id found
row_read kept level id found row table has valid =
    first_along (Unknown id) (same_absent level) (first_along Oversized (over_level kept table level has valid) (λ none. none)) row
  where
    same_absent : (level : Level) → (Contains (names_of kept.txs) id → ⊥) ↔ IsAbsent (state_of kept table) level id
    same_absent Main = (λ absent. absent, λ absent. absent)
    same_absent Top = (λ absent. absent, λ absent. absent)

steps_up : (old new : Kept) (level : Level) (id : ℕ) → IsSameGraph old new → WalkRefusalIs old id None
    → Lists (λ a. IsAncestor old.pairs a id) new.found → Steps old new (Ancestors id level) (Ids new.found)
steps_up old new level id same unrefused lists =
    steps_accepted old new (Ancestors id level) (Ids new.found) tt
    (of_states old (λ (state : PlainState). RefusalIs state (Ancestors id level) None) (row_read old level id None unrefused))
    (λ table has. (
      state_of old table,
      λ valid. stands_still old new same (state_of old table) (stands_for old table has valid),
      λ picks.
          record {
            answer = (new.found, subst (λ (at : Graph). Lists (λ a. IsAncestor at.pairs a id) new.found) (sym (level-main old table level)) lists, refl);
            change = refl;
          },
    ))

steps_down : (old new : Kept) (level : Level) (id : ℕ) → IsSameGraph old new → WalkRefusalIs old id None
    → Lists (λ d. IsAncestor old.pairs id d) new.found → Steps old new (Descendants id level) (Ids new.found)
steps_down old new level id same unrefused lists =
    steps_accepted old new (Descendants id level) (Ids new.found) tt
    (of_states old (λ (state : PlainState). RefusalIs state (Descendants id level) None) (row_read old level id None unrefused))
    (λ table has. (
      state_of old table,
      λ valid. stands_still old new same (state_of old table) (stands_for old table has valid),
      λ picks.
          record {
            answer = (new.found, subst (λ (at : Graph). Lists (λ d. IsAncestor at.pairs id d) new.found) (sym (level-main old table level)) lists, refl);
            change = refl;
          },
    ))

steps_around : (old new : Kept) (level : Level) (id : ℕ) → IsSameGraph old new → WalkRefusalIs old id None
    → Lists (AreConnected old.pairs id) new.found → Steps old new (Cluster id level) (Ids new.found)
steps_around old new level id same unrefused lists =
    steps_accepted old new (Cluster id level) (Ids new.found) tt
    (of_states old (λ (state : PlainState). RefusalIs state (Cluster id level) None) (row_read old level id None unrefused))
    (λ table has. (
      state_of old table,
      λ valid. stands_still old new same (state_of old table) (stands_for old table has valid),
      λ picks.
          record {
            answer = (new.found, subst (λ (at : Graph). Lists (AreConnected at.pairs id) new.found) (sym (level-main old table level)) lists, refl);
            change = refl;
          },
    ))

-- what a reading says of its result
abbrev pub Reads : {T : Type 0} → Way → Kept → Kept → ℕ → Result T Refusal → Type 0
Reads way old new id result =
    MatchResult result (λ _. WalkRefusalIs old id None × Lists (Reaches way old.pairs id) new.found) (λ why. WalkRefusalIs old id (Some why))

pub steps_ancestors : {T : Type 0} (old new : Kept) (level : Level) (id : ℕ) (result : Result T Refusal)
    → IsSameGraph old new → Reads Up old new id result → Steps old new (Ancestors id level) (names_reply result new.found)
steps_ancestors old new level id (Ok done) same reads = steps_up old new level id same reads.0 reads.1
steps_ancestors old new level id (Err why) same reads =
    steps_refused old new (Ancestors id level) why same
    (of_states old (λ (state : PlainState). RefusalIs state (Ancestors id level) (Some why)) (row_read old level id (Some why) reads))

pub steps_descendants : {T : Type 0} (old new : Kept) (level : Level) (id : ℕ) (result : Result T Refusal)
    → IsSameGraph old new → Reads Down old new id result → Steps old new (Descendants id level) (names_reply result new.found)
steps_descendants old new level id (Ok done) same reads = steps_down old new level id same reads.0 reads.1
steps_descendants old new level id (Err why) same reads =
    steps_refused old new (Descendants id level) why same
    (of_states old (λ (state : PlainState). RefusalIs state (Descendants id level) (Some why)) (row_read old level id (Some why) reads))

pub steps_cluster : {T : Type 0} (old new : Kept) (level : Level) (id : ℕ) (result : Result T Refusal) → IsSameGraph old new
    → Reads Either old new id result → Steps old new (Cluster id level) (names_reply result new.found)
steps_cluster old new level id (Ok done) same reads = steps_around old new level id same reads.0 reads.1
steps_cluster old new level id (Err why) same reads =
    steps_refused old new (Cluster id level) why same
    (of_states old (λ (state : PlainState). RefusalIs state (Cluster id level) (Some why)) (row_read old level id (Some why) reads))
