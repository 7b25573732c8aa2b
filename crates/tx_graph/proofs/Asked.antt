-- What is asked of transactions that are to come back, one after the other; and commands that are only asked for.
use Rattle.std.proofs.Common.{◌≡◌, ◌≢◌, ◌⊎◌, ℕ, ℤ, ◌+◌, ◌^◌, ◌<◌, ◌≤◌, List, [], ◌∷◌, ◌++◌, take, drop, length, get_or, Contains, Option, Bool, false, true≢false, IsTrue, ◌↔◌, inl, inr, refl, sym, ap, subst, ◌∙◌}
use Rattle.std.specs.Prelude.{MatchResult, Result, Ok, Err}
use Rattle.std.specs.Result.{IsErrAnd}
use Rattle.std.proofs.lemmas.Bool.{cases_lt}
use Rattle.std.proofs.lemmas.List.{drop_more, map-append, take_all, take_more, take-append-drop}
use Rattle.std.proofs.lemmas.List.Elements.{Contains-append_right, Contains-push_cases}
use Rattle.lists.proofs.Entries.{Contains-head}
use Rattle.graphs.specs.Certificates.{Txs}
use Rattle.graph_model.specs.declared.names.Refusal.{Refusal}
use Rattle.graph_model.specs.declared.names.Refusal.TheVariants.{Late, Range, Fee, Size, Taken, ClusterSize, Full, Unknown, Cycle, Count, Staging, Twice, Parent, Empty, NoStaging, Memory, Oversized, NoBlock, Back}
use Rattle.graph_model.specs.States.{State}
use Rattle.graph_model.specs.Changes.{ids_of}
use Rattle.graph_model.specs.Commands.{Command}
use Rattle.graph_model.specs.Refusals.{IsFirst}
use Rattle.tx_graph.specs.Kept.{Kept, StandsFor}
use Rattle.tx_graph.specs.Restored.{Meets}
use Rattle.tx_graph.proofs.Standing as plainly

-- what a command meets in every plain state it meets in every state
pub asked : (old value : Kept) (command : Command) (found : Option Refusal) → old ≡ value → plainly.Meets old command found → Meets value command found
asked old value command found view meets =
    subst (λ (k : Kept). Meets k command found) view (λ state stands. meets state.plain stands.plain)

module _ (P : ℕ → Type 0) (txs : Txs) (k : ℕ) (none : (id : ℕ) → Contains (ids_of (take k txs)) id → P id → ⊥) where
  -- none of all transactions, where all were looked at
  pub none_at_all : length txs ≤ k → (id : ℕ) → Contains (ids_of txs) id → P id → ⊥
  none_at_all all id here = none id (subst (λ (ts : Txs). Contains (ids_of ts) id) (sym (take_all k txs all)) here)

  module _ (d : ℕ × ℤ × ℕ) (low : k < length txs) where
    -- the next one is the first
    pub first_here : P (get_or txs k d).0 → IsFirst (λ before id. P id) (ids_of txs) (get_or txs k d).0
    first_here holds = record {
      before = ids_of (take k txs);
      after = ids_of (drop (k + 1) txs);
      cut = ap ids_of (sym (take-append-drop k txs) ∙ ap (λ (ts : Txs). take k txs ++ ts) (drop_more txs k d low))
          ∙ map-append (λ (t : ℕ × ℤ × ℕ). t.0) (take k txs) (get_or txs k d ∷ drop (k + 1) txs);
      has = holds;
      earlier = λ front rest other at.
          none other (subst (λ (ns : List ℕ). Contains ns other) (sym at) (Contains-append_right front (other ∷ rest) other (Contains-head other rest)));
    }

    -- or isn't it
    pub none_yet : (P (get_or txs k d).0 → ⊥) → (id : ℕ) → Contains (ids_of (take (k + 1) txs)) id → P id → ⊥
    none_yet fails id here holds =
        elim (Contains-push_cases (ids_of (take k txs)) (get_or txs k d).0 id
        (subst (λ (ns : List ℕ). Contains ns id)
        (ap ids_of (take_more txs k d low) ∙ map-append (λ (t : ℕ × ℤ × ℕ). t.0) (take k txs) (get_or txs k d ∷ [])) here)) [
          | inl before ↦ none id before holds
          | inr same ↦ fails (subst P (sym same) holds)
        ]

-- what is said of every state is said of those of the graph as it is seen
pub rows_from : (P : State → Type 0) (old value : Kept) → old ≡ value → ((state : State) → StandsFor old state → P state) → (state : State)
    → StandsFor value state → P state
rows_from P old value view all = subst (λ (k : Kept). (state : State) → StandsFor k state → P state) view all

-- what holds of a result that hands on an error
pub handed : {T E : Type 0} (Q : T → Type 0) (P : E → Type 0) (r : Result T E) (e : E) → IsErrAnd r (λ y. y ≡ e) → P e → MatchResult r Q P
handed Q P (Ok x) e is holds = absurd is
handed Q P (Err y) e is holds = subst P (sym is) holds

pub memory_or_not : (why : Refusal) → (why ≡ Memory) ⊎ (why ≢ Memory)
memory_or_not Memory = inl refl
memory_or_not Late = inr (λ e. cc)
memory_or_not Range = inr (λ e. cc)
memory_or_not Fee = inr (λ e. cc)
memory_or_not Size = inr (λ e. cc)
memory_or_not Taken = inr (λ e. cc)
memory_or_not (ClusterSize n) = inr (λ e. cc)
memory_or_not Full = inr (λ e. cc)
memory_or_not (Unknown id) = inr (λ e. cc)
memory_or_not Cycle = inr (λ e. cc)
memory_or_not (Count n) = inr (λ e. cc)
memory_or_not Staging = inr (λ e. cc)
memory_or_not (Twice id) = inr (λ e. cc)
memory_or_not (Parent id) = inr (λ e. cc)
memory_or_not Empty = inr (λ e. cc)
memory_or_not NoStaging = inr (λ e. cc)
memory_or_not Oversized = inr (λ e. cc)
memory_or_not NoBlock = inr (λ e. cc)
memory_or_not (Back id) = inr (λ e. cc)

-- the names of the first transactions are of 64 bits, one more
pub small_next : (txs : Txs) (k : ℕ) (d : ℕ × ℤ × ℕ) → k < length txs → (get_or txs k d).0 < 2 ^ 64
    → ((id : ℕ) → Contains (ids_of (take k txs)) id → id < 2 ^ 64) → (id : ℕ) → Contains (ids_of (take (k + 1) txs)) id → id < 2 ^ 64
small_next txs k d low fits small id here =
    elim (Contains-push_cases (ids_of (take k txs)) (get_or txs k d).0 id
    (subst (λ (ns : List ℕ). Contains ns id)
    (ap ids_of (take_more txs k d low) ∙ map-append (λ (t : ℕ × ℤ × ℕ). t.0) (take k txs) (get_or txs k d ∷ [])) here)) [
      | inl before ↦ small id before
      | inr same ↦ subst (λ n. n < 2 ^ 64) same fits
    ]

pub small_at_all : (txs : Txs) (k : ℕ) → length txs ≤ k → ((id : ℕ) → Contains (ids_of (take k txs)) id → id < 2 ^ 64) → (id : ℕ)
    → Contains (ids_of txs) id → id < 2 ^ 64
small_at_all txs k all small id here = small id (subst (λ (ts : Txs). Contains (ids_of ts) id) (sym (take_all k txs all)) here)

-- what a test doesn't find past a number isn't
pub is_room : (n total : ℕ) (test : Bool) → IsTrue test ↔ (total < n) → test ≡ false → n ≤ total
is_room n total test tells fails = elim (cases_lt total n) [ inl past ↦ absurd (true≢false (sym (tells.1 past) ∙ fails)) | inr fits ↦ fits ]
