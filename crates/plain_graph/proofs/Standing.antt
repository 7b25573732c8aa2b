-- Which states a plain graph stands for, and the steps of the machine that its calls are.
use Rattle.std.proofs.Common.{◌≡◌, ℕ, ℤ, Bool, ◌+◌, ◌^◌, ◌<◌, ◌≤◌, arith, true, false, cond, eqb, List, [], ◌∷◌, ◌++◌, length, sym, refl, ap, subst, ◌∙◌, inl, inr, Option, None, Some}
use Rattle.std.proofs.lemmas.List.Elements.{All-push, Contains-append_left}
use Rattle.lists.specs.Distinct.{AreDistinct}
use Rattle.fee_rate.specs.declared.limits.TheConstants.{MAX_SIZE}
use Rattle.graph_model.specs.declared.names.Limits.{Limits}
use Rattle.std.specs.Prelude.{Contains, is_some, IsSome}
use Rattle.std.specs.FinMap as finmap
use Rattle.std.specs.Ordering.{nat_cmp}
use Rattle.std.specs.Cmp.{nat_cmp_total, unsigned_tied}
use Rattle.std.proofs.lemmas.List.{map_push, length_push, length-map}
use Rattle.graph_model.specs.declared.names.Refusal.{Refusal}
use Rattle.graph_model.specs.declared.names.Refusal.TheVariants.{Memory}
use Rattle.graphs.specs.Graphs.{Graph}
use Rattle.graph_model.specs.States.{PlainState, Picks, Table, Entry, level_of, size_of, size_in, plain_start}
use Rattle.graph_model.specs.Changes.{added, limited}
use Rattle.graph_model.specs.Commands.{Command, SetLimits, Add, Count}
use Rattle.graph_model.specs.declared.limits.TheConstants.{DEFAULT_LIMITS}
use Rattle.graph_model.specs.Limits.{AreInRange, bounds_of}
use Rattle.graph_model.specs.Validity.{IsValid}
use Rattle.graphs.specs.declared.names.Level.{Level}
use Rattle.graphs.specs.declared.names.Level.TheVariants.{Main, Top}
use Rattle.graph_model.specs.Refusals.{RefusalIs}
use Rattle.graph_model.specs.Replies.{Reply, Refused, Done, Number}
use Rattle.graph_model.specs.Steps.{AcceptsPlainly, MayLackMemory}
use Rattle.graph_model.proofs.StepLemmas.{AddsSmall, valid_plain, steps_keep_valid}
use Rattle.plain_graph.specs.declared.limits.TheConstants.{MAX_NAMES}
use Rattle.plain_graph.specs.declared.tx.Tx.{Tx}
use Rattle.plain_graph.specs.Plain.{Kept, StandsFor, Steps, entry_in, sizes_in}
use Rattle.plain_graph.specs.Sound.{names_of, IsSound}
use Rattle.plain_graph.specs.Overs.{IsRight}
use Rattle.plain_graph.proofs.Entries.{entry_of, entry-push, Contains-entry, none_of_true}
use Rattle.lists.proofs.Distinct.{distinct_push}

-- the table has the entries of the transactions
pub record HasTable (txs : List Tx) (table : Table) : Type 0 where
  pub gets : (id : ℕ) → finmap.get table id ≡ entry_in txs id
  pub live : finmap.len table ≡ length txs

-- the one state with this table that a plain graph stands for
abbrev pub state_of : Kept → Table → PlainState
state_of kept table =
    record {
      limits = bounds_of kept.limits;
      most = MAX_NAMES;
      begun = kept.begun;
      table = table;
      main = record { names = names_of kept.txs; pairs = kept.pairs };
      staging = None;
      blocks = [];
    }

pub stands_for : (kept : Kept) (table : Table) → HasTable kept.txs table → IsValid (state_of kept table) → StandsFor kept (state_of kept table)
stands_for kept table has valid = record {
  limits = refl;
  most = refl;
  begun = refl;
  table = has.gets;
  live = has.live;
  names = refl;
  pairs = refl;
  staging = refl;
  blocks = refl;
  valid = valid;
}

-- What holds of each valid state that has the graph's parts holds of each that it stands for.
pub of_states : (kept : Kept) (P : PlainState → Type 0) → ((table : Table) → HasTable kept.txs table → IsValid (state_of kept table) → P (state_of kept table))
    → (state : PlainState) → StandsFor kept state → P state
of_states kept P holds state stands =
    let same : state_of kept state.table ≡ state =
    λ i. record {
      limits = sym stands.limits i;
      most = sym stands.most i;
      begun = sym stands.begun i;
      table = state.table;
      main = record { names = sym stands.names i; pairs = sym stands.pairs i };
      staging = sym stands.staging i;
      blocks = sym stands.blocks i;
    } in
    subst P same (holds state.table (record { gets = stands.table; live = stands.live }) (subst IsValid (sym same) stands.valid))

-- two graphs that differ at most in what the last reading found and in the count of additions
pub record IsSameGraph (old new : Kept) : Type 0 where
  pub limits : new.limits ≡ old.limits
  pub begun : new.begun ≡ old.begun
  pub txs : new.txs ≡ old.txs
  pub pairs : new.pairs ≡ old.pairs

pub same_as : (given old new : Kept) → given ≡ old → IsSameGraph given new → IsSameGraph old new
same_as given old new is same = subst (λ (kept : Kept). IsSameGraph kept new) is same

pub itself : (kept : Kept) → IsSameGraph kept kept
itself kept = record { limits = refl; begun = refl; txs = refl; pairs = refl }

pub stands_still : (old new : Kept) → IsSameGraph old new → (state : PlainState) → StandsFor old state → StandsFor new state
stands_still old new same state stands = record {
  limits = stands.limits ∙ ap bounds_of (sym same.limits);
  most = stands.most;
  begun = stands.begun ∙ sym same.begun;
  table = λ id. stands.table id ∙ ap (λ txs. entry_in txs id) (sym same.txs);
  live = stands.live ∙ ap length (sym same.txs);
  names = stands.names ∙ ap names_of (sym same.txs);
  pairs = stands.pairs ∙ sym same.pairs;
  staging = stands.staging;
  blocks = stands.blocks;
  valid = stands.valid;
}

pub steps_refused : (old new : Kept) (command : Command) (why : Refusal) → IsSameGraph old new
    → ((state : PlainState) → StandsFor old state → RefusalIs state command (Some why)) → Steps old new command (Refused why)
steps_refused old new command why same refused state stands =
    (state, stands_still old new same state stands, λ picks. inl (record { why = why; first = refused state stands; told = refl; same = refl }))

pub steps_without_memory : (old new : Kept) (command : Command) → IsSameGraph old new → MayLackMemory command
    → ((state : PlainState) → StandsFor old state → RefusalIs state command None) → Steps old new command (Refused Memory)
steps_without_memory old new command same may none state stands =
    (state, stands_still old new same state stands, λ picks. inr (inl (inl (record { none = none state stands; may = may; told = refl; same = refl }))))

-- what follows an accepted command is valid, whatever the picks are
pub steps_accepted : (old new : Kept) (command : Command) (reply : Reply) → AddsSmall command
    → ((state : PlainState) → StandsFor old state → RefusalIs state command None) → ((table : Table) → HasTable old.txs table
    → (next : PlainState) × (IsValid next → StandsFor new next) × ((picks : Picks) → AcceptsPlainly picks (state_of old table) command reply next))
    → Steps old new command reply
steps_accepted old new command reply small none accepts state stands =
    let P : PlainState → Type 0 =
    λ (state : PlainState). (next : PlainState) × (IsValid next → StandsFor new next) × ((picks : Picks) → AcceptsPlainly picks state command reply next) in
    let next : P state = of_states old P (λ table has valid. accepts table has) state stands in
    let any : Picks = record { main = None; staging = None } in
    let valid : IsValid next.0 = valid_plain any state next.0 command small stands.valid (none state stands) (next.2 any).change in
    (next.0, next.1 valid, λ picks. inr (inr (record { none = none state stands; accepts = next.2 picks })))

-- the table with one more name
has_one_more : (txs : List Tx) (tx : Tx) (table : Table) → entry_in txs tx.id ≡ None
    → HasTable txs table → HasTable (txs ++ tx ∷ []) (finmap.insert table tx.id (entry_of tx))
has_one_more txs tx table none has = record {
  gets = λ id. finmap.get-insert nat_cmp_total table tx.id (entry_of tx) id
      ∙ ap (λ b. cond b (Some (entry_of tx)) (finmap.get table id)) (unsigned_tied id tx.id)
      ∙ ap (cond (eqb id tx.id) (Some (entry_of tx))) (has.gets id)
      ∙ sym (entry-push txs tx id none);
  live = finmap.len-insert nat_cmp_total table tx.id (entry_of tx)
      ∙ ap (λ (o : Option Entry). cond (is_some o) (finmap.len table) (finmap.len table + 1)) (has.gets tx.id ∙ none)
      ∙ ap (λ n. n + 1) has.live
      ∙ sym (length_push txs tx);
}

pub steps_added : (old new : Kept) (tx : Tx) → new.limits ≡ old.limits → new.begun ≡ true
    → new.txs ≡ old.txs ++ tx ∷ [] → new.pairs ≡ old.pairs → entry_in old.txs tx.id ≡ None → tx.id < 2 ^ 64
    → ((state : PlainState) → StandsFor old state → RefusalIs state (Add tx.id tx.fee tx.size) None) → Steps old new (Add tx.id tx.fee tx.size) Done
steps_added old new tx limits begun txs pairs none small unrefused =
    steps_accepted old new (Add tx.id tx.fee tx.size) Done small unrefused
    (λ table has.
    let more : HasTable (old.txs ++ tx ∷ []) (finmap.insert table tx.id (entry_of tx)) = has_one_more old.txs tx table none has in (
      added (state_of old table) tx.id tx.fee tx.size,
      λ valid. record {
        limits = ap bounds_of (sym limits);
        most = refl;
        begun = sym begun;
        table = λ id. more.gets id ∙ ap (λ txs. entry_in txs id) (sym txs);
        live = more.live ∙ ap length (sym txs);
        names = sym (ap names_of txs ∙ map_push (λ (tx : Tx). tx.id) old.txs tx);
        pairs = sym pairs;
        staging = refl;
        blocks = refl;
        valid = valid;
      },
      λ picks. record { answer = refl; change = refl },
    ))

pub steps_limited : (old new : Kept) (limits : Limits) → new.limits ≡ limits → new.begun ≡ true → new.txs ≡ old.txs → new.pairs ≡ old.pairs
    → ((state : PlainState) → StandsFor old state → RefusalIs state (SetLimits (bounds_of limits)) None) → Steps old new (SetLimits (bounds_of limits)) Done
steps_limited old new limits is begun txs pairs none =
    steps_accepted old new (SetLimits (bounds_of limits)) Done tt none
    (λ table has. (
      limited (state_of old table) (bounds_of limits),
      λ valid. record {
        limits = ap bounds_of (sym is);
        most = refl;
        begun = sym begun;
        table = λ id. has.gets id ∙ ap (λ txs. entry_in txs id) (sym txs);
        live = has.live ∙ ap length (sym txs);
        names = ap names_of (sym txs);
        pairs = sym pairs;
        staging = refl;
        blocks = refl;
        valid = valid;
      },
      λ picks. record { answer = refl; change = refl },
    ))

-- what the fields keep where there are more places
pub right_with_room : (set : Limits) (txs : List Tx) (pairs : List (ℕ × ℕ)) (places more : ℕ) (over : Bool)
    → IsRight set txs pairs places over → places ≤ more → IsRight set txs pairs more over
right_with_room set txs pairs places more over right grown = record {
  sound = record {
    in_range = right.sound.in_range;
    small = right.sound.small;
    names_once = right.sound.names_once;
    pairs_once = right.sound.pairs_once;
    ends = right.sound.ends;
    enough = omega (arith, right.sound.enough, grown);
  };
  noted = right.noted;
}

-- what the fields keep under other limits
pub sound_limited : (old set : Limits) (txs : List Tx) (pairs : List (ℕ × ℕ)) (places : ℕ)
    → IsSound old txs pairs places → AreInRange MAX_NAMES (bounds_of set) → IsSound set txs pairs places
sound_limited old set txs pairs places sound in_range = record {
  in_range = in_range;
  small = sound.small;
  names_once = sound.names_once;
  pairs_once = sound.pairs_once;
  ends = sound.ends;
  enough = sound.enough;
}

pub stands_at_start : (kept : Kept) → kept.limits ≡ DEFAULT_LIMITS → kept.begun ≡ false
    → kept.txs ≡ [] → kept.pairs ≡ [] → StandsFor kept (plain_start MAX_NAMES)
stands_at_start kept limits begun txs pairs = record {
  most = refl;
  limits = ap bounds_of (sym limits);
  begun = sym begun;
  table = λ id. finmap.get-empty nat_cmp id ∙ ap (λ txs. entry_in txs id) (sym txs);
  live = finmap.len-empty nat_cmp Entry ∙ ap length (sym txs);
  names = ap names_of (sym txs);
  pairs = sym pairs;
  staging = refl;
  blocks = refl;
  valid = (steps_keep_valid.begins MAX_NAMES (omega arith)).plain;
}

-- without a staging level both words speak of main
pub level-main : (kept : Kept) (table : Table) (level : Level) → level_of (state_of kept table) level ≡ (state_of kept table).main
level-main kept table Main = refl
level-main kept table Top = refl

-- the sizes that a table has are those of the transactions
pub same_sizes : (txs : List Tx) (table : Table) → HasTable txs table → size_of table ≡ sizes_in txs
same_sizes txs table has = λ i. λ id. size_in (has.gets id i)

pub steps_counted : (kept : Kept) (level : Level) (n : ℕ) → n ≡ length kept.txs → Steps kept kept (Count level) (Number n)
steps_counted kept level n same =
    steps_accepted kept kept (Count level) (Number n) tt (λ state stands. refl)
    (λ table has. (
      state_of kept table,
      λ valid. stands_for kept table has valid,
      λ picks. record {
        answer = ap Number (same ∙ sym (length-map kept.txs (λ (tx : Tx). tx.id)) ∙ ap (λ (of : Graph). length of.names) (sym (level-main kept table level)));
        change = refl;
      },
    ))

among_more : (txs : List Tx) (tx : Tx) (id : ℕ) → Contains (names_of txs) id → Contains (names_of (txs ++ tx ∷ [])) id
among_more txs tx id here =
    subst (λ (ids : List ℕ). Contains ids id) (sym (map_push (λ (tx : Tx). tx.id) txs tx)) (Contains-append_left (names_of txs) (tx.id ∷ []) id here)

no_entry : (found : Option Entry) → found ≡ None → IsSome found → ⊥
no_entry None none some = none_of_true some
no_entry (Some entry) none some = cc

-- what the fields keep after one more transaction
pub sound_added : (set : Limits) (txs : List Tx) (tx : Tx) (pairs : List (ℕ × ℕ)) (places more : ℕ) → IsSound set txs pairs places
    → entry_in txs tx.id ≡ None → tx.size ≤ MAX_SIZE → length txs + 1 ≤ more → IsSound set (txs ++ tx ∷ []) pairs more
sound_added set txs tx pairs places more sound none small room = record {
  in_range = sound.in_range;
  small = All-push (λ (tx : Tx). tx.size ≤ MAX_SIZE) txs tx sound.small small;
  names_once = subst (AreDistinct {A = ℕ}) (sym (map_push (λ (tx : Tx). tx.id) txs tx))
      (distinct_push (names_of txs) tx.id sound.names_once (λ here. no_entry (entry_in txs tx.id) none (Contains-entry txs tx.id here)));
  pairs_once = sound.pairs_once;
  ends = λ parent child pair. let ends = sound.ends parent child pair in (among_more txs tx parent ends.0, among_more txs tx child ends.1);
  enough = subst (λ (n : ℕ). n ≤ more) (sym (length_push txs tx)) room;
}

-- the refusal of `add` at an equal fee
pub at_fee : (kept : Kept) (id : ℕ) (given fee : ℤ) (size : ℕ) (found : Option Refusal) → given ≡ fee
    → ((state : PlainState) → StandsFor kept state → RefusalIs state (Add id given size) found)
    → (state : PlainState) → StandsFor kept state → RefusalIs state (Add id fee size) found
at_fee kept id given fee size found same refused =
    subst (λ (fee : ℤ). (state : PlainState) → StandsFor kept state → RefusalIs state (Add id fee size) found) same refused
