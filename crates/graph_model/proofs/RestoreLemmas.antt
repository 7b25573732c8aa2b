-- Valid states stay valid when transactions come into main.
use Rattle.std.proofs.Common.{◌≡◌, ◌≢◌, ℕ, ℤ, suc, zero, ◌+◌, ◌^◌, ◌<◌, ◌≤◌, true, false, List, [], ◌∷◌, length, None, Some, is_some, sym, refl, ap, subst, ◌∙◌, inl, inr, ◌⊎◌, arith, true≢false, not, nat_eq}
use Rattle.std.specs.Prelude.{Contains, sum_by}
use Rattle.std.specs.FinMap as finmap
use Rattle.std.proofs.lemmas.Bool.{cases_Bool, cases_lt, and_parts}
use Rattle.lists.proofs.Cases.{some_none, differs}
use Rattle.lists.proofs.Distinct.{distinct_within}
use Rattle.lists.proofs.Keys.{len-within, len-drop, contains-drop}
use Rattle.lists.proofs.Told.{told_number}
use Rattle.lists.proofs.Entries.{Contains-cases, none_in_empty}
use Rattle.arithmetic.proofs.Sums.{sum_by_along}
use Rattle.fee_rate.specs.Limits.{IsFee, IsSize}
use Rattle.graphs.specs.declared.names.Level.TheVariants.{Top}
use Rattle.graphs.specs.Graphs.{Graph, Trail, AreConnected, HasNoCycle, IsGraph}
use Rattle.graphs.specs.Certificates.{Txs}
use Rattle.graphs.proofs.WalkLemmas.{AreConnected-sym, AreConnected-trans}
use Rattle.graph_model.specs.declared.names.Refusal.{Refusal}
use Rattle.graph_model.specs.declared.names.Refusal.TheVariants.{Count, ClusterSize}
use Rattle.graph_model.specs.Limits.{Bounds, AreOver}
use Rattle.graph_model.specs.Oversize.{AreOfOneComponent, HasOver}
use Rattle.graph_model.specs.States.{PlainState, MinedBlock, Table, Entry, level_of, top_of, IsLive, size_in, size_of}
use Rattle.graph_model.specs.Changes.{begun, IsKept, ids_of, Restores}
use Rattle.graph_model.specs.Refusals.{ToldOver, IsInOver, BringsOver, RestoreRow}
use Rattle.graph_model.specs.Validity.{IsStaging, IsValid}
use Rattle.graph_model.proofs.LevelLemmas.{connected_told, some_list}
use Rattle.graph_model.proofs.ValidLemmas.{row_on, row_at_on}
use Rattle.graph_model.proofs.FirstLemmas.{none_with}
use Rattle.graph_model.proofs.BackLemmas.{graph_put}
use Rattle.graph_model.proofs.SameMinedLemmas.{listed_tx}

-- ---- tables

stays_other : (m : Table) (k q : ℕ) → finmap.contains_key (finmap.remove m k) q ≡ true → (q ≢ k) × (finmap.contains_key m q ≡ true)
stays_other m k q left =
    let both = and_parts (not (nat_eq q k)) (finmap.contains_key m q) (sym (contains-drop m k q) ∙ left) in (differs q k both.0, both.1)

-- a table whose names are those of another, or listed, has at most so many more
len_more : (xs : List ℕ) (m n : Table) → ((q : ℕ) → finmap.contains_key m q ≡ true → (finmap.contains_key n q ≡ true) ⊎ Contains xs q)
    → finmap.len m ≤ finmap.len n + length xs
len_more [] m n inside =
    let all : finmap.len m ≤ finmap.len n = len-within m n (λ q has. elim (inside q has) [ inl there ↦ there | inr none ↦ absurd (none_in_empty q none) ]) in
    omega arith
len_more (x ∷ xs) m n inside = elim (cases_Bool (finmap.contains_key m x)) [
  | inl has ↦
      let less = len-drop m x has in
      let rest : finmap.len (finmap.remove m x) ≤ finmap.len n + length xs =
      len_more xs (finmap.remove m x) n (λ q left. let is = stays_other m x q left in later q is.0 is.1) in
      omega arith
  | inr lacks ↦
      let rest : finmap.len m ≤ finmap.len n + length xs =
      len_more xs m n (λ q has. later q (λ same. true≢false (sym has ∙ ap (finmap.contains_key m) same ∙ lacks)) has) in
      omega arith
]
  where
    later : (q : ℕ) → q ≢ x → finmap.contains_key m q ≡ true → (finmap.contains_key n q ≡ true) ⊎ Contains xs q
    later q other has = elim (inside q has) [
      | inl there ↦ inl there
      | inr listed ↦ elim (Contains-cases x q xs listed) [ inl same ↦ absurd (other (sym same)) | inr here ↦ inr here ]
    ]

-- ---- names over the limits

-- a name that is connected with a name of a graph is one
pub joined_name : (graph : Graph) → IsGraph graph → (a b n : ℕ) → Trail graph.pairs a b n → Contains graph.names a → Contains graph.names b
joined_name graph whole a b zero same here = subst (Contains graph.names) same here
joined_name graph whole a b (suc n) trail here = elim trail.2 [ inl down ↦ (whole.ends trail.0 b down).1 | inr up ↦ (whole.ends b trail.0 up).0 ]

-- names over the limits can be told so
pub over_told : (bounds : Bounds) (size : ℕ → ℕ) (ids : List ℕ) → AreOver bounds size ids → (why : Refusal) × ToldOver bounds size ids why
over_told bounds size ids over = elim (cases_lt bounds.count (length ids)) [
  | inl many ↦ (Count (length ids), inl (many, refl))
  | inr few ↦ elim over [
    | inl many ↦ (Count (length ids), inl (many, refl))
    | inr large ↦ (ClusterSize (sum_by size ids), inr (few, large, refl))
  ]
]

-- what is brought over the limits is told without the blocks
pub over_with : (state : PlainState) (blocks : List MinedBlock) (txs : Txs) (pairs : List (ℕ × ℕ)) (why : Refusal)
    → BringsOver (record state { blocks = blocks }) txs pairs why → BringsOver state txs pairs why
over_with state blocks txs pairs why over = record {
  strict = over.strict;
  next = record over.next { blocks = state.blocks };
  restores = record {
    same = ap (λ (s : PlainState). record s { blocks = state.blocks }) over.restores.same;
    graph = over.restores.graph;
    listed = over.restores.listed;
    others = over.restores.others;
  };
  id = over.id;
  first = over.first;
  over = over.over;
}

-- ---- the row

-- what the row of transactions that are to come into main says where it has no refusal
pub record IsFree (old : PlainState) (txs : Txs) (pairs : List (ℕ × ℕ)) : Type 0 where
  pub gone : (id : ℕ) → Contains (ids_of txs) id → IsLive old id → ⊥
  pub room : finmap.len old.table + length (ids_of txs) ≤ old.limits.total
  pub within : (why : Refusal) → BringsOver old txs pairs why → ⊥

row_of_on : {C : Refusal → Type 0} {L : Type 0} → ((why : Refusal) × C why × (None ≡ Some why)) ⊎ (((why : Refusal) → C why → ⊥) × L)
    → ((why : Refusal) → C why → ⊥) × L
row_of_on row = elim row [ inl here ↦ absurd (some_none _ (sym here.2)) | inr on ↦ on ]

pub free_row : (old : PlainState) (txs : Txs) (pairs : List (ℕ × ℕ)) → RestoreRow old txs pairs None → IsFree old txs pairs
free_row old txs pairs row =
    let one = row_at_on row in let two = row_on one.1 in
    record {
      gone = none_with (IsLive old) (ids_of txs) one.0;
      room = not_less old.limits.total (finmap.len old.table + length (ids_of txs)) two.0;
      within = (row_of_on two.1).0;
    }
  where
    not_less : (a b : ℕ) → (a < b → ⊥) → b ≤ a
    not_less a b none = elim (cases_lt a b) [ inl less ↦ absurd (none less) | inr past ↦ past ]

-- ---- what comes into main

-- What may come into main: no staging is open, the names are of 64 bits and not live, there is room for them, fees and sizes are in range, each
-- parent of the pairs is one of them, and the pairs make no cycle.
pub record CanCome (old : PlainState) (txs : Txs) (pairs : List (ℕ × ℕ)) : Type 0 where
  pub alone : old.staging ≡ None
  pub gone : (id : ℕ) → Contains (ids_of txs) id → IsLive old id → ⊥
  pub room : finmap.len old.table + length (ids_of txs) ≤ old.limits.total
  pub names : (id : ℕ) → Contains (ids_of txs) id → id < 2 ^ 64
  pub rates : (id : ℕ) (fee : ℤ) (size : ℕ) → Contains txs (id, fee, size) → IsFee fee × IsSize size
  pub parents : (a b : ℕ) → Contains pairs (a, b) → Contains (ids_of txs) a
  pub acyclic : HasNoCycle pairs

module _ (old new : PlainState) (txs : Txs) (pairs : List (ℕ × ℕ)) (valid : IsValid old) (can : CanCome old txs pairs)
    (back : Restores old txs pairs new) where
  abbrev ids : List ℕ
  ids = ids_of txs

  abbrev next : PlainState
  next = record (begun old) { table = new.table; main = new.main }

  apart : (id : ℕ) → Contains ids id → Contains old.main.names id → ⊥
  apart id here main = can.gone id here ((valid.live id).1 (inl main))

  whole : IsGraph new.main
  whole = graph_put old.main new.main ids pairs back.graph valid.main.whole apart can.parents can.acyclic

  small : (id : ℕ) → Contains new.main.names id → id < 2 ^ 64
  small id here = elim ((back.graph.names id).0 here) [ inl was ↦ valid.main.names id was | inr put ↦ can.names id put ]

  limits_are : new.limits ≡ old.limits
  limits_are = ap (λ (s : PlainState). s.limits) back.same

  -- where no name that comes in is in a component over the limits, no component is over them
  module _ (strict : old.limits.defer ≡ false) (none_in_over : (id : ℕ) → Contains ids id → (why : Refusal) → IsInOver new id why → ⊥) where
    far : (xs : List ℕ) → AreOfOneComponent new.main xs → AreOver old.limits (size_of new.table) xs → (q m : ℕ) → Contains xs q → Contains ids m
        → AreConnected new.main.pairs m q → ⊥
    far xs of over q m here listed near =
        let all = some_list (AreConnected new.main.pairs m) (connected_told new.main.pairs m) (2 ^ 64)
        (λ n trail. small n (joined_name new.main whole m n trail.0 trail.1 ((back.graph.names m).1 (inr listed)))) in
        let fits = distinct_within (size_of new.table) xs all.0 of.once
        (λ n there. (all.1.exact n).1 (AreConnected-trans new.main.pairs m q n near (of.together q n here there))) in
        let more : AreOver new.limits (size_of new.table) all.0 = subst (λ (l : Bounds). AreOver l (size_of new.table) all.0) (sym limits_are) (elim over [
          | inl many ↦ inl (omega (arith, many, fits.0))
          | inr large ↦ inr (omega (arith, large, fits.1))
        ]) in
        let told = over_told new.limits (size_of new.table) all.0 more in
        none_in_over m listed told.0 (all.0, all.1, told.1)

    -- what is connected with no name that comes in was connected before
    old_trail : (a : ℕ) → ((m : ℕ) → Contains ids m → AreConnected new.main.pairs m a → ⊥) → (b n : ℕ) → Trail new.main.pairs a b n
        → Trail old.main.pairs a b n
    old_trail a none b zero same = same
    old_trail a none b (suc n) trail = (
      trail.0,
      old_trail a none trail.0 n trail.1,
      elim trail.2 [
        | inl down ↦ elim ((back.graph.pairs trail.0 b).0 down) [
          | inl was ↦ inl was
          | inr put ↦ absurd (none trail.0 (can.parents trail.0 b put.0) (AreConnected-sym new.main.pairs a trail.0 (n, trail.1)))
        ]
        | inr up ↦ elim ((back.graph.pairs b trail.0).0 up) [
          | inl was ↦ inr was
          | inr put ↦ absurd (none b (can.parents b trail.0 put.0) (AreConnected-sym new.main.pairs a b (suc n, trail)))
        ]
      ],
    )

    none_over : HasOver old.limits (size_of new.table) new.main → ⊥
    none_over (xs, of, over) =
        let out : (q : ℕ) → Contains xs q → Contains ids q → ⊥ = λ q here listed. far xs of over q q here listed (0, refl) in
        let was : AreOfOneComponent old.main xs = record {
          once = of.once;
          inside = λ q here. elim ((back.graph.names q).0 (of.inside q here)) [ inl main ↦ main | inr put ↦ absurd (out q here put) ];
          together = λ a b here there.
              let trail = of.together a b here there in
              (trail.0, old_trail a (λ m listed near. far xs of over a m here listed near) b trail.0 trail.1);
        } in
        let sizes : sum_by (size_of new.table) xs ≡ sum_by (size_of old.table) xs =
        sum_by_along (size_of new.table) (size_of old.table) xs (λ q here. ap size_in (back.others q (out q here))) in
        valid.main.within strict (xs, was, elim over [ inl many ↦ inl many | inr large ↦ inr (subst (λ n. old.limits.size < n) sizes large) ])

  -- where the row of what is to come in has no refusal, no component is over the limits
  pub none_brought : ((why : Refusal) → BringsOver old txs pairs why → ⊥) → old.limits.defer ≡ false → HasOver old.limits (size_of new.table) new.main → ⊥
  none_brought none strict = none_over strict (λ id here why over.
      none_with (λ q. (any : Refusal) × IsInOver new q any) ids (λ n first. none first.has.0 (record {
        strict = strict;
        next = new;
        restores = back;
        id = n;
        first = first;
        over = first.has.1;
      })) id here (why, over))

  top_is_main : level_of next Top ≡ new.main
  top_is_main = ap (top_of new.main) can.alone

  entry_of : (id : ℕ) → Contains ids id → (fee : ℤ) × (size : ℕ) × (finmap.get new.table id ≡ Some (record { fee = fee; size = size }))
      × IsFee fee × IsSize size
  entry_of id here =
      let tx = listed_tx txs id here in
      let rates = can.rates id tx.0 tx.1 tx.2 in (tx.0, tx.1, back.listed id tx.0 tx.1 tx.2, rates.0, rates.1)

  was_main : (id : ℕ) → IsKept old id → Contains old.main.names id
  was_main id is = elim is [ inl main ↦ main | inr top ↦ subst (λ (g : Graph). Contains g.names id) (ap (top_of old.main) can.alone) top ]

  live_main : (id : ℕ) → IsLive next id → Contains new.main.names id
  live_main id live = elim (told_number ids id) [
    | inl listed ↦ (back.graph.names id).1 (inr listed)
    | inr none ↦ (back.graph.names id).1 (inl (was_main id ((valid.live id).0 (sym (ap is_some (back.others id none)) ∙ live))))
  ]

  main_live : (id : ℕ) → Contains new.main.names id → IsLive next id
  main_live id here = elim (told_number ids id) [
    | inl listed ↦ ap is_some (entry_of id listed).2
    | inr none ↦ elim ((back.graph.names id).0 here) [
      | inl was ↦ ap is_some (back.others id none) ∙ (valid.live id).1 (inl was)
      | inr listed ↦ absurd (none listed)
    ]
  ]

  few : finmap.len new.table ≤ old.limits.total
  few =
      let more : finmap.len new.table ≤ finmap.len old.table + length ids = len_more ids new.table old.table (λ q has. elim (told_number ids q) [
        | inl listed ↦ inr listed
        | inr none ↦ inl (sym (ap is_some (back.others q none)) ∙ has)
      ]) in
      omega (arith, more, can.room)

  rates : (id : ℕ) (entry : Entry) → finmap.get new.table id ≡ Some entry → IsFee entry.fee × IsSize entry.size
  rates id entry is = elim (told_number ids id) [
    | inl listed ↦
        let put = entry_of id listed in
        subst (λ (e : Entry). IsFee e.fee × IsSize e.size) (one (record { fee = put.0; size = put.1 }) entry (sym put.2 ∙ is)) (put.3, put.4)
    | inr none ↦ valid.rates id entry (sym (back.others id none) ∙ is)
  ]
    where
      one : (a b : Entry) → Some a ≡ Some b → a ≡ b
      one a b same = cc

  module _ (none : old.limits.defer ≡ false → HasOver old.limits (size_of new.table) new.main → ⊥) where
    valid_next : IsValid next
    valid_next = record {
      limits = valid.limits;
      main = record { whole = whole; names = small; within = none };
      staging = subst (IsStaging next) (sym can.alone) tt;
      live = λ id. (
        λ live. inl (live_main id live),
        λ is. main_live id (elim is [ inl main ↦ main | inr top ↦ subst (λ (g : Graph). Contains g.names id) top_is_main top ]),
      );
      few = few;
      rates = rates;
      blocks = valid.blocks;
      block_count = valid.block_count;
      fresh = λ not_yet. absurd (true≢false not_yet);
    }

    pub valid_restored : IsValid new
    valid_restored = subst IsValid (sym back.same) valid_next
