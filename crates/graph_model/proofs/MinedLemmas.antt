-- Valid states stay valid when a block is mined, and when it is taken back.
use Rattle.std.proofs.Common.{◌≡◌, ◌≢◌, ℕ, ℤ, suc, zero, ◌+◌, ◌≤◌, true, List, [], ◌∷◌, map, length, Option, None, Some, is_some, sym, refl, ap, subst, ◌∙◌, inl, inr, arith, true≢false, not, ◌&&◌, ne_eqb}
use Rattle.std.specs.Prelude.{Contains, take}
use Rattle.std.specs.FinMap as finmap
use Rattle.lists.specs.Distinct.{AreDistinct}
use Rattle.lists.proofs.Keys.{len-within, len-drop, contains-drop}
use Rattle.lists.proofs.Told.{told_number}
use Rattle.lists.proofs.Entries.{Contains-head, Contains-later, Contains-cases, none_in_empty, not_empty, map-Contains}
use Rattle.fee_rate.specs.Limits.{IsFee, IsSize}
use Rattle.graphs.specs.declared.names.Level.TheVariants.{Main}
use Rattle.graphs.specs.Graphs.{Graph}
use Rattle.graphs.specs.Drops.{HasParents}
use Rattle.graphs.proofs.WalkLemmas.{walk_of_pair}
use Rattle.graphs.proofs.DropLemmas as drops
use Rattle.graph_model.specs.declared.limits.TheConstants.{MAX_BLOCKS}
use Rattle.graph_model.specs.States.{PlainState, MinedBlock, Table, Entry, top_of, sum_in}
use Rattle.graph_model.specs.Commands.{HasTypes, Mine, Unmine}
use Rattle.graph_model.specs.Changes.{begun, DropsFromMain, IsMinedBlock, Mines, ids_of, Restores, Unmines}
use Rattle.graph_model.specs.Refusals.{RefusalIs, StandsTwice, LacksAncestor, IsAbsent, latest_of}
use Rattle.graph_model.specs.Validity.{IsLevel, IsStaging, IsKeptBlock, IsValid}
use Rattle.graph_model.proofs.LevelLemmas.{one_pair, connects, level_within, same_level}
use Rattle.graph_model.proofs.ValidLemmas.{row_on, row_at_on, forgets_valid}
use Rattle.graph_model.proofs.FirstLemmas.{none_first, none_with, none_twice}
use Rattle.graph_model.proofs.BackLemmas.{no_cycle_along}
use Rattle.graph_model.proofs.RestoreLemmas.{IsFree, free_row, CanCome, over_with, none_brought, valid_restored}
use Rattle.graph_model.proofs.SameMinedLemmas.{tx_of}

-- ---- lists and tables

front_in : {A : Type 0} (n : ℕ) (xs : List A) (x : A) → Contains (take n xs) x → Contains xs x
front_in zero xs x here = absurd (none_in_empty x here)
front_in (suc n) [] x here = here
front_in (suc n) (y ∷ ys) x here = elim (Contains-cases y x (take n ys) here) [
  | inl same ↦ subst (Contains (y ∷ ys)) same (Contains-head y ys)
  | inr later ↦ Contains-later y x ys (front_in n ys x later)
]

front_short : {A : Type 0} (n : ℕ) (xs : List A) → length (take n xs) ≤ n
front_short zero xs = omega arith
front_short (suc n) [] = omega arith
front_short (suc n) (y ∷ ys) = let rest : length (take n ys) ≤ n = front_short n ys in omega arith

other_stays : (m : Table) (k q : ℕ) → q ≢ k → finmap.contains_key m q ≡ true → finmap.contains_key (finmap.remove m k) q ≡ true
other_stays m k q other has = contains-drop m k q ∙ ap (λ b. not b && finmap.contains_key m q) (ne_eqb q k other) ∙ has

-- a table that has none of the listed names of another, and only names of that, has at least so many fewer
pub len_fewer : (xs : List ℕ) (m n : Table) → AreDistinct xs → ((q : ℕ) → Contains xs q → finmap.contains_key m q ≡ true)
    → ((q : ℕ) → finmap.contains_key n q ≡ true → finmap.contains_key m q ≡ true) → ((q : ℕ) → Contains xs q → finmap.contains_key n q ≡ true → ⊥)
    → finmap.len n + length xs ≤ finmap.len m
len_fewer [] m n once has inside gone = let all : finmap.len n ≤ finmap.len m = len-within n m inside in omega arith
len_fewer (x ∷ xs) m n once has inside gone =
    let less = len-drop m x (has x (Contains-head x xs)) in
    let rest : finmap.len n + length xs ≤ finmap.len (finmap.remove m x) = len_fewer xs (finmap.remove m x) n once.1
    (λ q here. other_stays m x q (λ same. once.0 (subst (Contains xs) same here)) (has q (Contains-later x q xs here)))
    (λ q there. other_stays m x q (λ same. gone x (Contains-head x xs) (subst (λ k. finmap.contains_key n k ≡ true) same there)) (inside q there))
    (λ q here. gone q (Contains-later x q xs here)) in
    omega arith

-- ---- what a block keeps

ids_of_map : (table : Table) (ids : List ℕ) → ids_of (map (tx_of table) ids) ≡ ids
ids_of_map table [] = refl
ids_of_map table (id ∷ ids) = ap (λ xs. id ∷ xs) (ids_of_map table ids)

pub mined_ids : (state : PlainState) (ids : List ℕ) (block : MinedBlock) → IsMinedBlock state ids block → ids_of block.txs ≡ ids
mined_ids state ids block is = ap ids_of is.txs ∙ ids_of_map state.table ids

-- what the row of `mine` says where it has no refusal
pub record CanMine (old : PlainState) (ids : List ℕ) : Type 0 where
  pub alone : old.staging ≡ None
  pub once : AreDistinct ids
  pub inside : (id : ℕ) → Contains ids id → Contains old.main.names id
  pub parents : HasParents old.main.pairs ids

pub not_staged : (staging : Option Graph) → (is_some staging ≡ true → ⊥) → staging ≡ None
not_staged None none = refl
not_staged (Some graph) none = absurd (none refl)

stable : (names : List ℕ) (id : ℕ) → ((Contains names id → ⊥) → ⊥) → Contains names id
stable names id nn = elim (told_number names id) [ inl here ↦ here | inr none ↦ absurd (nn none) ]

pub can_mine : (old : PlainState) (ids : List ℕ) → RefusalIs old (Mine ids) None → CanMine old ids
can_mine old ids row =
    let one = row_on row in let two = row_at_on one.1 in let three = row_at_on two.1 in let four = row_at_on three.1 in
    record {
      alone = not_staged old.staging one.0;
      once = none_twice ids (none_first StandsTwice ids two.0);
      inside = λ id here. stable old.main.names id (none_with (IsAbsent old Main) ids three.0 id here);
      parents = λ parent child pair here. stable ids parent (λ none.
          none_with (LacksAncestor old ids) ids four.0 child here (parent, (1, walk_of_pair old.main.pairs parent child pair), none));
    }

kept_block : (old : PlainState) (ids : List ℕ) (block : MinedBlock) → ids ≢ [] → IsValid old → CanMine old ids → IsMinedBlock old ids block
    → IsKeptBlock block
kept_block old ids block some valid can is =
    let same : ids_of block.txs ≡ ids = mined_ids old ids block is in
    record {
      some = λ none. some (sym same ∙ ap ids_of none);
      once = subst AreDistinct (sym same) can.once;
      names = λ id here. valid.main.names id (can.inside id (subst (λ ns. Contains ns id) same here));
      rates = λ id fee size here. rated id fee size
          (map-Contains (tx_of old.table) ids (id, fee, size) (subst (λ txs. Contains txs (id, fee, size)) is.txs here));
      parents = λ a b pair. subst (λ ns. Contains ns a) (sym same) ((is.pairs a b).0 pair).0;
      acyclic = no_cycle_along block.pairs old.main.pairs valid.main.whole.acyclic (λ a b pair. let kept = (is.pairs a b).0 pair in (kept.1, kept.2));
    }
  where
    of_entry : (o : Option Entry) → is_some o ≡ true → ((entry : Entry) → o ≡ Some entry → IsFee entry.fee × IsSize entry.size)
        → IsFee (sum_in o).fee × IsSize (sum_in o).size
    of_entry None none rates = absurd (true≢false (sym none))
    of_entry (Some entry) live rates = rates entry refl

    rated : (id : ℕ) (fee : ℤ) (size : ℕ) → ((q : ℕ) × Contains ids q × (tx_of old.table q ≡ (id, fee, size))) → IsFee fee × IsSize size
    rated id fee size (q, here, at) = subst (λ (tx : ℕ × ℤ × ℕ). IsFee tx.1 × IsSize tx.2) at
        (of_entry (finmap.get old.table q) ((valid.live q).1 (inl (can.inside q here))) (valid.rates q))

-- ---- `mine`

-- names dropped from main, where these blocks are kept then
pub valid_dropped : (old new : PlainState) (ids : List ℕ) (blocks : List MinedBlock) → IsValid old → old.staging ≡ None
    → ((block : MinedBlock) → Contains blocks block → IsKeptBlock block) → length blocks ≤ MAX_BLOCKS
    → DropsFromMain (record old { blocks = blocks }) ids new → IsValid new
valid_dropped old new ids blocks valid alone kept few (graph, without, forgets) =
    let mid : PlainState = record (begun old) { blocks = blocks; main = graph } in
    let level : IsLevel old graph =
    level_within old old old.main graph refl (drops.graph_left old.main graph ids without valid.main.whole) (λ q here. ((without.names q).0 here).0)
    (connects graph.pairs old.main.pairs (λ a b pair. one_pair old.main.pairs a b ((without.pairs a b).0 pair).2)) (λ q here. refl) valid.main in
    forgets_valid old mid new valid refl refl refl refl (same_level old mid graph refl (λ q here. refl) level) (subst (IsStaging mid) (sym alone) tt)
    (λ q is. inl (elim is [
      | inl here ↦ ((without.names q).0 here).0
      | inr here ↦ ((without.names q).0 (subst (λ (g : Graph). Contains g.names q) (ap (top_of graph) alone) here)).0
    ]))
    kept few forgets

pub valid_mined : (old new : PlainState) (ids : List ℕ) → HasTypes (Mine ids) → IsValid old → RefusalIs old (Mine ids) None → Mines old ids new → IsValid new
valid_mined old new ids types valid row (block, is, drops) =
    let can : CanMine old ids = can_mine old ids row in
    let kept : IsKeptBlock block = kept_block old ids block types.0 valid can is in
    valid_dropped old new ids (take MAX_BLOCKS (block ∷ old.blocks)) valid can.alone
    (λ b here. elim (Contains-cases block b old.blocks (front_in MAX_BLOCKS (block ∷ old.blocks) b here)) [
      | inl same ↦ subst IsKeptBlock same kept
      | inr was ↦ valid.blocks b was
    ])
    (front_short MAX_BLOCKS (block ∷ old.blocks)) drops

-- ---- `unmine`

-- what the row of `unmine` says where it has no refusal
pub record CanUnmine (old : PlainState) : Type 0 where
  pub alone : old.staging ≡ None
  pub free : IsFree old (latest_of old.blocks).txs (latest_of old.blocks).pairs

pub can_unmine : (old : PlainState) → RefusalIs old Unmine None → CanUnmine old
can_unmine old row =
    let one = row_on row in let two = row_on one.1 in
    record { alone = not_staged old.staging one.0; free = free_row old (latest_of old.blocks).txs (latest_of old.blocks).pairs two.1 }

module _ (old new : PlainState) (valid : IsValid old) (can : CanUnmine old) (block : MinedBlock) (earlier : List MinedBlock)
    (at : old.blocks ≡ block ∷ earlier) (back : Restores (record old { blocks = earlier }) block.txs block.pairs new) where
  -- the state without the latest block
  abbrev taken : PlainState
  taken = record old { blocks = earlier }

  free : IsFree old block.txs block.pairs
  free = subst (λ (b : MinedBlock). IsFree old b.txs b.pairs) (ap latest_of at) can.free

  valid_taken : IsValid taken
  valid_taken = record {
    limits = valid.limits;
    main = same_level old taken old.main refl (λ id here. refl) valid.main;
    staging = subst (IsStaging taken) (sym can.alone) tt;
    live = valid.live;
    few = valid.few;
    rates = valid.rates;
    blocks = λ b here. valid.blocks b (subst (λ bs. Contains bs b) (sym at) (Contains-later block b earlier here));
    block_count = let long : length old.blocks ≡ suc (length earlier) = ap length at in
        let all : length old.blocks ≤ MAX_BLOCKS = valid.block_count in omega (arith, long, all);
    fresh = λ not_yet. absurd (not_empty (sym at ∙ (valid.fresh not_yet).2));
  }

  kept : IsKeptBlock block
  kept = valid.blocks block (subst (λ bs. Contains bs block) (sym at) (Contains-head block earlier))

  can_come : CanCome taken block.txs block.pairs
  can_come = record {
    alone = can.alone;
    gone = free.gone;
    room = free.room;
    names = kept.names;
    rates = kept.rates;
    parents = kept.parents;
    acyclic = kept.acyclic;
  }

  valid_back : IsValid new
  valid_back = valid_restored taken new block.txs block.pairs valid_taken can_come back (none_brought taken new block.txs block.pairs valid_taken can_come back
      (λ why over. free.within why (over_with old earlier block.txs block.pairs why over)))

pub valid_unmined : (old new : PlainState) → IsValid old → RefusalIs old Unmine None → Unmines old new → IsValid new
valid_unmined old new valid row (block, earlier, at, back) = valid_back old new valid (can_unmine old row) block earlier at back
