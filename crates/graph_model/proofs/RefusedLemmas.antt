-- States that are the same but for the order of names and pairs meet the same refusals.
use Rattle.std.proofs.Common.{◌≡◌, ℕ, ◌+◌, ◌<◌, ◌≤◌, false, List, [], ◌∷◌, length, Option, None, Some, sym, refl, ap, subst, ◌∙◌, inl, inr, ◌⊎◌, ◌↔◌, arith}
use Rattle.std.specs.Prelude.{Contains, IsSome, sum_by}
use Rattle.std.specs.FinMap as finmap
use Rattle.lists.proofs.Entries.{Contains-head, none_in_empty}
use Rattle.lists.proofs.Keys.{len-within}
use Rattle.graphs.specs.declared.names.Level.{Level}
use Rattle.graphs.specs.declared.names.Level.TheVariants.{Main, Top}
use Rattle.graphs.specs.Graphs.{Graph}
use Rattle.graphs.proofs.ListLemmas.{Lists-for}
use Rattle.graph_model.specs.declared.names.Refusal.{Refusal}
use Rattle.graph_model.specs.declared.names.Refusal.TheVariants.{Late, Range, Fee, Full, Unknown, Staging, Twice, Parent, Empty, NoStaging, Oversized, NoBlock, Back}
use Rattle.graph_model.specs.Limits.{Bounds, AreInRange, AreOver}
use Rattle.graph_model.specs.States.{PlainState, MinedBlock, level_of, IsLive, IsStaged, size_in, size_of}
use Rattle.graph_model.specs.Oversize.{IsOversized}
use Rattle.graph_model.specs.Changes.{begun, Restores, ids_of}
use Rattle.graph_model.specs.Refusals.{RefusalIs, RestoreRow, NameRow, CompareRow, IsAbsent, IsFirst, IsInOver, JoinsTo, LacksAncestor, OverCount, OverSize, BringsOver, latest_of}
use Rattle.graph_model.specs.Commands.{Command, SetLimits, Add, Dep, SetFee, Remove, Mine, Evict, Stage, Commit, Abort, Settle, Trim, Unmine, Dump, Compare, Order, Diagram, Proof, Cluster, Ancestors, Descendants, Chunk, Before, Block, Count}
use Rattle.graph_model.specs.SameLaws.{IsSameStaging, IsSameBlock, AreSameBlocks, IsSameState}
use Rattle.graph_model.proofs.FirstLemmas as firsts
use Rattle.graph_model.proofs.RowLemmas.{first_along, first_at_along, first_of_along, add_row_along, dep_row_along}
use Rattle.graph_model.proofs.SameLemmas.{back, up_to, linked_to, level_same, blocks_back, state_back}
use Rattle.graph_model.proofs.SameMinedLemmas.{same_restored}
use Rattle.graph_model.proofs.OverLemmas.{latest_same, over_along}

module _ (a b : PlainState) (same : IsSameState a b) where
  live : (id : ℕ) → IsLive a id ↔ IsLive b id
  live id = (subst IsSome (same.table id), subst IsSome (sym (same.table id)))

  as_many : finmap.len a.table ≡ finmap.len b.table
  as_many =
      let one : finmap.len a.table ≤ finmap.len b.table = len-within a.table b.table (λ q has. (live q).0 has) in
      let two : finmap.len b.table ≤ finmap.len a.table = len-within b.table a.table (λ q has. (live q).1 has) in
      omega (arith, one, two)

  sizes : size_of a.table ≡ size_of b.table
  sizes i id = size_in (same.table id i)

  absent : (level : Level) (id : ℕ) → IsAbsent a level id ↔ IsAbsent b level id
  absent level id =
      let names = (level_same a b level same).names id in (λ none here. none (names.1 here), λ none here. none (names.0 here))

  staged : IsStaged a ↔ IsStaged b
  staged = both a.staging b.staging same.staging
    where
      both : (sa sb : Option Graph) → IsSameStaging sa sb → IsSome sa ↔ IsSome sb
      both None None none = (λ some. some, λ some. some)
      both (Some x) (Some y) is = (λ some. refl, λ some. refl)
      both None (Some y) none = absurd none
      both (Some x) None none = absurd none

  joins : (parent child : ℕ) (ids : List ℕ) → JoinsTo (level_of a Top).pairs parent child ids → JoinsTo (level_of b Top).pairs parent child ids
  joins parent child ids (apart, lists) =
      let graphs = level_same a b Top same in
      let turned = back (level_of a Top) (level_of b Top) graphs in
      let there = linked_to (level_of a Top) (level_of b Top) graphs in
      let here = linked_to (level_of b Top) (level_of a Top) turned in (
        λ linked. apart (here parent child linked),
        Lists-for _ _ ids
            (λ id is. elim is [ inl one ↦ inl (there id parent one) | inr two ↦ inr (there id child two) ])
            (λ id is. elim is [ inl one ↦ inl (here id parent one) | inr two ↦ inr (here id child two) ]) lists,
      )

  over_count : (parent child n : ℕ) → OverCount a parent child n → OverCount b parent child n
  over_count parent child n (ids, strict, members, is, over) = (
    ids,
    subst (λ (l : Bounds). l.defer ≡ false) same.limits strict,
    joins parent child ids members,
    is,
    subst (λ (l : Bounds). l.count < n) same.limits over,
  )

  over_size : (parent child n : ℕ) → OverSize a parent child n → OverSize b parent child n
  over_size parent child n (ids, strict, members, is, over) = (
    ids,
    subst (λ (l : Bounds). l.defer ≡ false) same.limits strict,
    joins parent child ids members,
    subst (λ size. n ≡ sum_by size ids) sizes is,
    subst (λ (l : Bounds). l.size < n) same.limits over,
  )

  oversized : (level : Level) → IsOversized a level → IsOversized b level
  oversized level (ids, one, over) =
      let graphs = level_same a b level same in (
        ids,
        record {
          once = one.once;
          inside = λ id here. (graphs.names id).0 (one.inside id here);
          together = λ x y here there. linked_to (level_of a level) (level_of b level) graphs x y (one.together x y here there);
        },
        subst (λ size. AreOver b.limits size ids) sizes (subst (λ (l : Bounds). AreOver l (size_of a.table) ids) same.limits over),
      )

  over : IsOversized a Main ⊎ IsOversized a Top → IsOversized b Main ⊎ IsOversized b Top
  over one = elim one [ inl main ↦ inl (oversized Main main) | inr top ↦ inr (oversized Top top) ]

  full : a.limits.total ≤ finmap.len a.table → b.limits.total ≤ finmap.len b.table
  full all = let limit = ap (λ (l : Bounds). l.total) same.limits in omega (arith, all, limit, as_many)

  in_range : (bounds : Bounds) → AreInRange a.most bounds → AreInRange b.most bounds
  in_range bounds = subst (λ most. AreInRange most bounds) same.most

  none_named : a.main.names ≡ [] → b.main.names ≡ []
  none_named none = empty b.main.names (λ id here. none_in_empty id (subst (λ names. Contains names id) none ((same.main.names id).1 here)))
    where
      empty : (names : List ℕ) → ((id : ℕ) → Contains names id → ⊥) → names ≡ []
      empty [] without = refl
      empty (id ∷ ids) without = absurd (without id (Contains-head id ids))

  no_block : a.blocks ≡ [] → b.blocks ≡ []
  no_block none = empty b.blocks (subst (λ blocks. AreSameBlocks blocks b.blocks) none same.blocks)
    where
      empty : (blocks : List MinedBlock) → AreSameBlocks [] blocks → blocks ≡ []
      empty [] alike = refl
      empty (block ∷ blocks) alike = absurd alike

  lacks : (ids : List ℕ) (id : ℕ) → LacksAncestor a ids id → LacksAncestor b ids id
  lacks ids id (ancestor, up, none) = (ancestor, up_to a.main b.main same.main ancestor id up, none)

  -- ---- transactions that are to come into main

  module _ (x y : MinedBlock) (block : IsSameBlock x y) where
    too_many : a.limits.total < finmap.len a.table + length (ids_of x.txs) → b.limits.total < finmap.len b.table + length (ids_of y.txs)
    too_many more =
        let limit = ap (λ (l : Bounds). l.total) same.limits in
        let txs : length (ids_of x.txs) ≡ length (ids_of y.txs) = ap (λ ts. length (ids_of ts)) block.txs in omega (arith, more, limit, as_many, txs)

    first_live : (id : ℕ) → IsFirst (λ before id. IsLive a id) (ids_of x.txs) id → IsFirst (λ before id. IsLive b id) (ids_of y.txs) id
    first_live id first =
        subst (λ txs. IsFirst (λ before id. IsLive b id) (ids_of txs) id) block.txs
        (firsts.first_along (λ before id. IsLive a id) (λ before id. IsLive b id) (ids_of x.txs) id (λ before n. (live n).0) (λ before n. (live n).1) first)

    -- what they make of the one state is made of the other, listed the same way
    restored : (next : PlainState) → Restores a x.txs x.pairs next → Restores b y.txs y.pairs (record (begun b) { table = next.table; main = next.main })
    restored next restores = record {
      same = refl;
      graph = record {
        names = λ id. (
          λ here. elim ((restores.graph.names id).0 here) [ inl was ↦ inl ((same.main.names id).0 was) | inr put ↦ inr (listed id put) ],
          λ here. (restores.graph.names id).1 (elim here [ inl was ↦ inl ((same.main.names id).1 was) | inr put ↦ inr (listed_back id put) ]),
        );
        names_once = restores.graph.names_once;
        pairs = λ p q. (
          λ here. elim ((restores.graph.pairs p q).0 here) [
            | inl was ↦ inl ((same.main.pairs p q).0 was)
            | inr put ↦ inr ((block.pairs p q).0 put.0, put.1)
          ],
          λ here. (restores.graph.pairs p q).1 (elim here [
            | inl was ↦ inl ((same.main.pairs p q).1 was)
            | inr put ↦ inr ((block.pairs p q).1 put.0, put.1)
          ]),
        );
        pairs_once = restores.graph.pairs_once;
      };
      listed = λ id fee size here. restores.listed id fee size (subst (λ txs. Contains txs (id, fee, size)) (sym block.txs) here);
      others = λ id none. restores.others id (λ here. none (listed id here)) ∙ same.table id;
    }
      where
        listed : (id : ℕ) → Contains (ids_of x.txs) id → Contains (ids_of y.txs) id
        listed id here = subst (λ txs. Contains (ids_of txs) id) block.txs here

        listed_back : (id : ℕ) → Contains (ids_of y.txs) id → Contains (ids_of x.txs) id
        listed_back id here = subst (λ txs. Contains (ids_of txs) id) (sym block.txs) here

    brings : (why : Refusal) → BringsOver a x.txs x.pairs why → BringsOver b y.txs y.pairs why
    brings why over =
        let next : PlainState = record (begun b) { table = over.next.table; main = over.next.main } in
        let there : IsSameState over.next next =
        same_restored a b over.next next x y same block over.restores (restored over.next over.restores) in
        let turned : IsSameState next over.next = state_back over.next next there in
        record {
          strict = subst (λ (l : Bounds). l.defer ≡ false) same.limits over.strict;
          next = next;
          restores = restored over.next over.restores;
          id = over.id;
          first = subst (λ txs. IsFirst (λ before id. (any : Refusal) × IsInOver next id any) (ids_of txs) over.id) block.txs
              (firsts.first_along (λ before id. (any : Refusal) × IsInOver over.next id any) (λ before id. (any : Refusal) × IsInOver next id any)
              (ids_of x.txs) over.id (λ before id is. (is.0, over_along over.next next id is.0 there is.1))
              (λ before id is. (is.0, over_along next over.next id is.0 turned is.1)) over.first);
          over = over_along over.next next over.id why there over.over;
        }

not_along : {A B : Type 0} → A ↔ B → (A → ⊥) ↔ (B → ⊥)
not_along same = (λ no b. no (same.1 b), λ no a. no (same.0 a))

keep : {A : Type 0} → A ↔ A
keep = (λ x. x, λ x. x)

block_back : (x y : MinedBlock) → IsSameBlock x y → IsSameBlock y x
block_back x y block = (blocks_back (x ∷ []) (y ∷ []) (block, tt)).0

-- ---- rows

module _ (a b : PlainState) (same : IsSameState a b) (found : Option Refusal) where
  turned : IsSameState b a
  turned = state_back a b same

  restore_row : (x y : MinedBlock) → IsSameBlock x y → RestoreRow a x.txs x.pairs found → RestoreRow b y.txs y.pairs found
  restore_row x y block =
      let other = block_back x y block in
      first_at_along Back (λ id. (first_live a b same x y block id, first_live b a turned y x other id))
      (first_along Full (too_many a b same x y block, too_many b a turned y x other)
      (first_of_along (λ why. (brings a b same x y block why, brings b a turned y x other why)) (λ none. none)))

  over_row : (level : Level) → (IsOversized a level × (found ≡ Some Oversized)) ⊎ ((IsOversized a level → ⊥) × (found ≡ None))
      → (IsOversized b level × (found ≡ Some Oversized)) ⊎ ((IsOversized b level → ⊥) × (found ≡ None))
  over_row level = first_along Oversized (oversized a b same level, oversized b a turned level) (λ none. none)

  name_row : (id : ℕ) (level : Level) → NameRow (IsAbsent a level id) (IsOversized a level) id found
      → NameRow (IsAbsent b level id) (IsOversized b level) id found
  name_row id level = first_along (Unknown id) (absent a b same level id) (over_row level)

  compare_row : CompareRow (IsStaged a → ⊥) (IsOversized a Main ⊎ IsOversized a Top) found
      → CompareRow (IsStaged b → ⊥) (IsOversized b Main ⊎ IsOversized b Top) found
  compare_row = first_along NoStaging (not_along (staged a b same)) (first_along Oversized (over a b same, over b a turned) (λ none. none))

  -- the first entry of a list with a property that does without the entries before
  first_with : (P Q : ℕ → Type 0) (ids : List ℕ) → ((id : ℕ) → P id ↔ Q id) → (id : ℕ)
      → IsFirst (λ before n. P n) ids id ↔ IsFirst (λ before n. Q n) ids id
  first_with P Q ids along id = (
    firsts.first_along (λ before n. P n) (λ before n. Q n) ids id (λ before n. (along n).0) (λ before n. (along n).1),
    firsts.first_along (λ before n. Q n) (λ before n. P n) ids id (λ before n. (along n).1) (λ before n. (along n).0),
  )

  -- what a command meets in one state it meets in the other
  pub refused_along : (command : Command) → RefusalIs a command found → RefusalIs b command found
  refused_along (SetLimits limits) =
      first_along Late ((λ is. sym same.begun ∙ is), (λ is. same.begun ∙ is))
      (first_along Range (not_along (in_range a b same limits, in_range b a turned limits)) (λ none. none))
  refused_along (Add id fee size) =
      add_row_along _ _ _ _ _ _ _ _ _ _ size found keep keep (live a b same id)
      (subst (λ (l : Bounds). l.size < size) same.limits, subst (λ (l : Bounds). l.size < size) (sym same.limits)) (full a b same, full b a turned)
  refused_along (Dep parent child) =
      dep_row_along _ _ _ _ _ _ _ _ _ _ parent child found (absent a b same Top parent) (absent a b same Top child)
      (λ p c. (up_to _ _ (level_same a b Top same) child parent, up_to _ _ (level_same b a Top turned) child parent))
      (λ n. (over_count a b same parent child n, over_count b a turned parent child n))
      (λ n. (over_size a b same parent child n, over_size b a turned parent child n))
  refused_along (SetFee id fee) = first_along Fee keep (first_along (Unknown id) (not_along (live a b same id)) (λ none. none))
  refused_along (Remove id) = first_along (Unknown id) (absent a b same Top id) (λ none. none)
  refused_along (Mine ids) =
      first_along Staging (staged a b same) (first_at_along Twice (λ id. keep)
      (first_at_along Unknown (first_with (IsAbsent a Main) (IsAbsent b Main) ids (absent a b same Main))
      (first_at_along Parent (first_with (LacksAncestor a ids) (LacksAncestor b ids) ids (λ id. (lacks a b same ids id, lacks b a turned ids id))) (λ none. none))))
  refused_along Evict = first_along Staging (staged a b same) (first_along Empty (none_named a b same, none_named b a turned) (over_row Main))
  refused_along Stage = first_along Staging (staged a b same) (λ none. none)
  refused_along Commit = first_along NoStaging (not_along (staged a b same)) (λ none. none)
  refused_along Abort = first_along NoStaging (not_along (staged a b same)) (λ none. none)
  refused_along Settle = compare_row
  refused_along Compare = compare_row
  refused_along Trim = λ none. none
  refused_along Unmine =
      first_along Staging (staged a b same) (first_along NoBlock (no_block a b same, no_block b a turned)
      (restore_row (latest_of a.blocks) (latest_of b.blocks) (latest_same a.blocks b.blocks same.blocks)))
  refused_along Dump = over_row Main
  refused_along (Order level) = over_row level
  refused_along (Diagram level) = over_row level
  refused_along (Proof level) = over_row level
  refused_along (Cluster id level) = name_row id level
  refused_along (Ancestors id level) = name_row id level
  refused_along (Descendants id level) = name_row id level
  refused_along (Chunk id) = name_row id Main
  refused_along (Before x y) = first_along (Unknown x) (absent a b same Main x) (name_row y Main)
  refused_along (Block size) = over_row Main
  refused_along (Count level) = λ none. none
