-- What mining and taking a block back make of states that are the same but for the order of names and pairs.
use Rattle.std.proofs.Common.{◌≡◌, ℕ, ℤ, suc, zero, List, [], ◌∷◌, sym, refl, subst, ◌∙◌, inl, inr}
use Rattle.std.specs.Prelude.{Contains, take}
use Rattle.std.specs.FinMap as finmap
use Rattle.lists.proofs.Told.{told_number}
use Rattle.lists.proofs.Entries.{map-Contains, map_along}
use Rattle.graphs.specs.Certificates.{Txs}
use Rattle.graph_model.specs.declared.limits.TheConstants.{MAX_BLOCKS}
use Rattle.graph_model.specs.States.{PlainState, MinedBlock, Table, rate_of, sum_in}
use Rattle.graph_model.specs.Changes.{begun, DropsFromMain, IsMinedBlock, Mines, ids_of, Restores, Unmines}
use Rattle.graph_model.specs.SameLaws.{IsSameBlock, AreSameBlocks, IsSameState}
use Rattle.graph_model.proofs.SameLemmas.{back, up_to, drops_same, same_left, of_equal}

-- names dropped from main
pub same_dropped : (a b a' b' : PlainState) (ids : List ℕ) → IsSameState a b → DropsFromMain a ids a' → DropsFromMain b ids b' → IsSameState a' b'
same_dropped a b a' b' ids same one two = same_left (record (begun a) { main = one.0 }) (record (begun b) { main = two.0 }) a' b'
    (record {
      limits = same.limits;
      most = same.most;
      begun = refl;
      table = same.table;
      main = drops_same a.main b.main one.0 two.0 ids same.main one.1 two.1;
      staging = same.staging;
      blocks = same.blocks;
    })
    one.2 two.2

-- ---- `mine`

blocks_front : (n : ℕ) (xs ys : List MinedBlock) → AreSameBlocks xs ys → AreSameBlocks (take n xs) (take n ys)
blocks_front zero xs ys same = tt
blocks_front (suc n) [] [] same = tt
blocks_front (suc n) (x ∷ xs) (y ∷ ys) same = (same.0, blocks_front n xs ys same.1)
blocks_front (suc n) [] (y ∷ ys) none = absurd none
blocks_front (suc n) (x ∷ xs) [] none = absurd none

-- a name with the fee and the size that the table has of it
abbrev pub tx_of : Table → ℕ → ℕ × ℤ × ℕ
tx_of table id = (id, (rate_of table id).fee, (rate_of table id).size)

mined_same : (a b : PlainState) (ids : List ℕ) (x y : MinedBlock) → IsSameState a b → IsMinedBlock a ids x → IsMinedBlock b ids y → IsSameBlock x y
mined_same a b ids x y same one two = record {
  txs = one.txs
      ∙ map_along (tx_of a.table) (tx_of b.table) ids (λ id here i. (id, (sum_in (same.table id i)).fee, (sum_in (same.table id i)).size)) ∙ sym two.txs;
  pairs = λ m d. (
    λ here. let is = (one.pairs m d).0 here in (two.pairs m d).1 (is.0, up_to a.main b.main same.main m d is.1, is.2),
    λ here. let is = (two.pairs m d).0 here in (one.pairs m d).1
        (is.0, up_to b.main a.main (back a.main b.main same.main) m d is.1, is.2),
  );
}

pub same_mined : (a b a' b' : PlainState) (ids : List ℕ) → IsSameState a b → Mines a ids a' → Mines b ids b' → IsSameState a' b'
same_mined a b a' b' ids same one two =
    same_dropped (record a { blocks = take MAX_BLOCKS (one.0 ∷ a.blocks) }) (record b { blocks = take MAX_BLOCKS (two.0 ∷ b.blocks) }) a' b' ids
    (record {
      limits = same.limits;
      most = same.most;
      begun = same.begun;
      table = same.table;
      main = same.main;
      staging = same.staging;
      blocks = blocks_front MAX_BLOCKS (one.0 ∷ a.blocks) (two.0 ∷ b.blocks) (mined_same a b ids one.0 two.0 same one.1 two.1, same.blocks);
    })
    one.2 two.2

-- ---- `unmine`

-- a listed name has its fee and its size
pub listed_tx : (txs : Txs) (id : ℕ) → Contains (ids_of txs) id → (fee : ℤ) × (size : ℕ) × Contains txs (id, fee, size)
listed_tx txs id here =
    let from = map-Contains (λ (tx : ℕ × ℤ × ℕ). tx.0) txs id here in
    (from.0.1, from.0.2, subst (λ n. Contains txs (n, from.0.1, from.0.2)) from.2 from.1)

-- the same transactions come into main of states that are the same
pub same_restored : (a b a' b' : PlainState) (x y : MinedBlock) → IsSameState a b → IsSameBlock x y → Restores a x.txs x.pairs a' → Restores b y.txs y.pairs b'
    → IsSameState a' b'
same_restored a b a' b' x y same block one two =
    let txs : x.txs ≡ y.txs = block.txs in
    let listed : (id : ℕ) → Contains (ids_of x.txs) id → Contains (ids_of y.txs) id = λ id here. subst (λ ts. Contains (ids_of ts) id) txs here in
    let listed_back : (id : ℕ) → Contains (ids_of y.txs) id → Contains (ids_of x.txs) id = λ id here. subst (λ ts. Contains (ids_of ts) id) (sym txs) here in
    let entry : (id : ℕ) → finmap.get a'.table id ≡ finmap.get b'.table id = λ id. elim (told_number (ids_of x.txs) id) [
      | inl here ↦
          let tx = listed_tx x.txs id here in
          one.listed id tx.0 tx.1 tx.2 ∙ sym (two.listed id tx.0 tx.1 (subst (λ ts. Contains ts (id, tx.0, tx.1)) txs tx.2))
      | inr none ↦ one.others id none ∙ same.table id ∙ sym (two.others id (λ here. none (listed_back id here)))
    ] in
    let names : (id : ℕ) → Contains a'.main.names id → Contains b'.main.names id = λ id here. (two.graph.names id).1
    (elim ((one.graph.names id).0 here) [ inl was ↦ inl ((same.main.names id).0 was) | inr put ↦ inr (listed id put) ]) in
    let names_back : (id : ℕ) → Contains b'.main.names id → Contains a'.main.names id = λ id here. (one.graph.names id).1
    (elim ((two.graph.names id).0 here) [ inl was ↦ inl ((same.main.names id).1 was) | inr put ↦ inr (listed_back id put) ]) in
    of_equal (record (begun a) { table = a'.table; main = a'.main }) (record (begun b) { table = b'.table; main = b'.main }) a' b' one.same two.same
    (record {
      limits = same.limits;
      most = same.most;
      begun = refl;
      table = entry;
      main = record {
        names = λ id. (names id, names_back id);
        pairs = λ p q. (
          λ here. (two.graph.pairs p q).1 (elim ((one.graph.pairs p q).0 here) [
            | inl was ↦ inl ((same.main.pairs p q).0 was)
            | inr put ↦ inr ((block.pairs p q).0 put.0, names q put.1)
          ]),
          λ here. (one.graph.pairs p q).1 (elim ((two.graph.pairs p q).0 here) [
            | inl was ↦ inl ((same.main.pairs p q).1 was)
            | inr put ↦ inr ((block.pairs p q).1 put.0, names_back q put.1)
          ]),
        );
      };
      staging = same.staging;
      blocks = same.blocks;
    })

pub same_unmined : (a b a' b' : PlainState) → IsSameState a b → Unmines a a' → Unmines b b' → IsSameState a' b'
same_unmined a b a' b' same (x, xs, at_a, one) (y, ys, at_b, two) =
    let blocks : AreSameBlocks (x ∷ xs) (y ∷ ys) = subst (AreSameBlocks (x ∷ xs)) at_b (subst (λ zs. AreSameBlocks zs b.blocks) at_a same.blocks) in
    same_restored (record a { blocks = xs }) (record b { blocks = ys }) a' b' x y
    (record {
      limits = same.limits;
      most = same.most;
      begun = same.begun;
      table = same.table;
      main = same.main;
      staging = same.staging;
      blocks = blocks.1;
    })
    blocks.0 one two
