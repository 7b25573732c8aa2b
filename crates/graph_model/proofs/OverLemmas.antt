-- Transactions that would bring a component over the limits are refused in one way.
use Rattle.std.proofs.Common.{◌≡◌, ℕ, ◌<◌, ◌≤◌, List, [], ◌∷◌, length, Option, None, Some, sym, refl, ap, subst, ◌∙◌, inl, inr, arith}
use Rattle.std.specs.Prelude.{sum_by}
use Rattle.arithmetic.proofs.Sums.{sum_by_along}
use Rattle.graphs.specs.Graphs.{Graph, AreConnected, Lists}
use Rattle.graphs.specs.Certificates.{Txs}
use Rattle.graphs.proofs.ListLemmas.{Lists-same, Lists-for}
use Rattle.graph_model.specs.declared.names.Refusal.{Refusal}
use Rattle.graph_model.specs.declared.names.Refusal.TheVariants.{ClusterSize, Full, Back}
use Rattle.graph_model.specs.Limits.{Bounds}
use Rattle.graph_model.specs.States.{PlainState, MinedBlock, size_in, size_of}
use Rattle.graph_model.specs.Changes.{ids_of}
use Rattle.graph_model.specs.Refusals.{IsFirst, ToldOver, IsInOver, BringsOver, RestoreRow, latest_of}
use Rattle.graph_model.specs.SameLaws.{IsSameGraph, IsSameStaging, IsSameBlock, AreSameBlocks, IsSameState}
use Rattle.graph_model.proofs.RowLemmas.{IsOne, end_one, first_one, first_at_one, first_of_one, first_entry}
use Rattle.graph_model.proofs.FirstLemmas.{first_along}
use Rattle.graph_model.proofs.SameLemmas.{back, linked_to, state_back}
use Rattle.graph_model.proofs.SameMinedLemmas.{same_restored}

-- ---- a state is the same as itself

pub graph_itself : (a : Graph) → IsSameGraph a a
graph_itself a = record { names = λ id. (λ here. here, λ here. here); pairs = λ x y. (λ here. here, λ here. here) }

block_itself : (x : MinedBlock) → IsSameBlock x x
block_itself x = record { txs = refl; pairs = λ a b. (λ here. here, λ here. here) }

pub blocks_itself : (xs : List MinedBlock) → AreSameBlocks xs xs
blocks_itself [] = tt
blocks_itself (x ∷ xs) = (block_itself x, blocks_itself xs)

pub state_itself : (a : PlainState) → IsSameState a a
state_itself a = record {
  limits = refl;
  most = refl;
  begun = refl;
  table = λ id. refl;
  main = graph_itself a.main;
  staging = either a.staging;
  blocks = blocks_itself a.blocks;
}
  where
    either : (s : Option Graph) → IsSameStaging s s
    either None = tt
    either (Some x) = graph_itself x

pub latest_same : (xs ys : List MinedBlock) → AreSameBlocks xs ys → IsSameBlock (latest_of xs) (latest_of ys)
latest_same [] [] same = block_itself (record { txs = []; pairs = [] })
latest_same (x ∷ xs) (y ∷ ys) same = same.0
latest_same [] (y ∷ ys) none = absurd none
latest_same (x ∷ xs) [] none = absurd none

-- ---- what would come over the limits

sizes_same : (a b : PlainState) → IsSameState a b → (ids : List ℕ) → sum_by (size_of a.table) ids ≡ sum_by (size_of b.table) ids
sizes_same a b same ids = sum_by_along (size_of a.table) (size_of b.table) ids (λ id here. ap size_in (same.table id))

component_same : (a b : PlainState) → IsSameState a b → (id : ℕ) (ids : List ℕ) → Lists (AreConnected a.main.pairs id) ids
    → Lists (AreConnected b.main.pairs id) ids
component_same a b same id ids = Lists-for (AreConnected a.main.pairs id) (AreConnected b.main.pairs id) ids (linked_to a.main b.main same.main id)
    (linked_to b.main a.main (back a.main b.main same.main) id)

pub over_along : (a b : PlainState) (id : ℕ) (why : Refusal) → IsSameState a b → IsInOver a id why → IsInOver b id why
over_along a b id why same (ids, all, told) = (
  ids,
  component_same a b same id ids all,
  elim told [
    | inl many ↦ inl (subst (λ (l : Bounds). l.count < length ids) same.limits many.0, many.1)
    | inr large ↦ inr (
      subst (λ (l : Bounds). length ids ≤ l.count) same.limits large.0,
      subst (λ (l : Bounds). l.size < sum_by (size_of b.table) ids) same.limits (subst (λ n. a.limits.size < n) (sizes_same a b same ids) large.1),
      large.2 ∙ ap ClusterSize (sizes_same a b same ids),
    )
  ],
)

-- names over the limits are told in one way
one_told : (bounds : Bounds) (size : ℕ → ℕ) (ids : List ℕ) (why other : Refusal) → ToldOver bounds size ids why → ToldOver bounds size ids other → why ≡ other
one_told bounds size ids why other one two = elim one [
  | inl many ↦ elim two [ inl also ↦ many.1 ∙ sym also.1 | inr large ↦ absurd (let none : ⊥ = omega (arith, many.0, large.0) in none) ]
  | inr large ↦ elim two [ inl many ↦ absurd (let none : ⊥ = omega (arith, many.0, large.0) in none) | inr also ↦ large.2 ∙ sym also.2 ]
]

one_in_over : (state : PlainState) (id : ℕ) (why other : Refusal) → IsInOver state id why → IsInOver state id other → why ≡ other
one_in_over state id why other (xs, all, one) (ys, also, two) =
    one_told state.limits (size_of state.table) ys why other
    (subst (λ ids. ToldOver state.limits (size_of state.table) ids why) (Lists-same (AreConnected state.main.pairs id) xs ys all also) one) two

-- of states that are the same the same transactions would bring the same component over the limits, told so
pub over_same : (a b : PlainState) (x y : MinedBlock) (why other : Refusal) → IsSameState a b → IsSameBlock x y → BringsOver a x.txs x.pairs why
    → BringsOver b y.txs y.pairs other → why ≡ other
over_same a b x y why other same block one two =
    let next : IsSameState one.next two.next = same_restored a b one.next two.next x y same block one.restores two.restores in
    let also : IsFirst (λ before id. (any : Refusal) × IsInOver two.next id any) (ids_of y.txs) one.id =
    first_along (λ before id. (any : Refusal) × IsInOver one.next id any) (λ before id. (any : Refusal) × IsInOver two.next id any) (ids_of y.txs) one.id
    (λ before id is. (is.0, over_along one.next two.next id is.0 next is.1))
    (λ before id is. (is.0, over_along two.next one.next id is.0 (state_back one.next two.next next) is.1))
    (subst (λ txs. IsFirst (λ before id. (any : Refusal) × IsInOver one.next id any) (ids_of txs) one.id) block.txs one.first) in
    let id : one.id ≡ two.id = first_entry (λ before id. (any : Refusal) × IsInOver two.next id any) (ids_of y.txs) one.id two.id also two.first in
    one_in_over two.next two.id why other (subst (λ n. IsInOver two.next n why) id (over_along one.next two.next one.id why next one.over)) two.over

one_over : (state : PlainState) (txs : Txs) (pairs : List (ℕ × ℕ)) (one other : Refusal) → BringsOver state txs pairs one → BringsOver state txs pairs other
    → one ≡ other
one_over state txs pairs one other =
    let block : MinedBlock = record { txs = txs; pairs = pairs } in over_same state state block block one other (state_itself state) (block_itself block)

-- transactions that are to come into main are refused in one way, or not
pub one_restore : (state : PlainState) (txs : Txs) (pairs : List (ℕ × ℕ)) → IsOne (RestoreRow state txs pairs)
one_restore state txs pairs =
    first_at_one (IsFirst _ (ids_of txs)) Back _ (first_entry _ (ids_of txs))
    (first_one _ Full _ (first_of_one (BringsOver state txs pairs) _ (one_over state txs pairs) end_one))
