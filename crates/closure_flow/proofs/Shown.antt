-- What the rows of a flow say of a child and a parent.
use Rattle.std.proofs.Common.{◌≡◌, ℕ, ◌≤◌, inl, inr, List, [], map, get_or, ℤ, sym, ap, ◌∙◌, subst, arith}
use Rattle.std.proofs.lemmas.Bool.{cases_lt, false_from_ne_true}
use Rattle.std.proofs.lemmas.List.{get_or_past}
use Rattle.std.proofs.lemmas.List.FromFn.{get_or-map-range_with_len, length-map-range_with_len}
use Rattle.std.specs.List.{range_with_len}
use Rattle.std.specs.Ordering.{nat_cmp}
use Rattle.std.specs.FinSet as set
use Rattle.bitset.specs.Places.{IsWithin}
use Rattle.closure_flow.specs.Networks.{IsLean}
use Rattle.closure_flow.specs.Closures.{IsBalanced}
use Rattle.closure_flow.specs.Scratches.{Room, flow_of, rows, shown}
use Rattle.closure_flow.proofs.Networks.{not_received, not_sent}

-- a list read past its end, or where it is 0
row_is : (n : ℕ) (f : ℕ → ℕ) (p : ℕ) → (n ≤ p → f p ≡ 0) → get_or (map f (range_with_len 0 n)) p 0 ≡ f p
row_is n f p none = elim (cases_lt p n) as (λ _. get_or (map f (range_with_len 0 n)) p 0 ≡ f p) [
  | inl less ↦ get_or-map-range_with_len f 0 n p p 0 less (omega arith)
  | inr more ↦ get_or_past (map f (range_with_len 0 n)) p 0 (omega (arith, more, length-map-range_with_len f 0 n)) ∙ sym (none (omega (arith, more)))
]

-- a flow that is none where a place isn't below n is the one that its rows show
pub flow_of-rows : (n : ℕ) (f : ℕ → ℕ → ℕ) → ((c p : ℕ) → n ≤ c → f c p ≡ 0) → ((c p : ℕ) → n ≤ p → f c p ≡ 0) → (c p : ℕ)
    → get_or (get_or (rows n f) c []) p 0 ≡ f c p
flow_of-rows n f child parent c p = elim (cases_lt c n) as (λ _. get_or (get_or (rows n f) c []) p 0 ≡ f c p) [
  | inl less ↦ ap (λ row. get_or row p 0) (get_or-map-range_with_len (λ k. map (f k) (range_with_len 0 n)) 0 n c c [] less (omega arith))
      ∙ row_is n (f c) p (parent c p)
  | inr more ↦
      let past = get_or_past (rows n f) c [] (omega (arith, more, length-map-range_with_len (λ k. map (f k) (range_with_len 0 n)) 0 n)) in
      ap (λ row. get_or row p 0) past ∙ sym (child c p (omega (arith, more)))
]

-- so is that of a network
pub shown_is : (n : ℕ) (within : set.FinSet nat_cmp) (into : List (set.FinSet nat_cmp)) (amounts : List ℕ) → IsLean n into amounts
    → IsWithin n within → (c p : ℕ) → get_or (get_or (rows n (shown n within into amounts)) c []) p 0 ≡ shown n within into amounts c p
shown_is n within into amounts lean below =
    flow_of-rows n (shown n within into amounts) (λ c p past. not_sent n within into amounts c p lean below past)
    (λ c p past. not_received n within into amounts c p (false_from_ne_true _ (λ m. omega (arith, past, below p m))))

-- what a network's rows balance, the network balances
pub balanced_shown : (n : ℕ) (weights : List ℤ) (parents : List (set.FinSet nat_cmp)) (among within : set.FinSet nat_cmp)
    (into : List (set.FinSet nat_cmp)) (amounts : List ℕ) (given : ℕ) (view : Room) → IsLean n into amounts → IsWithin n within
    → (let room : Room = record { flow = rows n (shown n within into amounts); given = given } in room ≡ view)
    → IsBalanced n weights parents among (flow_of view)
    → IsBalanced n weights parents among (shown n within into amounts)
balanced_shown n weights parents among within into amounts given view lean below is balanced =
    let same : flow_of view ≡ shown n within into amounts =
    ap (λ (r : Room). flow_of r) (sym is) ∙ (λ i c p. shown_is n within into amounts lean below c p i) in
    subst (λ (f : ℕ → ℕ → ℕ). IsBalanced n weights parents among f) same balanced
