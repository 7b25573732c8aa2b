-- Flows bound every closed set within the part that they certify.
use Rattle.std.proofs.Common.{◌≡◌, ℕ, ◌+◌, ◌≤◌, List, [], ◌∷◌, cond, inl, inr, ◌⊎◌, pos, ◌-ℤ◌, ◌*ℤ◌, refl, sym, ap, ◌∙◌, subst, arith, sum_by, nat_eq, eq-eqb, ne_eqb}
use Rattle.std.specs.Prelude.{Contains}
use Rattle.std.proofs.lemmas.Int.{ints}
use Rattle.std.proofs.lemmas.Bool.{cases_eq}
use Rattle.std.proofs.lemmas.List.Sums.{sum_by-cons}
use Rattle.lists.proofs.Entries.{Contains-head, Contains-later, Contains-cases}
use Rattle.lists.specs.Distinct.{AreDistinct}
use Rattle.arithmetic.specs.Sums.{total}
use Rattle.arithmetic.proofs.Sums.{sum_by-add, total-sub, total-scale, total_along, total-pos, total-pos-scale}
use Rattle.fee_rate.specs.declared.rates.Sum.{Sum}
use Rattle.fee_rate.specs.Rates.{AtMost}
use Rattle.graphs.specs.declared.names.Flow.{Flow}
use Rattle.graphs.specs.Rates.{sums}
use Rattle.graphs.specs.Linearizations.{IsClosedWithin}
use Rattle.graphs.specs.Certificates.{given, gotten, weight_in, Certifies}

-- what one name's amount adds at a name, and over a list
abbrev hit : ℕ → ℕ → ℕ → ℕ
hit id amount x = cond (nat_eq id x) amount 0

abbrev hits : ℕ → ℕ → List ℕ → ℕ
hits id amount xs = sum_by (hit id amount) xs

hits_none : (id amount : ℕ) (xs : List ℕ) → (Contains xs id → ⊥) → hits id amount xs ≡ 0
hits_none id amount [] out = refl
hits_none id amount (x ∷ xs) out =
    let first : cond (nat_eq id x) amount 0 ≡ 0 =
    ap (λ b. cond b amount 0) (ne_eqb id x (λ e. out (subst (λ z. Contains (x ∷ xs) z) (sym e) (Contains-head x xs)))) in
    let rest : hits id amount xs ≡ 0 = hits_none id amount xs (λ h. out (Contains-later x id xs h)) in
    omega (arith, sum_by-cons (hit id amount) x xs)

hits_some : (id amount : ℕ) (xs : List ℕ) → Contains xs id → amount ≤ hits id amount xs
hits_some id amount [] h = omega (arith, h.1)
hits_some id amount (x ∷ xs) h = elim (Contains-cases x id xs h) [
  | inl same ↦
      let first : cond (nat_eq id x) amount 0 ≡ amount = ap (λ b. cond b amount 0) (eq-eqb id x (sym same)) in
      omega (arith, sum_by-cons (hit id amount) x xs)
  | inr later ↦
      let rest : amount ≤ hits id amount xs = hits_some id amount xs later in
      omega (arith, sum_by-cons (hit id amount) x xs)
]

-- over distinct names it adds its amount once, or nothing where it isn't among them
hits_most : (id amount : ℕ) (xs : List ℕ) → AreDistinct xs → (hits id amount xs ≡ 0) ⊎ ((hits id amount xs ≤ amount) × Contains xs id)
hits_most id amount [] d = inl refl
hits_most id amount (x ∷ xs) d = elim (cases_eq id x) [
  | inl same ↦
      let first : cond (nat_eq id x) amount 0 ≡ amount = ap (λ b. cond b amount 0) (eq-eqb id x same) in
      let rest : hits id amount xs ≡ 0 = hits_none id amount xs (λ h. d.0 (subst (λ z. Contains xs z) same h)) in
      inr (omega (arith, sum_by-cons (hit id amount) x xs), subst (λ z. Contains (x ∷ xs) z) (sym same) (Contains-head x xs))
  | inr other ↦
      let first : cond (nat_eq id x) amount 0 ≡ 0 = ap (λ b. cond b amount 0) (ne_eqb id x other) in
      elim (hits_most id amount xs d.1) [
        | inl none ↦ inl (omega (arith, none, sum_by-cons (hit id amount) x xs))
        | inr some ↦ inr (omega (arith, some.0, sum_by-cons (hit id amount) x xs), Contains-later x id xs some.1)
      ]
]

module _ (set : List ℕ) (once : AreDistinct set) where
  given_more : (flow : Flow) (flows : List Flow) → sum_by (given (flow ∷ flows)) set ≡ hits flow.child flow.amount set + sum_by (given flows) set
  given_more flow flows = (λ i. sum_by (λ id. sum_by-cons (λ f. hit f.child f.amount id) flow flows i) set)
      ∙ sum_by-add (hit flow.child flow.amount) (given flows) set

  gotten_more : (flow : Flow) (flows : List Flow) → sum_by (gotten (flow ∷ flows)) set ≡ hits flow.parent flow.amount set + sum_by (gotten flows) set
  gotten_more flow flows = (λ i. sum_by (λ id. sum_by-cons (λ f. hit f.parent f.amount id) flow flows i) set)
      ∙ sum_by-add (hit flow.parent flow.amount) (gotten flows) set

  one_flow : (flow : Flow) → (Contains set flow.child → Contains set flow.parent) → hits flow.child flow.amount set ≤ hits flow.parent flow.amount set
  one_flow flow stays = elim (hits_most flow.child flow.amount set once) [
    | inl none ↦ omega (arith, none)
    | inr some ↦ omega (arith, some.0, hits_some flow.parent flow.amount set (stays some.1))
  ]

  -- A set that holds the parent of each flow whose child it holds gives no more than it gets.
  abbrev pub Stays : List Flow → Type 0
  Stays flows = (flow : Flow) → Contains flows flow → Contains set flow.child → Contains set flow.parent

  pub given_at_most : (flows : List Flow) → Stays flows → sum_by (given flows) set ≤ sum_by (gotten flows) set
  given_at_most [] stays = omega arith
  given_at_most (flow ∷ flows) stays = omega (
    arith,
    given_more flow flows,
    gotten_more flow flows,
    one_flow flow (stays flow (Contains-head flow flows)),
    given_at_most flows (λ other here. stays other (Contains-later flow other flows here)),
  )

  -- a flow that comes in from outside is lacking inside
  pub lacks : (flows : List Flow) (into : Flow) → Contains flows into → Stays flows → Contains set into.parent
      → (Contains set into.child → ⊥) → sum_by (given flows) set + into.amount ≤ sum_by (gotten flows) set
  lacks [] into here stays parent child = absurd (omega (arith, here.1))
  lacks (flow ∷ flows) into here stays parent child =
      let later : Stays flows = λ other there. stays other (Contains-later flow other flows there) in
      elim (Contains-cases flow into flows here) [
        | inl same ↦ omega (
          arith,
          given_more flow flows,
          gotten_more flow flows,
          given_at_most flows later,
          hits_none flow.child flow.amount set (subst (λ (f : Flow). Contains set f.child → ⊥) (sym same) child),
          hits_some flow.parent flow.amount set (subst (λ (f : Flow). Contains set f.parent) (sym same) parent),
          ap (λ (f : Flow). f.amount) same,
        )
        | inr there ↦ omega (
          arith,
          given_more flow flows,
          gotten_more flow flows,
          one_flow flow (stays flow (Contains-head flow flows)),
          lacks flows into there later parent child,
        )
      ]

-- the weight of a list of names is the sum of their weights
pub weight_of_sums : (whole : Sum) (rate : ℕ → Sum) (ids : List ℕ) → total (λ id. weight_in whole (rate id)) ids ≡ weight_in whole (sums rate ids)
weight_of_sums whole rate ids =
    total-sub (λ id. (rate id).fee *ℤ pos whole.size) (λ id. whole.fee *ℤ pos (rate id).size) ids
    ∙ (let a = total-scale (λ id. (rate id).fee) (pos whole.size) ids in
    let b = total-pos-scale (λ id. (rate id).size) whole.fee ids in
    omega (arith, ints, a, b))

-- what names of a certified part weigh is what they give but don't get
pub weight_of_flows : (rate : ℕ → Sum) (IsLink : ℕ → ℕ → Type 0) (ids set : List ℕ) (flows : List Flow)
    → Certifies rate IsLink ids flows → ((id : ℕ) → Contains set id → Contains ids id)
    → weight_in (sums rate ids) (sums rate set) ≡ pos (sum_by (given flows) set) -ℤ pos (sum_by (gotten flows) set)
weight_of_flows rate IsLink ids set flows certified inside =
    let balance : total (λ id. weight_in (sums rate ids) (rate id)) set ≡ total (λ id. pos (given flows id) -ℤ pos (gotten flows id)) set =
    total_along (λ id. weight_in (sums rate ids) (rate id)) (λ id. pos (given flows id) -ℤ pos (gotten flows id)) set
    (λ id h. certified.balanced id (inside id h)) in
    let apart = total-sub (λ id. pos (given flows id)) (λ id. pos (gotten flows id)) set in
    let out = total-pos (given flows) set in
    let in' = total-pos (gotten flows) set in
    let whole = weight_of_sums (sums rate ids) rate set in
    omega (arith, ints, balance, apart, out, in', whole)

-- no closed set within a certified part has a greater rate than the part
pub flow_bounds : (rate : ℕ → Sum) (IsLink : ℕ → ℕ → Type 0) (pairs : List (ℕ × ℕ)) (ids set : List ℕ) (flows : List Flow)
    → ((parent child : ℕ) → IsLink parent child → Contains pairs (parent, child))
    → Certifies rate IsLink ids flows → IsClosedWithin pairs ids set → AtMost (sums rate set) (sums rate ids)
flow_bounds rate IsLink pairs ids set flows linked certified closed =
    let fewer = given_at_most set closed.once flows
    (λ flow h child. closed.parents flow.parent flow.child (linked flow.parent flow.child (certified.links flow h)) (certified.inside flow h).1 child) in
    let weight = weight_of_flows rate IsLink ids set flows certified closed.inside in
    record { crossed = omega (arith, ints, fewer, weight) }
