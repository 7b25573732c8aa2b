-- Writing one amount of a network.
use Rattle.std.proofs.Common.{◌≡◌, ℕ, ◌+◌, ◌*◌, ◌^◌, ◌<◌, ◌≤◌, inl, inr, List, length, get_or, set, replicate, Bool, true, false, cond}
use Rattle.std.proofs.Common.{ℤ, pos, ◌+ℤ◌, ◌-ℤ◌, sym, ap, ◌∙◌, subst, arith, get_or-set_same, get_or-set_other}
use Rattle.std.proofs.Math.Nat.{mul-le-mul, mul-le-mul_right}
use prog.Memory.{up}
use Rattle.std.proofs.Math.ListN.{length-set}
use Rattle.std.proofs.lemmas.Bool.{cases_eq, cases_lt, cases_Bool}
use Rattle.std.proofs.lemmas.List.{get_or-replicate, get_or_default}
use Rattle.std.specs.Ordering.{nat_cmp}
use Rattle.std.specs.FinSet as fin
use Rattle.bitset.specs.Places.{IsWithin}
use Rattle.bitset.specs.Sets.{contains-empty}
use Rattle.closure_flow.specs.Closures.{parents_at, weight_at}
use Rattle.closure_flow.specs.Flows.{only_at}
use Rattle.closure_flow.proofs.Lists.{only_at-here, only_at-else}
use Rattle.std.proofs.lemmas.Int.{ints}
use Rattle.closure_flow.specs.Networks.{IsSized, IsLean, sent}

pub pair_within : (n p c : ℕ) → p < n → c < n → p * n + c < n * n
pair_within n p c hp hc = omega (arith, mul-le-mul_right n (let h : p + 1 ≤ n = omega arith in h))

pair_same_parent : (n p q c d : ℕ) → c < n → d < n → p * n + c ≡ q * n + d → p ≡ q
pair_same_parent n p q c d hc hd e =
    elim (cases_lt p q) as (λ _. p ≡ q) [
      | inl less ↦ absurd (omega (arith, mul-le-mul_right n (let h : p + 1 ≤ q = omega arith in h), e))
      | inr more ↦ elim (cases_lt q p) as (λ _. p ≡ q) [
        | inl less ↦ absurd (omega (arith, mul-le-mul_right n (let h : q + 1 ≤ p = omega arith in h), e))
        | inr least ↦ omega (arith, more, least)
      ]
    ]

pub pair_same : (n p q c d : ℕ) → c < n → d < n → p * n + c ≡ q * n + d → (c ≡ d) × (p ≡ q)
pair_same n p q c d hc hd e =
    let parents : p ≡ q = pair_same_parent n p q c d hc hd e in
    (omega (arith, e, ap (λ (m : ℕ). m * n) parents), parents)

pub sized_set : (n : ℕ) (into : List (fin.FinSet nat_cmp)) (amounts : List ℕ) (rest : List ℤ) (p i x : ℕ) (senders : fin.FinSet nat_cmp)
    → IsSized n into amounts rest → IsSized n (set into p senders) (set amounts i x) rest
sized_set n into amounts rest p i x senders s =
    record { sets = length-set into p senders ∙ s.sets; pairs = length-set amounts i x ∙ s.pairs; rests = s.rests; small = s.small }

-- an amount is written, with the child's mark in its parent's set
pub record Writes (n : ℕ) (into : List (fin.FinSet nat_cmp)) (child parent x : ℕ) (senders : fin.FinSet nat_cmp) : Type 0 where
  pub child_in : child < n
  pub parent_in : parent < n
  pub other : (c : ℕ) → (c ≡ child → ⊥) → fin.contains senders c ≡ fin.contains (parents_at into parent) c
  pub none : x ≡ 0 → fin.contains senders child ≡ false
  pub some : 0 < x → fin.contains senders child ≡ true

pub sent_yes : (n : ℕ) (into : List (fin.FinSet nat_cmp)) (amounts : List ℕ) (c p : ℕ) → fin.contains (parents_at into p) c ≡ true
    → sent n into amounts c p ≡ get_or amounts (p * n + c) 0
unfolding sent
sent_yes n into amounts c p e = ap (λ (b : Bool). cond b (get_or amounts (p * n + c) 0) 0) e

pub sent_no : (n : ℕ) (into : List (fin.FinSet nat_cmp)) (amounts : List ℕ) (c p : ℕ) → fin.contains (parents_at into p) c ≡ false → sent n into amounts c p ≡ 0
unfolding sent
sent_no n into amounts c p e = ap (λ (b : Bool). cond b (get_or amounts (p * n + c) 0) 0) e

sent_same : (n m : ℕ) (into to : List (fin.FinSet nat_cmp)) (amounts new : List ℕ) (c p : ℕ)
    → fin.contains (parents_at to p) c ≡ fin.contains (parents_at into p) c → get_or new (p * n + c) 0 ≡ get_or amounts (p * n + c) 0
    → sent n to new c p ≡ sent n into amounts c p
unfolding sent
sent_same n m into to amounts new c p e f =
    ap (λ (b : Bool). cond b (get_or new (p * n + c) 0) 0) e ∙ ap (λ (x : ℕ). cond (fin.contains (parents_at into p) c) x 0) f

pub sent-here : (n : ℕ) (into : List (fin.FinSet nat_cmp)) (amounts : List ℕ) (rest : List ℤ) (child parent x : ℕ) (senders : fin.FinSet nat_cmp)
    → IsSized n into amounts rest → Writes n into child parent x senders
    → sent n (set into parent senders) (set amounts (parent * n + child) x) child parent ≡ x
sent-here n into amounts rest child parent x senders s w =
    let inside : parent < length into = subst (λ (m : ℕ). parent < m) (sym s.sets) w.parent_in in
    let at : parent * n + child < length amounts =
    subst (λ (m : ℕ). parent * n + child < m) (sym s.pairs) (pair_within n parent child w.parent_in w.child_in) in
    let here : parents_at (set into parent senders) parent ≡ senders = get_or-set_same into parent senders fin.empty inside in
    elim (cases_lt 0 x) as (λ _. sent n (set into parent senders) (set amounts (parent * n + child) x) child parent ≡ x) [
      | inl some ↦
          sent_yes n _ _ child parent (ap (λ (f : fin.FinSet nat_cmp). fin.contains f child) here ∙ w.some some)
          ∙ get_or-set_same amounts (parent * n + child) x 0 at
      | inr none ↦
          let zero_ : x ≡ 0 = omega (arith, none) in
          sent_no n _ _ child parent (ap (λ (f : fin.FinSet nat_cmp). fin.contains f child) here ∙ w.none zero_) ∙ sym zero_
    ]

pub sent-others : (n : ℕ) (into : List (fin.FinSet nat_cmp)) (amounts : List ℕ) (rest : List ℤ) (child parent x : ℕ) (senders : fin.FinSet nat_cmp)
    → IsSized n into amounts rest → Writes n into child parent x senders
    → (c p : ℕ) → c < n → p < n → ((c ≡ child) × (p ≡ parent) → ⊥)
    → sent n (set into parent senders) (set amounts (parent * n + child) x) c p ≡ sent n into amounts c p
sent-others n into amounts rest child parent x senders s w c p hc hp apart =
    let inside : parent < length into = subst (λ (m : ℕ). parent < m) (sym s.sets) w.parent_in in
    sent_same n n into _ amounts _ c p
    (elim (cases_eq p parent) as (λ _. fin.contains (parents_at (set into parent senders) p) c ≡ fin.contains (parents_at into p) c) [
      | inl e ↦
          subst (λ (q : ℕ). fin.contains (parents_at (set into parent senders) q) c ≡ fin.contains (parents_at into q) c) (sym e)
          (ap (λ (f : fin.FinSet nat_cmp). fin.contains f c) (get_or-set_same into parent senders fin.empty inside)
          ∙ w.other c (λ q. apart (q, e)))
      | inr ne ↦ ap (λ (f : fin.FinSet nat_cmp). fin.contains f c) (get_or-set_other into parent p senders fin.empty ne)
    ])
    (get_or-set_other amounts (parent * n + child) (p * n + c) x 0 (λ e. apart (pair_same n p parent c child hc w.child_in e)))

pub lean_set : (n : ℕ) (into : List (fin.FinSet nat_cmp)) (amounts : List ℕ) (rest : List ℤ) (child parent x : ℕ) (senders : fin.FinSet nat_cmp)
    → IsSized n into amounts rest → IsLean n into amounts → Writes n into child parent x senders
    → IsLean n (set into parent senders) (set amounts (parent * n + child) x)
lean_set n into amounts rest child parent x senders s lean w =
    record {
      child = λ c p hp m. (both c p hp m).0;
      amount = λ c p hp m. (both c p hp m).1;
    }
  where
    inside : parent < length into
    inside = subst (λ (m : ℕ). parent < m) (sym s.sets) w.parent_in

    at : parent * n + child < length amounts
    at = subst (λ (m : ℕ). parent * n + child < m) (sym s.pairs) (pair_within n parent child w.parent_in w.child_in)

    kept : (c p : ℕ) → p < n → ((c ≡ child) × (p ≡ parent) → ⊥) → fin.contains (parents_at into p) c ≡ true
        → (c < n) × (0 < get_or (set amounts (parent * n + child) x) (p * n + c) 0)
    kept c p hp apart m = (
      lean.child c p hp m,
      subst (λ (y : ℕ). 0 < y) (sym (get_or-set_other amounts (parent * n + child) (p * n + c) x 0
          (λ e. apart (pair_same n p parent c child (lean.child c p hp m) w.child_in e)))) (lean.amount c p hp m),
    )

    both : (c p : ℕ) → p < n → fin.contains (parents_at (set into parent senders) p) c ≡ true
        → (c < n) × (0 < get_or (set amounts (parent * n + child) x) (p * n + c) 0)
    both c p hp m =
        elim (cases_eq p parent) as (λ _. (c < n) × (0 < get_or (set amounts (parent * n + child) x) (p * n + c) 0)) [
          | inl e ↦
              let there : fin.contains senders c ≡ true =
              ap (λ (f : fin.FinSet nat_cmp). fin.contains f c)
              (sym (get_or-set_same into parent senders fin.empty inside) ∙ ap (λ (q : ℕ). parents_at (set into parent senders) q) (sym e)) ∙ m in
              elim (cases_eq c child) as (λ _. (c < n) × (0 < get_or (set amounts (parent * n + child) x) (p * n + c) 0)) [
                | inl f ↦
                    let positive : 0 < x = elim (cases_lt 0 x) as (λ _. 0 < x) [
                      | inl some ↦ some
                      | inr none ↦ absurd (let k : false ≡ true = sym (w.none (omega (arith, none))) ∙ ap (λ (d : ℕ). fin.contains senders d) (sym f)
                          ∙ there in cc)
                    ] in
                    let here : get_or (set amounts (parent * n + child) x) (p * n + c) 0 ≡ x =
                    ap (λ (i : ℕ). get_or (set amounts (parent * n + child) x) i 0) (omega (arith, ap (λ (q : ℕ). q * n) e, f))
                    ∙ get_or-set_same amounts (parent * n + child) x 0 at in
                    (subst (λ (d : ℕ). d < n) (sym f) w.child_in, subst (λ (y : ℕ). 0 < y) (sym here) positive)
                | inr ne ↦ kept c p hp (λ q. ne q.0) (ap (λ (q : ℕ). fin.contains (parents_at into q) c) e ∙ sym (w.other c ne) ∙ there)
              ]
          | inr ne ↦ kept c p hp (λ q. ne q.1) (ap (λ (f : fin.FinSet nat_cmp). fin.contains f c)
              (sym (get_or-set_other into parent p senders fin.empty ne)) ∙ m)
        ]

-- nothing flows in a network of empty sets
pub lean_none : (n : ℕ) (into : List (fin.FinSet nat_cmp)) (amounts : List ℕ) → ((p : ℕ) → p < n → parents_at into p ≡ fin.empty) → IsLean n into amounts
lean_none n into amounts none =
    record {
      child = λ c p hp m. absurd (clash c p hp m);
      amount = λ c p hp m. absurd (clash c p hp m);
    }
  where
    clash : (c p : ℕ) → p < n → fin.contains (parents_at into p) c ≡ true → ⊥
    clash c p hp m = let k : false ≡ true = sym (contains-empty c) ∙ ap (λ (f : fin.FinSet nat_cmp). fin.contains f c) (sym (none p hp)) ∙ m in cc

pub lean_fresh : (n : ℕ) (amounts : List ℕ) → IsLean n (replicate n (fin.empty {R = nat_cmp})) amounts
lean_fresh n amounts = lean_none n _ amounts (λ p hp. get_or-replicate n p fin.empty fin.empty hp)

-- a set that was read at a place within
pub read_set : (n : ℕ) (into : List (fin.FinSet nat_cmp)) (amounts : List ℕ) (rest : List ℤ) (p c : ℕ) (s : fin.FinSet nat_cmp)
    → IsSized n into amounts rest → p < n → s ≡ get_or into p s → fin.contains (parents_at into p) c ≡ fin.contains s c
read_set n into amounts rest p c s sized h e =
    ap (λ (f : fin.FinSet nat_cmp). fin.contains f c) (get_or_default into p fin.empty s (subst (λ (m : ℕ). p < m) (sym sized.sets) h) ∙ sym e)

pub writes_read : (n : ℕ) (into : List (fin.FinSet nat_cmp)) (amounts : List ℕ) (rest : List ℤ) (child parent x : ℕ) (old new : fin.FinSet nat_cmp)
    → IsSized n into amounts rest → child < n → parent < n → old ≡ get_or into parent old
    → ((c : ℕ) → (c ≡ child → ⊥) → fin.contains new c ≡ fin.contains old c)
    → (x ≡ 0 → fin.contains new child ≡ false) → (0 < x → fin.contains new child ≡ true)
    → Writes n into child parent x new
writes_read n into amounts rest child parent x old new sized hc hp e other none some =
    record { child_in = hc; parent_in = hp; other = λ c ne. other c ne ∙ sym (read_set n into amounts rest parent c old sized hp e); none = none; some = some }

-- a rest that was read at a place within
pub read_rest : (n : ℕ) (into : List (fin.FinSet nat_cmp)) (amounts : List ℕ) (rest : List ℤ) (p : ℕ) (z : ℤ) → IsSized n into amounts rest → p < n
    → z ≡ get_or rest p z → weight_at rest p ≡ z
read_rest n into amounts rest p z sized h e = get_or_default rest p (pos 0) z (subst (λ (m : ℕ). p < m) (sym sized.rests) h) ∙ sym e

-- a parent's set holds just the children that send it something
pub senders_send : (n : ℕ) (into : List (fin.FinSet nat_cmp)) (amounts : List ℕ) (p c : ℕ) → IsLean n into amounts → p < n
    → fin.contains (parents_at into p) c ≡ true → (c < n) × (0 < sent n into amounts c p)
senders_send n into amounts p c lean h m =
    (lean.child c p h m, subst (λ (x : ℕ). 0 < x) (sym (sent_yes n into amounts c p m)) (lean.amount c p h m))

pub send_senders : (n : ℕ) (into : List (fin.FinSet nat_cmp)) (amounts : List ℕ) (p c : ℕ) → 0 < sent n into amounts c p
    → fin.contains (parents_at into p) c ≡ true
send_senders n into amounts p c h =
    elim (cases_Bool (fin.contains (parents_at into p) c)) as (λ _. fin.contains (parents_at into p) c ≡ true) [
      | inl m ↦ m
      | inr m ↦ absurd (omega (arith, h, sent_no n into amounts c p m))
    ]

pub read_parents : (parents : List (fin.FinSet nat_cmp)) (p q : ℕ) (s : fin.FinSet nat_cmp) → p < length parents → s ≡ get_or parents p s
    → fin.contains (parents_at parents p) q ≡ fin.contains s q
read_parents parents p q s h e = ap (λ (f : fin.FinSet nat_cmp). fin.contains f q) (get_or_default parents p fin.empty s h ∙ sym e)

-- a set of so few places lies in a small part of memory
pub words_fit : (w : ℕ) (into : List (fin.FinSet nat_cmp)) (amounts : List ℕ) (rest : List ℤ) → IsSized (64 * w) into amounts rest → up 8 (0 + w * 8) < 2 ^ 63
words_fit w into amounts rest s =
    elim (cases_lt w (2 ^ 32)) as (λ _. up 8 (0 + w * 8) < 2 ^ 63) [
      | inl few ↦ omega (arith, few)
      | inr many ↦ absurd (omega (arith, s.small, mul-le-mul many many))
    ]

pub network_fits : (w : ℕ) (into : List (fin.FinSet nat_cmp)) (amounts : List ℕ) (rest : List ℤ) → IsSized (64 * w) into amounts rest
    → up 8 (up 8 (up 8 (72 + up 8 (0 + w * 8)) + up 8 (0 + w * 8)) + up 8 (0 + w * 8)) < 2 ^ 63
network_fits w into amounts rest s =
    elim (cases_lt w (2 ^ 32)) as (λ _. up 8 (up 8 (up 8 (72 + up 8 (0 + w * 8)) + up 8 (0 + w * 8)) + up 8 (0 + w * 8)) < 2 ^ 63) [
      | inl few ↦ (
          let u : ℕ = up 8 (0 + w * 8) in
          let u1 : ℕ = up 8 (72 + u) in
          let u2 : ℕ = up 8 (u1 + u) in
          bounded u u1 u2 (up 8 (u2 + u)) w few (padded (0 + w * 8)) (padded (72 + u)) (padded (u1 + u)) (padded (u2 + u)))
      | inr many ↦ absurd (omega (arith, s.small, mul-le-mul many many))
    ]
  where
    padded : (x : ℕ) → up 8 x < x + 8
    padded x = omega arith

    bounded : (a b c d w : ℕ) → w < 2 ^ 32 → a < 0 + w * 8 + 8 → b < 72 + a + 8 → c < b + a + 8 → d < c + a + 8 → d < 2 ^ 63
    bounded a b c d w few ha hb hc hd = omega arith

-- ---- a place begun anew
pub sized_begin : (n : ℕ) (into : List (fin.FinSet nat_cmp)) (amounts : List ℕ) (rest : List ℤ) (p : ℕ) (z : ℤ) → IsSized n into amounts rest
    → IsSized n (set into p fin.empty) amounts (set rest p z)
sized_begin n into amounts rest p z s =
    record { sets = length-set into p fin.empty ∙ s.sets; pairs = s.pairs; rests = length-set rest p z ∙ s.rests; small = s.small }

pub sized_rests : (n : ℕ) (into : List (fin.FinSet nat_cmp)) (amounts : List ℕ) (rest : List ℤ) (p q : ℕ) (y z : ℤ) → IsSized n into amounts rest
    → IsSized n into amounts (set (set rest p y) q z)
sized_rests n into amounts rest p q y z s =
    record { sets = s.sets; pairs = s.pairs; rests = length-set (set rest p y) q z ∙ length-set rest p y ∙ s.rests; small = s.small }

pub lean_begin : (n : ℕ) (into : List (fin.FinSet nat_cmp)) (amounts : List ℕ) (rest : List ℤ) (place : ℕ) → IsSized n into amounts rest → place < n
    → IsLean n into amounts → IsLean n (set into place fin.empty) amounts
lean_begin n into amounts rest place s h lean =
    record {
      child = λ c p hp m. lean.child c p hp (old c p m);
      amount = λ c p hp m. lean.amount c p hp (old c p m);
    }
  where
    inside : place < length into
    inside = subst (λ (m : ℕ). place < m) (sym s.sets) h

    old : (c p : ℕ) → fin.contains (parents_at (set into place fin.empty) p) c ≡ true → fin.contains (parents_at into p) c ≡ true
    old c p m = elim (cases_eq p place) as (λ _. fin.contains (parents_at into p) c ≡ true) [
      | inl e ↦ absurd (let k : false ≡ true = sym (contains-empty c)
          ∙ ap (λ (f : fin.FinSet nat_cmp). fin.contains f c)
          (sym (get_or-set_same into place fin.empty fin.empty inside) ∙ ap (λ (q : ℕ). parents_at (set into place fin.empty) q) (sym e)) ∙ m in cc)
      | inr ne ↦ ap (λ (f : fin.FinSet nat_cmp). fin.contains f c) (sym (get_or-set_other into place p fin.empty fin.empty ne)) ∙ m
    ]

-- two rests written, one after the other
pub shifted : (rest : List ℤ) (from to amount t : ℕ) → from < length rest → to < length rest → (from ≡ to → ⊥)
    → weight_at (set (set rest from (weight_at rest from -ℤ pos amount)) to (weight_at rest to +ℤ pos amount)) t ≡
    (weight_at rest t -ℤ only_at from (pos amount) t) +ℤ only_at to (pos amount) t
shifted rest from to amount t hf ht apart =
    elim (cases_eq t to) as (λ _. weight_at (set (set rest from (weight_at rest from -ℤ pos amount)) to (weight_at rest to +ℤ pos amount)) t ≡
    (weight_at rest t -ℤ only_at from (pos amount) t) +ℤ only_at to (pos amount) t) [
      | inl e ↦
          let here : weight_at (set (set rest from (weight_at rest from -ℤ pos amount)) to (weight_at rest to +ℤ pos amount))
          to ≡ weight_at rest to +ℤ pos amount =
          get_or-set_same (set rest from (weight_at rest from -ℤ pos amount)) to _ (pos 0) (subst (λ (m : ℕ). to < m) (sym (length-set rest from _)) ht) in
          subst (λ (x : ℕ). weight_at (set (set rest from (weight_at rest from -ℤ pos amount)) to (weight_at rest to +ℤ pos amount)) x ≡
          (weight_at rest x -ℤ only_at from (pos amount) x) +ℤ only_at to (pos amount) x) (sym e)
          (omega (arith, ints, here, only_at-here to (pos amount), only_at-else from to (pos amount) (λ q. apart (sym q))))
      | inr ne ↦
          let first : weight_at (set (set rest from (weight_at rest from -ℤ pos amount)) to (weight_at rest to +ℤ pos amount)) t ≡ weight_at
          (set rest from (weight_at rest from -ℤ pos amount)) t =
          get_or-set_other (set rest from (weight_at rest from -ℤ pos amount)) to t _ (pos 0) ne in
          elim (cases_eq t from) as (λ _. weight_at (set (set rest from (weight_at rest from -ℤ pos amount)) to (weight_at rest to +ℤ pos amount)) t ≡
          (weight_at rest t -ℤ only_at from (pos amount) t) +ℤ only_at to (pos amount) t) [
            | inl e ↦
                let here : weight_at (set rest from (weight_at rest from -ℤ pos amount)) from ≡ weight_at rest from -ℤ pos amount =
                get_or-set_same rest from _ (pos 0) hf in
                let here_t : weight_at (set rest from (weight_at rest from -ℤ pos amount)) t ≡ weight_at rest t -ℤ pos amount =
                subst (λ (x : ℕ). weight_at (set rest from (weight_at rest from -ℤ pos amount)) x ≡ weight_at rest x -ℤ pos amount) (sym e) here in
                let one : only_at from (pos amount) t ≡ pos amount =
                subst (λ (x : ℕ). only_at from (pos amount) x ≡ pos amount) (sym e) (only_at-here from (pos amount)) in
                omega (arith, ints, first, here_t, one, only_at-else to t (pos amount) ne)
            | inr nf ↦
                let second : weight_at (set rest from (weight_at rest from -ℤ pos amount)) t ≡ weight_at rest t = get_or-set_other rest from t _ (pos 0) nf in
                omega (arith, ints, first, second, only_at-else to t (pos amount) ne, only_at-else from t (pos amount) nf)
          ]
    ]

-- nothing is shown that a place outside a set receives, or that something that is no place sends
pub not_received : (n : ℕ) (within : fin.FinSet nat_cmp) (into : List (fin.FinSet nat_cmp)) (amounts : List ℕ) (c p : ℕ)
    → fin.contains within p ≡ false → cond (fin.contains within p) (sent n into amounts c p) 0 ≡ 0
not_received n within into amounts c p m = ap (λ (b : Bool). cond b (sent n into amounts c p) 0) m

pub not_sent : (n : ℕ) (within : fin.FinSet nat_cmp) (into : List (fin.FinSet nat_cmp)) (amounts : List ℕ) (c p : ℕ) → IsLean n into amounts
    → IsWithin n within → n ≤ c → cond (fin.contains within p) (sent n into amounts c p) 0 ≡ 0
not_sent n within into amounts c p lean below h =
    elim (cases_Bool (fin.contains within p)) as (λ _. cond (fin.contains within p) (sent n into amounts c p) 0 ≡ 0) [
      | inl m ↦
          ap (λ (b : Bool). cond b (sent n into amounts c p) 0) m
          ∙ elim (cases_Bool (fin.contains (parents_at into p) c)) as (λ _. sent n into amounts c p ≡ 0) [
            | inl k ↦ absurd (omega (arith, h, lean.child c p (below p m) k))
            | inr k ↦ sent_no n into amounts c p k
          ]
      | inr m ↦ not_received n within into amounts c p m
    ]

pub shown_within : (n : ℕ) (within : fin.FinSet nat_cmp) (into : List (fin.FinSet nat_cmp)) (amounts : List ℕ) (c p : ℕ)
    → fin.contains within p ≡ true → cond (fin.contains within p) (sent n into amounts c p) 0 ≡ sent n into amounts c p
shown_within n within into amounts c p m = ap (λ (b : Bool). cond b (sent n into amounts c p) 0) m

pub shown_only : (n : ℕ) (within : fin.FinSet nat_cmp) (into : List (fin.FinSet nat_cmp)) (amounts : List ℕ) (c p : ℕ) → IsLean n into amounts
    → IsWithin n within → 0 < cond (fin.contains within p) (sent n into amounts c p) 0 → (c < n) × (fin.contains within p ≡ true)
shown_only n within into amounts c p lean below h =
    elim (cases_Bool (fin.contains within p)) as (λ _. (c < n) × (fin.contains within p ≡ true)) [
      | inl m ↦ (lean.child c p (below p m) (send_senders n into amounts p c (subst (λ (x : ℕ). 0 < x) (shown_within n within into amounts c p m) h)), m)
      | inr m ↦ absurd (omega (arith, h, not_received n within into amounts c p m))
    ]
