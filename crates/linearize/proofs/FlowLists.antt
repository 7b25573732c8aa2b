-- The flows of a part as a list: how it is written, and what each place sends and gets by it.
use Rattle.std.proofs.Common.{◌≡◌, ℕ, ◌+◌, ◌*◌, ◌<◌, ◌≤◌, Bool, cond, nat_lt, List, [], ◌∷◌, ◌++◌, length, map}
use Rattle.std.proofs.Common.{filter, refl, sym, ap, ◌∙◌, arith, append_assoc, append-nil, length-append, lt-ltb}
use Rattle.std.proofs.Common.{le-ltb}
use Rattle.std.proofs.lemmas.List.{map-append}
use Rattle.std.proofs.lemmas.List.Elements.{filter-append}
use Rattle.std.proofs.lemmas.List.Concat.{flat_map-append}
use Rattle.std.specs.Ordering.{nat_cmp}
use Rattle.std.specs.FinSet as fin
use Rattle.bitset.specs.Places.{places}
use Rattle.graphs.specs.declared.names.Flow.{Flow}
use Rattle.linearize.specs.Drafts.{Written, all_flows, flows_in, with_flows}
use Rattle.linearize.specs.Orders.{flows_from, flows_of, parents_within}
use Rattle.linearize.proofs.Places.{Goes, goes_on}

-- ---- the list grows place by place
pub from_append : (flow : ℕ → ℕ → ℕ) (c : ℕ) (xs ys : List ℕ) → flows_from flow c (xs ++ ys) ≡ flows_from flow c xs ++ flows_from flow c ys
unfolding flows_from
from_append flow c xs ys =
    ap (map (λ p. record { child = c; parent = p; amount = flow c p })) (filter-append (λ p. nat_lt 0 (flow c p)) xs ys)
    ∙ map-append (λ p. record { child = c; parent = p; amount = flow c p }) (filter (λ p. nat_lt 0 (flow c p)) xs) (filter (λ p. nat_lt 0 (flow c p)) ys)

pub from_one : (flow : ℕ → ℕ → ℕ) (c p : ℕ) → 0 < flow c p → flows_from flow c (p ∷ []) ≡ record { child = c; parent = p; amount = flow c p } ∷ []
unfolding flows_from
from_one flow c p some = ap (λ (b : Bool). map (λ q. record { child = c; parent = q; amount = flow c q }) (cond b (p ∷ []) [])) (lt-ltb 0 (flow c p) some)

pub from_none : (flow : ℕ → ℕ → ℕ) (c p : ℕ) → flow c p ≤ 0 → flows_from flow c (p ∷ []) ≡ []
unfolding flows_from
from_none flow c p none = ap (λ (b : Bool). map (λ q. record { child = c; parent = q; amount = flow c q }) (cond b (p ∷ []) [])) (le-ltb 0 (flow c p) none)

pub of_append : (n : ℕ) (parents : List (fin.FinSet nat_cmp)) (s : fin.FinSet nat_cmp) (flow : ℕ → ℕ → ℕ) (xs ys : List ℕ)
    → flows_of n parents s flow (xs ++ ys) ≡ flows_of n parents s flow xs ++ flows_of n parents s flow ys
unfolding flows_of
of_append n parents s flow xs ys = flat_map-append (λ c. flows_from flow c (parents_within n parents s c)) xs ys

pub of_one : (n : ℕ) (parents : List (fin.FinSet nat_cmp)) (s : fin.FinSet nat_cmp) (flow : ℕ → ℕ → ℕ) (c : ℕ)
    → flows_of n parents s flow (c ∷ []) ≡ flows_from flow c (parents_within n parents s c)
unfolding flows_of
of_one n parents s flow c = append-nil (flows_from flow c (parents_within n parents s c))

pub from_nil : (flow : ℕ → ℕ → ℕ) (c : ℕ) → flows_from flow c [] ≡ []
unfolding flows_from
from_nil flow c = refl

pub of_nil : (n : ℕ) (parents : List (fin.FinSet nat_cmp)) (s : fin.FinSet nat_cmp) (flow : ℕ → ℕ → ℕ) → flows_of n parents s flow [] ≡ []
unfolding flows_of
of_nil n parents s flow = refl

-- ---- the loops that write them
pub with_none : (old : Written) → old ≡ with_flows old []
with_none old = λ i. record { parts = old.parts; ids = old.ids; flows = sym (append-nil old.flows) i }

pub with_more : (old : Written) (some more : List Flow) → with_flows (with_flows old some) more ≡ with_flows old (some ++ more)
with_more old some more = λ i. record { parts = old.parts; ids = old.ids; flows = append_assoc old.flows some more i }

pub length_with : (old : Written) (more : List Flow) → length (all_flows (with_flows old more)) ≡ length (all_flows old) + length more
length_with old more =
    let a = length-append (flows_in old.parts) (old.flows ++ more) in
    let b = length-append old.flows more in
    let d = length-append (flows_in old.parts) old.flows in
    omega arith

-- flows of a function of lists that were written for the numbers that a loop over places gave
pub record Sending (n : ℕ) (s : fin.FinSet nat_cmp) (list : List ℕ → List Flow) (old now : Written) (ys zs : List ℕ) : Type 0 where
  pub goes : Goes n s ys zs
  pub is : now ≡ with_flows old (list ys)

abbrev pub Joins : (List ℕ → List Flow) → Type 0
Joins list = (xs ys : List ℕ) → list (xs ++ ys) ≡ list xs ++ list ys

pub sending_start : (n : ℕ) (s : fin.FinSet nat_cmp) (list : List ℕ → List Flow) (old : Written) (zs : List ℕ) → list [] ≡ [] → zs ≡ places n s
    → Sending n s list old old [] zs
sending_start n s list old zs none e = record { goes = e; is = with_none old ∙ ap (with_flows old) (sym none) }

pub sending_more : (n : ℕ) (s : fin.FinSet nat_cmp) (list : List ℕ → List Flow) (old now next : Written) (ys ws zs : List ℕ) (p : ℕ)
    (more : List Flow) → Joins list → Sending n s list old now ys ws → ws ≡ p ∷ zs
    → list (p ∷ []) ≡ more → next ≡ with_flows now more → Sending n s list old next (ys ++ p ∷ []) zs
sending_more n s list old now next ys ws zs p more joins h e one is = record {
  goes = goes_on n s ys ws zs p h.goes e;
  is = is ∙ ap (λ w. with_flows w more) h.is ∙ with_more old (list ys) more ∙ ap (λ fs. with_flows old (list ys ++ fs)) (sym one)
      ∙ ap (with_flows old) (sym (joins ys (p ∷ [])));
}

-- what is to be written for the next place fits where the whole list does
pub sending_room : (n : ℕ) (s : fin.FinSet nat_cmp) (list : List ℕ → List Flow) (old now : Written) (ys ws zs : List ℕ) (p most : ℕ) → Joins list
    → Sending n s list old now ys ws → ws ≡ p ∷ zs
    → 4 * (length (all_flows old) + length (list (places n s))) ≤ most → 4 * (length (all_flows now) + length (list (p ∷ []))) ≤ most
sending_room n s list old now ys ws zs p most joins h e room =
    let split : list (places n s) ≡ list ys ++ (list (p ∷ []) ++ list zs) =
    ap list (sym h.goes) ∙ joins ys ws ∙ ap (λ xs. list ys ++ list xs) e ∙ ap (λ fs. list ys ++ fs) (joins (p ∷ []) zs) in
    let all = ap length split in
    let a = length-append (list ys) (list (p ∷ []) ++ list zs) in
    let b = length-append (list (p ∷ [])) (list zs) in
    let so_far : length (all_flows now) ≡ length (all_flows old) + length (list ys) = ap (λ w. length (all_flows w)) h.is ∙ length_with old (list ys) in
    omega arith

pub from_start : (n : ℕ) (s : fin.FinSet nat_cmp) (flow : ℕ → ℕ → ℕ) (c : ℕ) (old : Written) (zs : List ℕ) → zs ≡ places n s
    → Sending n s (flows_from flow c) old old [] zs
from_start n s flow c old zs e = sending_start n s (flows_from flow c) old zs (from_nil flow c) e

pub of_start : (n : ℕ) (s : fin.FinSet nat_cmp) (parents : List (fin.FinSet nat_cmp)) (flow : ℕ → ℕ → ℕ) (old : Written) (zs : List ℕ)
    → zs ≡ places n s → Sending n s (flows_of n parents s flow) old old [] zs
of_start n s parents flow old zs e = sending_start n s (flows_of n parents s flow) old zs (of_nil n parents s flow) e
