-- A set is cut on a closed set of greatest weight: what the two are linearized to, one behind the other, linearizes the set.
use Rattle.std.proofs.Common.{◌≡◌, ◌≢◌, ℕ, ◌+◌, ◌*◌, ◌≤◌, inl, inr, true, List, [], ◌∷◌, ◌++◌}
use Rattle.std.proofs.Common.{length, map, pos, ◌≤ℤ◌, refl, sym, ap, ◌∙◌}
use Rattle.std.proofs.Common.{subst, arith, append_assoc, length-append}
use Rattle.std.specs.Prelude.{Contains}
use Rattle.std.proofs.lemmas.Int.{ints}
use Rattle.std.proofs.lemmas.List.Sums.{sum_by-cons}
use Rattle.std.proofs.lemmas.List.Concat.{flat_map-append}
use Rattle.std.proofs.lemmas.List.Elements.{Contains-append_left, Contains-append_right, Contains-append_cases}
use Rattle.std.proofs.Math.Nat.{mul-le-mul}
use Rattle.std.specs.Ordering.{nat_cmp}
use Rattle.std.specs.FinSet as fin
use Rattle.std.proofs.lemmas.Bool.{cases_Bool}
use Rattle.fee_rate.proofs.Orders.{at_most_chains}
use Rattle.bitset.specs.Members.{minus_parts, in_minus, from_union, to_union_left, to_union_right, len_bound}
use Rattle.lists.proofs.Cases.{clash}
use Rattle.graphs.proofs.BestLemmas.{stands-append_right, stands-append_left, stands_across}
use Rattle.graphs.specs.Closures.{Closure, IsCover, IsClosed, HoldsMembers, rate_of}
use Rattle.lists.proofs.Entries.{Contains-head, Contains-later}
use Rattle.lists.proofs.Distinct.{distinct_joined}
use Rattle.bitset.specs.Places.{places, IsWithin}
use Rattle.bitset.specs.Sets.{places-Contains, len-places}
use Rattle.fee_rate.specs.declared.rates.Sum.{Sum}
use Rattle.fee_rate.specs.Rates.{AtMost}
use Rattle.graphs.specs.Rates.{sums, Falls}
use Rattle.graphs.specs.Certificates.{Part, weight_in, Certifies}
use Rattle.linearize.specs.Drafts.{Written, placed, flows_in}
use Rattle.linearize.specs.Graphs.{sum_at, HasRates}
use Rattle.linearize.specs.Orders.{IsOrderOf, sums_in}
use Rattle.linearize.specs.Splits.{Linearizes, Adds, HasRoom, IsCut, IsUncutPart, IsUpper, IsLower}
use Rattle.linearize.proofs.Cuts.{value_split}
use Rattle.linearize.proofs.Sets.{IsSplit, split_minus, split_union, len_split}

at_most_whole : (whole own : Sum) → weight_in whole own ≤ℤ pos 0 → AtMost own whole
at_most_whole whole own h = record { crossed = omega (arith, ints, h) }

at_least_whole : (whole own : Sum) → pos 0 ≤ℤ weight_in whole own → AtMost whole own
at_least_whole whole own h = record { crossed = omega (arith, ints, h) }

-- ---- lists of parts
falls_joined : (xs ys : List Part) → Falls (map (λ part. part.rate) xs) → Falls (map (λ part. part.rate) ys)
    → ((x y : Part) → Contains xs x → Contains ys y → AtMost y.rate x.rate) → Falls (map (λ part. part.rate) (xs ++ ys))
falls_joined [] ys f g low = g
falls_joined (x ∷ []) [] f g low = tt
falls_joined (x ∷ []) (y ∷ ys) f g low = (low x y (Contains-head x []) (Contains-head y ys), g)
falls_joined (x ∷ z ∷ xs) ys f g low = (f.0, falls_joined (z ∷ xs) ys f.1 g (λ a b h k. low a b (Contains-later x a (z ∷ xs) h) k))

pub either_part : (P : Part → Type 0) (xs ys : List Part) → ((q : Part) → Contains xs q → P q) → ((q : Part) → Contains ys q → P q) → (q : Part)
    → Contains (xs ++ ys) q → P q
either_part P xs ys f g q h = elim (Contains-append_cases xs ys q h) [ inl left ↦ f q left | inr right ↦ g q right ]

module _ (n : ℕ) (dep : Closure) (s c : fin.FinSet nat_cmp) (closed : IsClosed n dep) (members : HoldsMembers dep s) (rates : HasRates dep)
    (best : IsCut n dep s c) where
  rest : fin.FinSet nat_cmp
  rest = fin.difference s c

  within : IsWithin n s
  within k m = closed.within k (members k m)

  halves : IsSplit s c rest
  unfolding rest
  halves = split_minus s c best.upper.inside

  -- each upper set of the rest has at most the rate of the whole
  rest_low : (x : fin.FinSet nat_cmp) → IsUpper dep (fin.difference s c) x → AtMost (sums_in n dep x) (sums_in n dep s)
  rest_low x upper =
      let apart : (k : ℕ) → fin.contains c k ≡ true → fin.contains x k ≡ true → ⊥ = λ k a b. (minus_parts s c k (upper.inside k b)).1 a in
      let joined : IsUpper dep s (fin.union c x) = record {
        inside = λ p m. elim (from_union c x p m) [ inl a ↦ best.upper.inside p a | inr b ↦ (minus_parts s c p (upper.inside p b)).0 ];
        parents = λ p d cover m p_in. elim (from_union c x d m) [
          | inl a ↦ to_union_left c x p (best.upper.parents p d cover a p_in)
          | inr b ↦ elim (cases_Bool (fin.contains c p)) [
            | inl here ↦ to_union_left c x p here
            | inr out ↦ to_union_right c x p (upper.parents p d cover b (in_minus s c p p_in (λ here. clash (fin.contains c p) here out)))
          ]
        ];
      } in
      let most = best.greatest (fin.union c x) joined in
      let both = value_split n dep (sums_in n dep s) (fin.union c x) c x (split_union c x apart) in
      at_most_whole (sums_in n dep s) (sums_in n dep x) (omega (arith, ints, most, both))

  -- and each lower set of the best one at least that rate
  best_high : (y : fin.FinSet nat_cmp) → IsLower dep c y → AtMost (sums_in n dep s) (sums_in n dep y)
  best_high y lower =
      let left : IsUpper dep s (fin.difference c y) = record {
        inside = λ p m. best.upper.inside p (minus_parts c y p m).0;
        parents = λ p d cover m p_in.
            (let d_in = minus_parts c y d m in
            in_minus c y p (best.upper.parents p d cover d_in.0 p_in) (λ y_in. d_in.1 (lower.children p d cover y_in d_in.0)));
      } in
      let most = best.greatest (fin.difference c y) left in
      let both = value_split n dep (sums_in n dep s) c y (fin.difference c y) (split_minus c y lower.inside) in
      at_least_whole (sums_in n dep s) (sums_in n dep y) (omega (arith, ints, most, both))

  whole_some : 1 ≤ (sums_in n dep s).size
  whole_some = some_size (places n s) (λ p h. (rates p (members p (places-Contains n s p h).1)).some) (len-places n s within)
    where
      some_size : (xs : List ℕ) → ((p : ℕ) → Contains xs p → 1 ≤ (rate_of dep p).size) → fin.len s ≡ length xs → 1 ≤ (sums (sum_at dep) xs).size
      some_size [] h long = absurd (omega (arith, long, best.some, len_split n s c (fin.difference s c) within (split_minus s c best.upper.inside)))
      some_size (x ∷ xs) h long = omega (arith, h x (Contains-head x xs), sum_by-cons (λ p. (sum_at dep p).size) x xs)

  module _ (first second : List Part) (one : Linearizes n dep c first) (two : Linearizes n dep (fin.difference s c) second) where
    high : (q : Part) → Contains first q → AtMost (sums_in n dep s) q.rate
    high q h = one.at_least (sums_in n dep s) best_high q h

    low : (q : Part) → Contains second q → AtMost q.rate (sums_in n dep s)
    low q h = two.at_most (sums_in n dep s) rest_low q h

    order : IsOrderOf dep s (placed first ++ placed second)
    order = record {
      once = distinct_joined (placed first) (placed second) one.order.once two.order.once
          (λ p a b. (minus_parts s c p ((two.order.exact p).0 b)).1 ((one.order.exact p).0 a));
      exact = λ p. (
        λ h. elim (Contains-append_cases (placed first) (placed second) p h) [
          | inl a ↦ best.upper.inside p ((one.order.exact p).0 a)
          | inr b ↦ (minus_parts s c p ((two.order.exact p).0 b)).0
        ],
        λ m. elim (cases_Bool (fin.contains c p)) [
          | inl here ↦ Contains-append_left (placed first) (placed second) p ((one.order.exact p).1 here)
          | inr out ↦ Contains-append_right (placed first) (placed second) p
              ((two.order.exact p).1 (in_minus s c p m (λ here. clash (fin.contains c p) here out)))
        ],
      );
      parents_first = λ p d cover p_in d_in. elim (cases_Bool (fin.contains c d)) [
        | inl d_here ↦ stands-append_right (placed first) (placed second) p d
            (one.order.parents_first p d cover (best.upper.parents p d cover d_here p_in) d_here)
        | inr d_out ↦
            let d_rest : fin.contains (fin.difference s c) d ≡ true = in_minus s c d d_in (λ here. clash (fin.contains c d) here d_out) in
            elim (cases_Bool (fin.contains c p)) [
              | inl p_here ↦ stands_across (placed first) (placed second) p d ((one.order.exact p).1 p_here) ((two.order.exact d).1 d_rest)
              | inr p_out ↦ stands-append_left (placed first) (placed second) p d
                  (two.order.parents_first p d cover (in_minus s c p p_in (λ here. clash (fin.contains c p) here p_out)) d_rest)
            ]
      ];
    }

    all_placed : placed (first ++ second) ≡ placed first ++ placed second
    all_placed = flat_map-append (λ part. part.ids) first second

    joined : Linearizes n dep s (first ++ second)
    joined = record {
      order = subst (λ xs. IsOrderOf dep s xs) (sym all_placed) order;
      filled = either_part (λ q. q.ids ≢ []) first second one.filled two.filled;
      falling = record {
        summed = either_part (λ q. q.rate ≡ sums (sum_at dep) q.ids) first second one.falling.summed two.falling.summed;
        falling = falls_joined first second one.falling.falling two.falling.falling
            (λ a b h k. at_most_chains b.rate (sums_in n dep s) a.rate whole_some (low b k) (high a h));
      };
      flows = either_part (λ q. Certifies (sum_at dep) (IsCover dep) q.ids q.flows) first second one.flows two.flows;
      uncut = either_part (IsUncutPart n dep) first second one.uncut two.uncut;
      at_most = λ rate bound. either_part (λ q. AtMost q.rate rate) first second
          (one.at_most rate (λ x upper. bound x (record {
            inside = λ p m. best.upper.inside p (upper.inside p m);
            parents = λ p d cover m p_in. upper.parents p d cover m (best.upper.parents p d cover (upper.inside d m) p_in);
          })))
          (λ q h. at_most_chains q.rate (sums_in n dep s) rate whole_some (low q h)
          (bound s (record { inside = λ p m. m; parents = λ p d cover m p_in. p_in })));
      at_least = λ rate bound. either_part (λ q. AtMost rate q.rate) first second
          (λ q h. at_most_chains rate (sums_in n dep s) q.rate whole_some
          (bound s (record { inside = λ p m. m; children = λ p d cover m d_in. d_in })) (high q h))
          (two.at_least rate (λ y lower. bound y (record {
            inside = λ p m. (minus_parts s c p (lower.inside p m)).0;
            children = λ p d cover m d_in. lower.children p d cover m
                (in_minus s c d d_in (λ here. (minus_parts s c p (lower.inside p m)).1
                (best.upper.parents p d cover here (minus_parts s c p (lower.inside p m)).0)));
          })));
    }

  pub both_lens : fin.len s ≡ fin.len c + fin.len (fin.difference s c)
  both_lens = len_split n s c (fin.difference s c) within (split_minus s c best.upper.inside)

  pub first_room : (old : Written) → HasRoom n s old → HasRoom n c old
  first_room old room =
      let square = ap (λ (k : ℕ). k * k) both_lens in
      record {
        ids = room.ids;
        flows = room.flows;
        for_places = (let r = room.for_places in omega (arith, both_lens, r));
        for_parts = (let r = room.for_parts in omega (arith, both_lens, r));
        for_flows = (let r = room.for_flows in omega (arith, square, r));
      }

  pub second_room : (old mid : Written) → HasRoom n s old → Adds n dep c old mid → HasRoom n (fin.difference s c) mid
  second_room old mid room adds =
      let square = ap (λ (k : ℕ). k * k) both_lens in
      let parts : mid.parts ≡ old.parts ++ adds.parts = ap (λ (w : Written). w.parts) adds.is in
      let a : length (placed mid.parts) ≡ length (placed old.parts) + length (placed adds.parts) =
      ap (λ ps. length (placed ps)) parts ∙ ap length (flat_map-append (λ part. part.ids) old.parts adds.parts)
      ∙ length-append (placed old.parts) (placed adds.parts) in
      let b : length mid.parts ≡ length old.parts + length adds.parts = ap length parts ∙ length-append old.parts adds.parts in
      let d : length (flows_in mid.parts) ≡ length (flows_in old.parts) + length (flows_in adds.parts) =
      ap (λ ps. length (flows_in ps)) parts ∙ ap length (flat_map-append (λ part. part.flows) old.parts adds.parts)
      ∙ length-append (flows_in old.parts) (flows_in adds.parts) in
      record {
        ids = ap (λ (w : Written). w.ids) adds.is;
        flows = ap (λ (w : Written). w.flows) adds.is;
        for_places = (let r = room.for_places in let p = adds.places in omega (arith, both_lens, r, a, p));
        for_parts = (let r = room.for_parts in let p = adds.few in omega (arith, both_lens, r, b, p));
        for_flows = (let r = room.for_flows in let p = adds.few_flows in omega (arith, square, r, d, p));
      }

  pub both_added : (old mid new : Written) → Adds n dep c old mid → Adds n dep (fin.difference s c) mid new → Adds n dep s old new
  both_added old mid new one two =
      let square = ap (λ (k : ℕ). k * k) both_lens in
      let parts : mid.parts ≡ old.parts ++ one.parts = ap (λ (w : Written). w.parts) one.is in
      let a : length (placed (one.parts ++ two.parts)) ≡ length (placed one.parts) + length (placed two.parts) =
      ap length (flat_map-append (λ part. part.ids) one.parts two.parts) ∙ length-append (placed one.parts) (placed two.parts) in
      let b : length (one.parts ++ two.parts) ≡ length one.parts + length two.parts = length-append one.parts two.parts in
      let d : length (flows_in (one.parts ++ two.parts)) ≡ length (flows_in one.parts) + length (flows_in two.parts) =
      ap length (flat_map-append (λ part. part.flows) one.parts two.parts) ∙ length-append (flows_in one.parts) (flows_in two.parts) in
      record {
        parts = one.parts ++ two.parts;
        is = two.is ∙ ap (λ (ps : List Part). record { parts = ps; ids = []; flows = [] })
            (ap (λ (ps : List Part). ps ++ two.parts) parts ∙ append_assoc old.parts one.parts two.parts);
        linear = joined one.parts two.parts one.linear two.linear;
        places = (let p = one.places in let q = two.places in omega (arith, both_lens, a, p, q));
        few = (let p = one.few in let q = two.few in omega (arith, both_lens, b, p, q));
        few_flows = (let p = one.few_flows in let q = two.few_flows in omega (arith, square, d, p, q));
      }

-- an empty draft has room for every set
pub start_room : (n : ℕ) (s : fin.FinSet nat_cmp) (written : Written) → IsWithin n s → written ≡ record { parts = []; ids = []; flows = [] }
    → HasRoom n s written
start_room n s written within empty = subst (HasRoom n s) (sym empty)
    (let low : fin.len s ≤ n = len_bound n s within in let square = mul-le-mul low low in record {
      ids = refl;
      flows = refl;
      for_places = omega (arith, low);
      for_parts = omega (arith, low);
      for_flows = omega (arith, square);
    })
