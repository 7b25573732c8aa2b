-- A balanced set as one part.
use Rattle.std.proofs.Common.{◌≡◌, ◌≢◌, ℕ, ◌*◌, ◌<◌, ◌≤◌, inl, inr, true, List, [], ◌∷◌, ◌++◌, length, map, pos, ◌-ℤ◌}
use Rattle.std.proofs.Common.{refl, sym, ap, ◌∙◌, subst, arith, append-nil}
use Rattle.std.specs.Prelude.{Contains}
use Rattle.std.proofs.lemmas.List.{length-map}
use Rattle.std.specs.Ordering.{nat_cmp}
use Rattle.std.specs.FinSet as fin
use Rattle.bitset.specs.Members.{from_meet}
use Rattle.graphs.specs.Closures.{Closure, IsCover, IsClosed, HoldsMembers}
use Rattle.lists.proofs.Entries.{map-Contains, Contains-cases, none_in_empty}
use Rattle.bitset.specs.Places.{places, IsWithin}
use Rattle.bitset.specs.Sets.{places-Contains}
use Rattle.closure_flow.specs.Closures.{parents_at}
use Rattle.fee_rate.specs.declared.rates.Sum.{Sum}
use Rattle.fee_rate.specs.Rates.{AtMost}
use Rattle.graphs.specs.declared.names.Flow.{Flow}
use Rattle.graphs.specs.Rates.{sums}
use Rattle.graphs.specs.Certificates.{Part, weight_in, Certifies}
use Rattle.linearize.specs.Drafts.{Written, placed}
use Rattle.linearize.specs.Graphs.{sum_at}
use Rattle.linearize.specs.Orders.{AreCovers, Balances, IsOrderOf, flows_of, sums_in}
use Rattle.linearize.specs.Splits.{Linearizes, Adds, IsUncut, IsUncutPart}
use Rattle.linearize.proofs.Certified.{in_of, ends_of, given_is, gotten_is}
use Rattle.linearize.proofs.Lists.{distinct_places, total_any_order, sum_any_order}
use Rattle.linearize.proofs.Triangles.{few_pairs}

pub sums_of_order : (n : ℕ) (dep : Closure) (s : fin.FinSet nat_cmp) (ids : List ℕ) → IsWithin n s → IsOrderOf dep s ids
    → sums (sum_at dep) ids ≡ sums_in n dep s
sums_of_order n dep s ids within order =
    let fee : (sums (sum_at dep) ids).fee ≡ (sums_in n dep s).fee = total_any_order (λ p. (sum_at dep p).fee) n ids s within order.once order.exact in
    let size : (sums (sum_at dep) ids).size ≡ (sums_in n dep s).size = sum_any_order (λ p. (sum_at dep p).size) n ids s within order.once order.exact in
    λ i. record { fee = fee i; size = size i }

module _ (n : ℕ) (dep : Closure) (parents : List (fin.FinSet nat_cmp)) (s : fin.FinSet nat_cmp) (flow : ℕ → ℕ → ℕ) (closed : IsClosed n dep)
    (members : HoldsMembers dep s) (covers : AreCovers dep s parents) where
  within : IsWithin n s
  within k m = closed.within k (members k m)

  flows : List Flow
  flows = flows_of n parents s flow (places n s)

  sent_in : (f : Flow) → Contains flows f → (fin.contains s f.child ≡ true) × (fin.contains s f.parent ≡ true) × IsCover dep f.parent f.child × (1 ≤ f.amount)
  unfolding flows
  sent_in f h =
      let sent = in_of n parents s flow (places n s) f h in
      let child : fin.contains s f.child ≡ true = (places-Contains n s f.child sent.child).1 in
      let both : (fin.contains (parents_at parents f.child) f.parent ≡ true) × (fin.contains s f.parent ≡ true) =
      from_meet _ s f.parent (places-Contains n _ f.parent sent.parent).1 in
      (child, both.1, (covers.exact f.parent f.child child).0 both.0, sent.some)

  pub few_flows : 4 * length (flows_of n parents s flow (places n s)) ≤ fin.len s * fin.len s
  unfolding flows
  few_flows =
      let of_pair : (c p : ℕ) → Contains {X = ℕ × ℕ} (map (λ f. (f.child, f.parent)) flows) (c, p)
      → (fin.contains s c ≡ true) × (fin.contains s p ≡ true) × IsCover dep p c = λ c p h.
      (let found = map-Contains (λ (f : Flow). (f.child, f.parent)) flows (c, p) h in
      let at = sent_in found.0 found.1 in (
        subst (λ (e : ℕ × ℕ). fin.contains s e.0 ≡ true) found.2 at.0,
        subst (λ (e : ℕ × ℕ). fin.contains s e.1 ≡ true) found.2 at.1,
        subst (λ (e : ℕ × ℕ). IsCover dep e.1 e.0) found.2 at.2,
      )) in
      let few = few_pairs n dep closed s (map (λ f. (f.child, f.parent)) flows) within (record {
        once = ends_of n parents s flow (places n s) (distinct_places n s);
        cover = λ c p h. (of_pair c p h).2;
        child = λ c p h. (of_pair c p h).0;
        parent = λ c p h. (of_pair c p h).1;
      }) in
      omega (arith, few, length-map {B = ℕ × ℕ} flows (λ (f : Flow). (f.child, f.parent)))

  module _ (ids : List ℕ) (balanced : Balances n dep parents s flow) (order : IsOrderOf dep s ids) where
    certified : Certifies (sum_at dep) (IsCover dep) ids flows
    unfolding flows
    certified = record {
      once = ends_of n parents s flow (places n s) (distinct_places n s);
      links = λ f h. (sent_in f h).2;
      inside = λ f h. ((order.exact f.child).1 (sent_in f h).0, (order.exact f.parent).1 (sent_in f h).1);
      some = λ f h. (sent_in f h).3;
      balanced = λ id h.
          (let m : fin.contains s id ≡ true = (order.exact id).0 h in
          ap (λ (w : Sum). weight_in w (sum_at dep id)) (sums_of_order n dep s ids within order) ∙ balanced.even id m
          ∙ (λ i. pos (sym (given_is n parents s flow within balanced.pair id m) i) -ℤ pos (sym (gotten_is n parents s flow within balanced.pair id m) i)));
    }

    part : Part
    part = record { rate = sums_in n dep s; ids = ids; flows = flows }

    placed_one : placed (part ∷ []) ≡ ids
    unfolding part
    placed_one = append-nil ids

    only : (P : Part → Type 0) → P part → (q : Part) → Contains (part ∷ []) q → P q
    only P here q h = elim (Contains-cases part q [] h) [ inl same ↦ subst P same here | inr none ↦ absurd (none_in_empty q none) ]

    one_uncut : IsUncut n dep s → IsUncutPart n dep part
    unfolding part
    one_uncut uncut x upper some same p h =
        uncut x (record {
          inside = λ q m. (order.exact q).0 (upper.inside q m);
          parents = λ q c cover m q_in. upper.parents q c cover m ((order.exact q).1 q_in);
        }) some same p ((order.exact p).0 h)

    one_linear : 0 < fin.len s → length ids ≡ fin.len s → IsUncut n dep s → Linearizes n dep s (part ∷ [])
    unfolding part
    one_linear some long uncut = record {
      order = subst (λ xs. IsOrderOf dep s xs) (sym placed_one) order;
      filled = only (λ q. q.ids ≢ []) (λ none. (let zero_ : length ids ≡ 0 = ap length none in omega (arith, zero_, long, some)));
      falling = record { summed = only (λ q. q.rate ≡ sums (sum_at dep) q.ids) (sym (sums_of_order n dep s ids within order)); falling = tt };
      flows = only (λ q. Certifies (sum_at dep) (IsCover dep) q.ids q.flows) certified;
      uncut = only (IsUncutPart n dep) (one_uncut uncut);
      at_most = λ rate bound. only (λ q. AtMost q.rate rate) (bound s (record { inside = λ p m. m; parents = λ p c e m p_in. p_in }));
      at_least = λ rate bound. only (λ q. AtMost rate q.rate) (bound s (record { inside = λ p m. m; children = λ p c e m c_in. c_in }));
    }

    pub one_added : (old new : Written) (whole : Sum) → 0 < fin.len s → length ids ≡ fin.len s → IsUncut n dep s → whole ≡ sums_in n dep s
        → new ≡ record {
          parts = old.parts ++ record { rate = whole; ids = ids; flows = flows_of n parents s flow (places n s) } ∷ [];
          ids =
              [];
          flows = [];
        } → Adds n dep s old new
    unfolding part flows
    one_added old new whole some long uncut is made = record {
      parts = part ∷ [];
      is = made ∙ ap (λ (w : Sum). record { parts = old.parts ++ record { rate = w; ids = ids; flows = flows } ∷ []; ids = []; flows = [] }) is;
      linear = one_linear some long uncut;
      places = ap length placed_one ∙ long;
      few = (let one : length (part ∷ []) ≡ 1 = refl in omega (arith, some, one));
      few_flows = subst (λ (fs : List Flow). 4 * length fs ≤ fin.len s * fin.len s) (sym (append-nil flows)) few_flows;
    }
