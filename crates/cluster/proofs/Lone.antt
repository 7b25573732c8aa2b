-- The order of a name alone.
use Rattle.std.proofs.Common.{◌≡◌, ◌≢◌, ℕ, true, List, [], ◌∷◌, ◌++◌, length, map, slice_index, Contains, refl, sym, ap, ◌∙◌, subst, arith, pos, ◌-ℤ◌, ◌*ℤ◌}
use Rattle.std.proofs.lemmas.Int.{ints}
use Rattle.lists.proofs.Entries.{Contains-one, Contains-cases, Contains-head, none_in_empty}
use Rattle.fee_rate.specs.declared.rates.FeeRate.{FeeRate}
use Rattle.fee_rate.specs.declared.rates.Sum.{Sum}
use Rattle.graphs.specs.declared.names.Flow.{Flow}
use Rattle.graphs.specs.Graphs.{Graph, IsCover}
use Rattle.graphs.specs.Rates.{sums}
use Rattle.graphs.specs.Linearizations.{IsTopological, IsTogether, IsClosedWithin}
use Rattle.graphs.specs.Minimal.{IsMinimal, AreMinimal}
use Rattle.graphs.specs.Certificates.{Part, Certifies, weight_in}
use Rattle.graphs.specs.Closures.{Closure, is_member, rate_of}
use Rattle.graphs.specs.Closing.{IsClosureOf}
use Rattle.graphs.specs.Picks.{IsPick, FollowOrder, links_of}
use Rattle.std.proofs.Common.{Result, Ok, Err, IfOk}
use Rattle.outside.specs.declared.errors.NoMemory.{NoMemory}
use Rattle.cluster.specs.declared.order.PartEnd.{PartEnd}
use Rattle.cluster.specs.declared.order.Order.{Order}
use Rattle.cluster.specs.Clusters.{sum_at}
use Rattle.cluster.specs.Kept.{IsOrdered, AreCut, cut, sum_in}
use Rattle.cluster.specs.Named.{named, IsNamed}
use Rattle.cluster.proofs.Cuts.{cut_whole}
use Rattle.cluster.proofs.Names.{named-member, member-stands, named-rate}

module _ (n : ℕ) (id : ℕ) (g : Closure) (kept : IsNamed n (id ∷ []) g) where
  abbrev whole : Closure
  whole = named (id ∷ []) g

  abbrev own : Sum
  own = sum_at whole id

  abbrev part : Part
  part = record { rate = own; ids = id ∷ []; flows = [] }

  member_is : (x : ℕ) → is_member whole x ≡ true → id ≡ x
  member_is x member = let at = member-stands (id ∷ []) g kept.once x member in ap (slice_index (id ∷ [])) (let e : 0 ≡ at.0 = omega (arith, at.1) in e) ∙ at.2

  summed : own ≡ sums (sum_at whole) (id ∷ [])
  summed =
      let fee : own.fee ≡ (sums (sum_at whole) (id ∷ [])).fee = omega (arith, ints) in
      let size : own.size ≡ (sums (sum_at whole) (id ∷ [])).size = omega arith in
      λ t. record { fee = fee t; size = size t }

  even : weight_in (sums (sum_at whole) (id ∷ [])) own ≡ pos 0 -ℤ pos 0
  even = ap (λ (s : Sum). weight_in s own) (sym summed)
      ∙ (let e : (own.fee *ℤ pos own.size) -ℤ (own.fee *ℤ pos own.size) ≡ pos 0 -ℤ pos 0 = omega (arith, ints) in e)

  module _ (graph : Graph) (closes : IsClosureOf whole graph) where
    topological : IsTopological graph (id ∷ [])
    topological = record {
      once = kept.once;
      names = λ x. (
        λ here. (closes.names x).1 (subst (λ (y : ℕ). is_member whole y ≡ true) (Contains-one id x here) (named-member (id ∷ []) g kept.once 0 (omega arith))),
        λ here. subst (Contains (id ∷ [])) (member_is x ((closes.names x).0 here)) (Contains-head id []),
      );
      parents_first = λ parent child pair.
          (let both = closes.ends parent child pair in
          absurd (closes.acyclic parent 0
          (parent, refl, subst (λ (y : ℕ). Contains {X = ℕ × ℕ} graph.pairs (parent, y)) (sym (member_is child both.1) ∙ member_is parent both.0) pair)));
    }

    certifies : Certifies (sum_at whole) (IsCover graph.pairs) (id ∷ []) []
    certifies = record {
      once = tt;
      links = λ flow here. absurd (none_in_empty flow here);
      inside = λ flow here. absurd (none_in_empty flow here);
      some = λ flow here. absurd (none_in_empty flow here);
      balanced = λ x here. subst (λ (y : ℕ). weight_in (sums (sum_at whole) (id ∷ [])) (sum_at whole y) ≡ pos 0 -ℤ pos 0) (Contains-one id x here) even;
    }

    pub lone_pick : IsPick (sum_at whole) graph (part ∷ [])
    lone_pick = record {
      certificate = record {
        filled = λ p here empty. Rattle.lists.proofs.Entries.not_empty (ap (λ (q : Part). q.ids) (Contains-one part p here) ∙ empty);
        order = record {
          topological = topological;
          together = λ p here.
              subst (λ (q : Part). IsTogether graph.pairs q.ids) (Contains-one part p here)
              (λ a b first second. (0, sym (Contains-one id a first) ∙ Contains-one id b second));
        };
        falling = record { summed = λ p here. subst (λ (q : Part). q.rate ≡ sums (sum_at whole) q.ids) (Contains-one part p here) summed; falling = tt };
        flows = λ p here. subst (λ (q : Part). Certifies (sum_at whole) (IsCover graph.pairs) q.ids q.flows) (Contains-one part p here) certifies;
      };
      flows_in_order = λ p here. subst (λ (q : Part). FollowOrder q.ids (links_of q.flows))
          (Contains-one part p here) (λ a b precedes. absurd (no_flow precedes.0 precedes.1 b precedes.2));
    }
      where
        no_flow : (front rest : List (ℕ × ℕ)) (b : ℕ × ℕ) → [] ≡ front ++ b ∷ rest → ⊥
        no_flow [] rest b e = Rattle.lists.proofs.Entries.not_empty (sym e)
        no_flow (x ∷ front) rest b e = Rattle.lists.proofs.Entries.not_empty (sym e)

  lone_uncut : (pairs : List (ℕ × ℕ)) → AreMinimal (sum_at whole) pairs (part ∷ [])
  lone_uncut pairs p here = subst (λ (q : Part). IsMinimal (sum_at whole) pairs q.ids)
      (Contains-one part p here) (λ set closed some same x in_part. holds set closed some x (Contains-one id x in_part))
    where
      holds : (set : List ℕ) → IsClosedWithin pairs (id ∷ []) set → set ≢ [] → (x : ℕ) → id ≡ x → Contains set x
      holds [] closed some x is = absurd (some refl)
      holds (y ∷ set) closed some x is = subst (Contains (y ∷ set)) (sym (Contains-one id y (closed.inside y (Contains-head y set))) ∙ is) (Contains-head y set)

  pub lone_ordered : (ends : List PartEnd) (order : List ℕ) (flows : List Flow) (rate : FeeRate) → rate ≡ rate_of g 0
      → ends ≡ record { fee = rate.fee; size = rate.size; end = 1; flow_end = 0 } ∷ [] → order ≡ id ∷ [] → flows ≡ []
      → IsOrdered (id ∷ []) g ends order flows
  lone_ordered ends order flows rate rate_is ends_is order_is flows_is =
      let sum_is : record { fee = rate.fee; size = rate.size } ≡ own =
      ap {B = Sum} (λ (r : FeeRate). record { fee = r.fee; size = r.size }) (rate_is ∙ sym (named-rate (id ∷ []) g kept.once 0 (omega arith))) in
      let so : AreCut ends order flows (part ∷ []) = record {
        rates_are = ap (map sum_in) ends_is ∙ ap (λ (s : Sum). s ∷ []) sum_is;
        ends_are = ap (map (λ (e : PartEnd). e.end)) ends_is;
        flow_ends_are = ap (map (λ (e : PartEnd). e.flow_end)) ends_is;
        order_is = sym order_is;
        flows_are = sym flows_is;
      } in
      let is : cut ends order flows ≡ part ∷ [] = cut_whole ends order flows (part ∷ []) so in
      record {
        ends = subst (λ (ps : List Part). AreCut ends order flows ps) (sym is) so;
        picked = λ graph closes. subst (λ (ps : List Part). IsPick (sum_at whole) graph ps) (sym is) (lone_pick graph closes);
        uncut = λ graph closes. subst (λ (ps : List Part). AreMinimal (sum_at whole) graph.pairs ps) (sym is) (lone_uncut graph.pairs);
      }

one_name : (names : List ℕ) → length names ≡ 1 → names ≡ slice_index names 0 ∷ []
one_name [] e = absurd (omega arith)
one_name (x ∷ []) e = refl
one_name (x ∷ y ∷ names) e = absurd (omega arith)

pub lone_made : (n : ℕ) (names : List ℕ) (g : Closure) (rate : FeeRate) (r : Result Order NoMemory) → IsNamed n names g
    → length names ≡ 1 → rate ≡ rate_of g 0 → IfOk r (λ o. o.names.items ≡ slice_index names 0 ∷ [])
    → IfOk r (λ o. o.parts.items ≡ record { fee = rate.fee; size = rate.size; end = 1; flow_end = 0 } ∷ [])
    → IfOk r (λ o. o.flows.items ≡ []) → IfOk r (λ o. IsOrdered names g o.parts.items o.names.items o.flows.items)
lone_made n names g rate (Ok o) kept one rate_is order_is ends_is flows_is =
    let is : names ≡ slice_index names 0 ∷ [] = one_name names one in
    subst (λ (xs : List ℕ). IsOrdered xs g o.parts.items o.names.items o.flows.items) (sym is)
    (lone_ordered n (slice_index names 0) g
    (subst (λ (xs : List ℕ). IsNamed n xs g) is kept) o.parts.items o.names.items o.flows.items rate rate_is ends_is order_is flows_is)
lone_made n names g rate (Err e) kept one rate_is order_is ends_is flows_is = tt
