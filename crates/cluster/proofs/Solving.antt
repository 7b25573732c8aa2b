-- What the solver asks of a cluster's graph, and what its order gives.
use Rattle.std.proofs.Common.{◌≡◌, ℕ, ◌+◌, ◌*◌, ◌^◌, ◌≤◌, true, List, length, map, slice_index, inl, inr, sym, ◌∙◌, subst, arith}
use Rattle.std.specs.FinSet as set
use Rattle.lists.proofs.Distinct.{distinct_map, one_place}
use Rattle.lists.proofs.Walks.{Walk-map}
use Rattle.lists.specs.Distinct.{AreDistinct}
use Rattle.lists.proofs.Flats.{flat_has}
use Rattle.dep_graph.specs.Numbers.{number_in}
use Rattle.graphs.specs.Graphs.{Graph, IsCover}
use Rattle.graphs.specs.Certificates.{Part, IsCertificate}
use Rattle.graphs.specs.Closures.{Closure, members_of, IsNear, IsRelated}
use Rattle.graphs.specs.Closing.{IsClosureOf, renamed}
use Rattle.graphs.specs.Picks.{IsPick}
use Rattle.graphs.specs.Minimal.{AreMinimal}
use Rattle.graphs.specs.declared.names.Flow.{Flow}
use Rattle.linearize.specs.Drafts.{placed}
use Rattle.linearize.specs.Graphs as linear
use Rattle.linearize.specs.Graphs.{HasRates, IsComponent}
use Rattle.cluster.specs.declared.order.PartEnd.{PartEnd}
use Rattle.cluster.specs.Clusters.{ArePicked, AreUncut, sum_at}
use Rattle.cluster.specs.Kept.{IsOrdered, AreCut, cut}
use Rattle.cluster.specs.Named.{named, IsNamed}
use Rattle.cluster.specs.Orders.{IsPlaced, IsRead}
use Rattle.cluster.specs.Steps.{GrowsWithin, most_steps}
use Rattle.cluster.proofs.Cuts.{cut_whole}
use Rattle.cluster.proofs.Following.{pick_read}
use Rattle.cluster.proofs.Kept.{member_place}
use Rattle.cluster.proofs.Listings.{contains-members_of}
use Rattle.cluster.proofs.Picking.{closes_places, certificate_by_names}
use Rattle.cluster.proofs.Reading.{placed_read}
use Rattle.cluster.proofs.Uncut.{uncut_read}

pub within_most : (n m before after : ℕ) → n ≡ m → after ≤ before + 2 * (n + 2) ^ 5 → before ≤ after → GrowsWithin (most_steps m) before after
within_most n m before after same most least =
    subst (λ (k : ℕ). GrowsWithin (most_steps k) before after) same (record { grew = omega arith; few = omega arith })

module _ (n : ℕ) (names : List ℕ) (g : Closure) (kept : IsNamed n names g) where
  pub has_rates : HasRates g
  has_rates p member = kept.rates p (member_place n names g kept p member)

  near : (p q : ℕ) → IsRelated g p q → IsNear g (members_of g) p q
  near p q related = record { from_within = (ends p q related).0; to_within = (ends p q related).1; related = related }
    where
      ends : (p q : ℕ) → IsRelated g p q → (set.contains (members_of g) p ≡ true) × (set.contains (members_of g) q ≡ true)
      ends p q related = elim related [
        | inl up ↦ let both = kept.order.among p q up in (contains-members_of g p ∙ both.0, contains-members_of g q ∙ both.1)
        | inr down ↦ let both = kept.order.among q p down in (contains-members_of g p ∙ both.1, contains-members_of g q ∙ both.0)
      ]

  pub is_component : IsComponent g
  is_component a b first second = Walk-map (λ p. p) (IsRelated g) (IsNear g (members_of g)) near a b
      (kept.whole a b (member_place n names g kept a first) (member_place n names g kept b second))

  -- a certificate of a graph of places tells where the places are
  pub is_placed : (graph : Graph) (parts : List Part) → IsClosureOf g graph
      → IsCertificate (linear.sum_at g) graph (IsCover graph.pairs) parts → IsPlaced (length names) parts
  is_placed graph parts closes certificate = record {
    once = certificate.order.topological.once;
    below = λ p here. member_place n names g kept p ((closes.names p).0 ((certificate.order.topological.names p).0 here));
    inside = λ part here flow there. (certificate.flows part here).inside flow there;
  }

  -- the order that was read is a pick, which can't be cut further
  pub is_ordered : (parts : List Part)
      → ((graph : Graph) → IsClosureOf g graph → IsCertificate (linear.sum_at g) graph (IsCover graph.pairs) parts)
      → ((graph : Graph) → IsClosureOf g graph → AreMinimal (linear.sum_at g) graph.pairs parts) → IsPlaced (length names) parts
      → (ends : List PartEnd) (order : List ℕ) (flows : List Flow) → IsRead names parts ends order flows → IsOrdered names g ends order flows
  is_ordered parts certified minimal placed_are ends order flows read =
      let whole : cut ends order flows ≡ read.parts = cut_whole ends order flows read.parts read.ends in
      let order_is : order ≡ map (slice_index names) (placed parts) = sym read.ends.order_is ∙ placed_read names order parts read.parts read.read in
      let once : AreDistinct order =
      subst AreDistinct (sym order_is) (distinct_map (slice_index names) (placed parts) placed_are.once
      (λ x y here there same. one_place names x y 0 kept.once (placed_are.below x here) (placed_are.below y there) same)) in
      let pick : (graph : Graph) → IsClosureOf (named names g) graph → IsPick (sum_at (named names g)) graph read.parts =
      λ graph closes. pick_read (sum_at (named names g)) graph names order parts read.parts once read.read
      (certificate_by_names n names g kept graph closes parts
      (certified (renamed (number_in names) graph) (closes_places n names g kept graph closes))) in
      record {
        ends = subst (λ (ps : List Part). AreCut ends order flows ps) (sym whole) read.ends;
        picked = subst (ArePicked (named names g)) (sym whole) pick;
        uncut = subst (AreUncut (named names g)) (sym whole) (λ graph closes.
            uncut_read n names g kept graph closes parts read.parts order placed_are read.read
            (minimal (renamed (number_in names) graph) (closes_places n names g kept graph closes))
            (λ q here id there. ((pick graph closes).certificate.order.topological.names id).0 (flat_has (λ (p : Part). p.ids) read.parts q id here there)));
      }
