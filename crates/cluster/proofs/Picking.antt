-- What certifies an order of places is a pick by their names.
use Rattle.std.proofs.Common.{◌≡◌, ◌↔◌, ℕ, ◌<◌, true, List, length, map, slice_index, Contains, refl, sym, ap, ap₂, ◌∙◌, subst, subst₂}
use Rattle.std.proofs.lemmas.List.Elements.{Contains-get_or}
use Rattle.lists.proofs.Distinct.{one_place}
use Rattle.lists.proofs.Entries.{map-Contains, Contains-map}
use Rattle.dep_graph.specs.Numbers.{number_in}
use Rattle.dep_graph.proofs.Pairs.{place_at}
use Rattle.fee_rate.specs.declared.rates.FeeRate.{FeeRate}
use Rattle.graphs.specs.Graphs.{Graph, IsCover}
use Rattle.graphs.specs.Certificates.{Part, IsCertificate}
use Rattle.graphs.specs.Closures.{Closure, is_member, is_ancestor}
use Rattle.graphs.specs.Closing.{IsClosureOf, renamed, renamed_part, KeepsApart, IsRenamed}
use Rattle.graphs.proofs.ClosingLemmas.{closes_renamed}
use Rattle.graphs.proofs.RenamingLemmas.{certificates_are_renamed}
use Rattle.linearize.specs.Graphs as linear
use Rattle.cluster.specs.Clusters.{sum_at}
use Rattle.cluster.specs.Named.{named, IsNamed}
use Rattle.cluster.proofs.Names.{Stands-contains, named-member, member-stands, named-rate, named-ancestor}
use Rattle.cluster.proofs.Kept.{place_member, member_place}

-- ---- the place of a name

-- the fee and the size of a place are those of its name
pub named_sum : (n : ℕ) (names : List ℕ) (g : Closure) → IsNamed n names g → (p : ℕ)
    → p < length names → sum_at (named names g) (slice_index names p) ≡ linear.sum_at g p
named_sum n names g kept p low = ap (λ (r : FeeRate). record { fee = r.fee; size = r.size }) (named-rate names g kept.once p low)

-- ---- from places to names

module _ (n : ℕ) (names : List ℕ) (g : Closure) (kept : IsNamed n names g) (graph : Graph) (closes : IsClosureOf (named names g) graph) where
  abbrev place : ℕ → ℕ
  place id = number_in names id

  abbrev by_places : Graph
  by_places = renamed place graph

  in_names : (id : ℕ) → Contains graph.names id → Contains names id
  in_names id here = Stands-contains names id (member-stands names g kept.once id ((closes.names id).0 here))

  pub at_place : (id : ℕ) → Contains graph.names id → (place id < length names) × (slice_index names (place id) ≡ id)
  at_place id here = place_at names id (in_names id here)

  member_at : (id : ℕ) → is_member (named names g) id ≡ true → (place id < length names) × (slice_index names (place id) ≡ id)
  member_at id member = place_at names id (Stands-contains names id (member-stands names g kept.once id member))

  pub place_of_name : (p : ℕ) → p < length names → place (slice_index names p) ≡ p
  place_of_name p low = let at = place_at names (slice_index names p) (Contains-get_or names p 0 low) in
      one_place names (place (slice_index names p)) p 0 kept.once at.0 low at.1

  keeps_apart : KeepsApart place graph.names
  keeps_apart a b first second same = sym (at_place a first).1 ∙ ap (slice_index names) same ∙ (at_place b second).1

  pub is_renamed : IsRenamed place graph by_places
  is_renamed = record {
    names = λ id. (map-Contains place graph.names id, λ h. subst (Contains by_places.names) h.2 (Contains-map place graph.names h.0 h.1));
    pairs = λ parent child. (
      λ here.
          let h = map-Contains (λ (pair : ℕ × ℕ). (place pair.0, place pair.1)) graph.pairs (parent, child) here in
          (h.0.0, h.0.1, h.1, (λ t. (h.2 t).0), (λ t. (h.2 t).1)),
      λ h.
          subst (Contains {X = ℕ × ℕ} by_places.pairs) (λ t. (h.3 t, h.4 t))
          (Contains-map (λ (pair : ℕ × ℕ). (place pair.0, place pair.1)) graph.pairs (h.0, h.1) h.2),
    );
  }

  members_are : (q : ℕ) → (is_member g q ≡ true) ↔ ((p : ℕ) × (is_member (named names g) p ≡ true) × (place p ≡ q))
  members_are q = (
    λ member. let low = member_place n names g kept q member in (slice_index names q, named-member names g kept.once q low, place_of_name q low),
    λ h. subst (λ (x : ℕ). is_member g x ≡ true) h.2 (place_member n names g kept (place h.0) (member_at h.0 h.1).0),
  )

  above_are : (a d : ℕ) → is_member (named names g) a ≡ true → is_member (named names g) d ≡ true
      → is_ancestor g (place a) (place d) ≡ is_ancestor (named names g) a d
  above_are a d first second =
      let one = member_at a first in
      let two = member_at d second in
      sym (named-ancestor names g kept.once (place a) (place d) one.0 two.0) ∙ ap₂ (is_ancestor (named names g)) one.1 two.1

  pub closes_places : IsClosureOf g by_places
  closes_places = closes_renamed place (is_member (named names g)) (is_member g) (is_ancestor (named names g))
      (is_ancestor g) graph by_places closes keeps_apart is_renamed members_are above_are

  -- ---- and back

  place_low : (p : ℕ) → Contains by_places.names p → p < length names
  place_low p here = let at = map-Contains place graph.names p here in subst (λ (m : ℕ). m < length names) at.2 (at_place at.0 at.1).0

  back_apart : KeepsApart (slice_index names) by_places.names
  back_apart a b first second same = one_place names a b 0 kept.once (place_low a first) (place_low b second) same

  ends_here : (parent child : ℕ) → Contains graph.pairs (parent, child) → Contains graph.names parent × Contains graph.names child
  ends_here parent child pair = let both = closes.ends parent child pair in ((closes.names parent).1 both.0, (closes.names child).1 both.1)

  place_ends : (a b : ℕ) → Contains by_places.pairs (a, b) → Contains by_places.names a × Contains by_places.names b
  place_ends a b pair =
      let h = (is_renamed.pairs a b).0 pair in
      let both = ends_here h.0 h.1 h.2 in
      ((is_renamed.names a).1 (h.0, both.0, h.3), (is_renamed.names b).1 (h.1, both.1, h.4))

  back_renamed : IsRenamed (slice_index names) by_places graph
  back_renamed = record {
    names = λ id. (
      λ here. (place id, (is_renamed.names (place id)).1 (id, here, refl), (at_place id here).1),
      λ h. let old = (is_renamed.names h.0).0 h.1 in subst (Contains graph.names) (sym (at_place old.0 old.1).1 ∙ ap (slice_index names) old.2 ∙ h.2) old.1,
    );
    pairs = λ parent child. (
      λ here. let both = ends_here parent child here in (
        place parent,
        place child,
        (is_renamed.pairs (place parent) (place child)).1 (parent, child, here, refl, refl),
        (at_place parent both.0).1,
        (at_place child both.1).1,
      ),
      λ h.
          let old = (is_renamed.pairs h.0 h.1).0 h.2 in
          let both = ends_here old.0 old.1 old.2 in
          subst₂ (λ (x y : ℕ). Contains graph.pairs (x, y)) (sym (at_place old.0 both.0).1 ∙ ap (slice_index names) old.3 ∙ h.3)
          (sym (at_place old.1 both.1).1 ∙ ap (slice_index names) old.4 ∙ h.4) old.2,
    );
  }

  rates_are : (p : ℕ) → Contains by_places.names p → sum_at (named names g) (slice_index names p) ≡ linear.sum_at g p
  rates_are p here = named_sum n names g kept p (place_low p here)

  pub certificate_by_names : (parts : List Part) → IsCertificate (linear.sum_at g) by_places (IsCover by_places.pairs) parts
      → IsCertificate (sum_at (named names g)) graph (IsCover graph.pairs) (map (renamed_part (slice_index names)) parts)
  certificate_by_names parts certificate =
      certificates_are_renamed (slice_index names) (linear.sum_at g) (sum_at (named names g)) by_places graph parts
      place_ends back_apart back_renamed rates_are certificate
