-- A cluster has a part.
use Rattle.std.proofs.Common.{◌≡◌, ◌↔◌, ℕ, ◌≤◌, Bool, true, ◌&&◌, not, nat_eq, List, [], ◌∷◌, length, flat_map, map, sym, ap, ◌∙◌, subst, inl, inr, true≢false, arith}
use Rattle.std.specs.Prelude.{Contains, filter}
use Rattle.std.proofs.lemmas.Bool.{and_from, and_parts, cases_eq, eq-eqb, ne_eqb}
use Rattle.lists.specs.Distinct.{AreDistinct}
use Rattle.lists.proofs.Entries.{Contains-head, Contains-filter, filter-Contains, Contains-map, map-Contains, none_in_empty}
use Rattle.lists.proofs.Flats.{flat_has, flat_of}
use Rattle.graphs.specs.Certificates.{Part}
use Rattle.graphs.specs.Graphs.{Graph}
use Rattle.graphs.specs.Closures.{Closure, is_member, is_ancestor, IsOrder}
use Rattle.graphs.specs.Closing.{IsClosureOf}
use Rattle.graphs.proofs.WalkLemmas.{walk_of_pair}
use Rattle.cluster.specs.Clusters.{Cluster, IsCluster}
use Rattle.record.proofs.Covering.{above_along, acyclic_pairs}

module _ (g : Closure) (names : List ℕ) (once : AreDistinct names) (members : (id : ℕ) → (is_member g id ≡ true) ↔ Contains names id)
    (order : IsOrder (is_member g) (is_ancestor g)) where
  -- the other ancestors of a name
  is_above : ℕ → ℕ → Bool
  is_above d a = is_ancestor g a d && not (nat_eq a d)

  pairs : List (ℕ × ℕ)
  pairs = flat_map (λ d. map (λ a. (a, d)) (filter (is_above d) names)) names

  pairs_sound : (a d : ℕ) → Contains {X = ℕ × ℕ} pairs (a, d) → (is_ancestor g a d ≡ true) × (a ≡ d → ⊥)
  unfolding pairs is_above
  pairs_sound a d here =
      let holder = flat_of (λ d. map (λ a. (a, d)) (filter (is_above d) names)) names (a, d) here in
      let at = map-Contains (λ x. (x, holder.0)) (filter (is_above holder.0) names) (a, d) holder.2 in
      let tells = and_parts (is_ancestor g at.0 holder.0) (not (nat_eq at.0 holder.0)) (filter-Contains (is_above holder.0) names at.0 at.1).0 in
      let first : at.0 ≡ a = ap (λ (p : ℕ × ℕ). p.0) at.2 in
      let second : holder.0 ≡ d = ap (λ (p : ℕ × ℕ). p.1) at.2 in (
        subst (λ (x : ℕ). is_ancestor g x d ≡ true) first (subst (λ (y : ℕ). is_ancestor g at.0 y ≡ true) second tells.0),
        (λ same. true≢false (sym tells.1 ∙ ap not (eq-eqb at.0 holder.0 (first ∙ same ∙ sym second)))),
      )

  pairs_have : (a d : ℕ) → is_ancestor g a d ≡ true → (a ≡ d → ⊥) → Contains {X = ℕ × ℕ} pairs (a, d)
  unfolding pairs is_above
  pairs_have a d up other =
      let ends = order.among a d up in
      flat_has (λ d. map (λ a. (a, d)) (filter (is_above d) names)) names d (a, d) ((members d).0 ends.1)
      (Contains-map (λ x. (x, d)) (filter (is_above d) names) a
      (Contains-filter (is_above d) names a
      (and_from (is_ancestor g a d) (not (nat_eq a d)) up (ap not (ne_eqb a d other))) ((members a).0 ends.0)))

  abbrev plain : Graph
  plain = record { names = names; pairs = pairs }

  plain_closes : IsClosureOf g plain
  plain_closes = record {
    names = λ id. ((members id).1, (members id).0);
    ends = λ a d here. order.among a d (pairs_sound a d here).0;
    acyclic = acyclic_pairs g names once members order pairs pairs_sound;
    ancestors = λ a d here there. (
      (λ walk. above_along g names once members order pairs pairs_sound a d walk.0 here walk.1),
      (λ up. elim (cases_eq a d) [
        | inl same ↦ (0, same)
        | inr other ↦ (1, walk_of_pair pairs a d (pairs_have a d up other))
      ]),
    );
  }

-- so its parts have its names
pub has_parts : (most : ℕ) (c : Cluster) → IsCluster most c → c.parts ≡ [] → ⊥
has_parts most c whole none = named c.names whole.some (λ id here. listed id here)
  where
    listed : (id : ℕ) → Contains c.names id → Contains (flat_map (λ (part : Part). part.ids) c.parts) id
    listed id here =
        ((whole.picked (plain c.graph c.names whole.once whole.members whole.order) (plain_closes c.graph c.names whole.once whole.members whole.order)).certificate.order.topological.names id).1 here

    named : (names : List ℕ) → 1 ≤ length names → ((id : ℕ) → Contains names id → Contains (flat_map (λ (part : Part). part.ids) c.parts) id) → ⊥
    named [] some all = absurd (omega (arith, some))
    named (id ∷ names) some all =
        none_in_empty id (subst (λ (ps : List Part). Contains (flat_map (λ (part : Part). part.ids) ps) id) none (all id (Contains-head id names)))
