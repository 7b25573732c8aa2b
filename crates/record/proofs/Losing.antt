-- What is left of links without some names is split as what is left of the whole.
use Rattle.std.proofs.Common.{◌≡◌, ℕ, ◌+◌, ◌≤◌, true, false, ◌&&◌, not, List, [], length, map, Contains, inl, inr, sym, ap, ◌∙◌, true≢false, arith}
use Rattle.std.proofs.lemmas.Bool.{and_from, and_parts, false_from_ne_true}
use Rattle.arithmetic.proofs.Sums.{sum_by_along}
use Rattle.lists.proofs.Entries.{none_in_empty, Contains-map}
use Rattle.lists.proofs.Flats.{flat_has}
use Rattle.lists.proofs.Walks.{Walk-map}
use Rattle.fee_rate.specs.declared.rates.FeeRate.{FeeRate}
use Rattle.graphs.specs.Closures.{Closure, is_member, is_ancestor, rate_of}
use Rattle.graph_model.specs.declared.names.Limits.{Limits}
use Rattle.cluster.specs.Clusters.{Cluster}
use Rattle.cluster.specs.Changes.{AreComponents, AreNearLeft, IsLeft, IsSplit}
use Rattle.links.specs.Laws.{DropsPlaces}
use Rattle.links.specs.Leaving.{goes}
use Rattle.links.proofs.Gone.{goes_tells}
use Rattle.record.specs.Steps.{most_steps_fit, most_steps_fit_of, most_steps_within}

module _ (old left : Closure) (gone : List ℕ) (drops : DropsPlaces old left (goes gone)) where
  stays : (id : ℕ) → (Contains gone id → ⊥) → goes gone id ≡ false
  stays id none = false_from_ne_true (goes gone id) (λ e. none ((goes_tells gone id).0 e))

  not_gone : (id : ℕ) → not (goes gone id) ≡ true → Contains gone id → ⊥
  not_gone id e here = true≢false (sym e ∙ ap not ((goes_tells gone id).1 here))

  to_left : (id : ℕ) → IsLeft old gone id → IsLeft left [] id
  to_left id (here, none) =
      (drops.members id ∙ and_from (not (goes gone id)) (is_member old id) (ap not (stays id none)) here, none_in_empty id)

  from_left : (id : ℕ) → IsLeft left [] id → IsLeft old gone id
  from_left id (here, _) =
      let both = and_parts (not (goes gone id)) (is_member old id) (sym (drops.members id) ∙ here) in (both.1, not_gone id both.0)

  above_to : (a d : ℕ) → (Contains gone a → ⊥) → (Contains gone d → ⊥) → is_ancestor old a d ≡ true → is_ancestor left a d ≡ true
  above_to a d first second up =
      drops.ancestors a d
      ∙ and_from (not (goes gone a)) (not (goes gone d) && is_ancestor old a d) (ap not (stays a first))
      (and_from (not (goes gone d)) (is_ancestor old a d) (ap not (stays d second)) up)

  above_from : (a d : ℕ) → is_ancestor left a d ≡ true → (Contains gone a → ⊥) × (Contains gone d → ⊥) × (is_ancestor old a d ≡ true)
  above_from a d up =
      let one = and_parts (not (goes gone a)) (not (goes gone d) && is_ancestor old a d) (sym (drops.ancestors a d) ∙ up) in
      let two = and_parts (not (goes gone d)) (is_ancestor old a d) one.1 in
      (not_gone a one.0, not_gone d two.0, two.1)

  near_to : (a b : ℕ) → AreNearLeft old gone a b → AreNearLeft left [] a b
  near_to a b (first, second, related) = (
    to_left a first,
    to_left b second,
    elim related [
      | inl up ↦ inl (above_to a b first.1 second.1 up)
      | inr down ↦ inr (above_to b a second.1 first.1 down)
    ],
  )

  near_from : (a b : ℕ) → AreNearLeft left [] a b → AreNearLeft old gone a b
  near_from a b (first, second, related) = (
    from_left a first,
    from_left b second,
    elim related [ inl up ↦ inl (above_from a b up).2 | inr down ↦ inr (above_from b a down).2 ],
  )

  pub components_from : (lists : List (List ℕ)) → AreComponents left [] lists → AreComponents old gone lists
  components_from lists all = record {
    once = all.once;
    exact = λ id. ((λ here. from_left id ((all.exact id).0 here)), (λ is. (all.exact id).1 (to_left id is)));
    whole = λ ids there a b here also. Walk-map (λ x. x) (AreNearLeft left []) (AreNearLeft old gone) near_from a b (all.whole ids there a b here also);
    alone = λ ids there a b here near. all.alone ids there a b here (near_to a b near);
  }

  pub components_to : (lists : List (List ℕ)) → AreComponents old gone lists → AreComponents left [] lists
  components_to lists all = record {
    once = all.once;
    exact = λ id. ((λ here. to_left id ((all.exact id).0 here)), (λ is. (all.exact id).1 (from_left id is)));
    whole = λ ids there a b here also. Walk-map (λ x. x) (AreNearLeft old gone) (AreNearLeft left []) near_to a b (all.whole ids there a b here also);
    alone = λ ids there a b here near. all.alone ids there a b here (near_from a b near);
  }

  pub split_from : (parts : List Cluster) → AreComponents left [] (map (λ c. c.names) parts) → IsSplit left [] parts → IsSplit old gone parts
  split_from parts all split = record {
    ancestors = λ a d. (
      (λ inside. above_from a d ((split.ancestors a d).0 inside).2),
      (λ (first, second, up). (split.ancestors a d).1 (none_in_empty a, none_in_empty d, above_to a d first second up)),
    );
    rates = λ c there id here.
        let is = from_left id ((all.exact id).0 (flat_has (λ (ids : List ℕ). ids) (map (λ (c : Cluster). c.names) parts) c.names id
        (Contains-map (λ (c : Cluster). c.names) parts c there) here)) in
        split.rates c there id here ∙ drops.rates id (stays id is.1);
    apart = split.apart;
    filled = split.filled;
  }

  -- the sizes of the names that are left are the same
  pub same_steps : (limits : Limits) (lists : List (List ℕ)) → AreComponents old gone lists
      → most_steps_fit_of limits left lists ≡ most_steps_fit_of limits old lists
  same_steps limits lists all =
      sum_by_along (λ ids. most_steps_fit limits left ids) (λ ids. most_steps_fit limits old ids) lists (λ ids there.
      ap (λ (size : ℕ). most_steps_within limits (length ids) size)
      (sum_by_along (λ id. (rate_of left id).size) (λ id. (rate_of old id).size) ids (λ id here.
      ap (λ (r : FeeRate). r.size)
      (drops.rates id (stays id ((all.exact id).0 (flat_has (λ (ids : List ℕ). ids) lists ids id there here)).1)))))

  pub steps_from : (limits : Limits) (before after : ℕ)
      → ((lists : List (List ℕ)) → AreComponents left [] lists → after ≤ before + most_steps_fit_of limits left lists)
      → (lists : List (List ℕ)) → AreComponents old gone lists → after ≤ before + most_steps_fit_of limits old lists
  steps_from limits before after few lists all =
      let most = few lists (components_to lists all) in let same = same_steps limits lists all in omega (arith, most, same)
