-- The sizes of clusters, counted one cluster of a list after the other.
use Rattle.std.proofs.Common.{◌≡◌, ℕ, ◌+◌, ◌<◌, ◌≤◌, suc, List, [], ◌∷◌, ◌++◌, length, drop, take, map, get_or, Contains, inl, inr, refl, sym, ap, ◌∙◌, subst, add-one, drop-cons}
use Rattle.std.proofs.lemmas.List.{drop_all, take_all}
use Rattle.std.proofs.lemmas.List.Elements.{Contains-push_cases}
use Rattle.lists.proofs.Entries.{none_in_empty}
use Rattle.graphs.specs.Closures.{rate_of}
use Rattle.cluster.specs.Clusters.{Cluster}
use Rattle.record.specs.Records.{IsRecord}
use Rattle.cluster_store.specs.Changes.{lowest, lowest_in}
use Rattle.cluster_store.proofs.Done.{next_taken}

module _ {X : Type 0} (w : ℕ) (cluster : X → Cluster) (xs : List X) (least : ℕ) where
  -- with those so far counted, what the others leave of the number is what all leave of the first; and those so far are clusters
  pub record AreCounted (at so_far : ℕ) : Type 0 where
    pub rest : lowest_in (map cluster (drop at xs)) so_far ≡ lowest_in (map cluster xs) least
    pub whole : (x : X) → Contains (take at xs) x → IsRecord w (cluster x)

  pub counted-none : AreCounted 0 least
  counted-none = record { rest = refl; whole = λ x none. absurd (none_in_empty x none) }

  pub counted-more : (at so_far next : ℕ) (x : X) → at < length xs → x ≡ get_or xs at x
      → next ≡ lowest (λ id. (rate_of (cluster x).graph id).size) (cluster x).names so_far → IsRecord w (cluster x)
      → AreCounted at so_far → AreCounted (at + 1) next
  counted-more at so_far next x below here next_is whole so = record {
    rest =
        ap (λ n. lowest_in (map cluster (drop n xs)) next) (add-one at) ∙ ap (lowest_in (map cluster (drop (suc at) xs))) next_is
        ∙ sym (ap (λ (ys : List X). lowest_in (map cluster ys) so_far) cut) ∙ so.rest;
    whole = λ y there. elim (Contains-push_cases (take at xs) x y (subst (λ (ys : List X). Contains ys y) more there)) [
      | inl before ↦ so.whole y before
      | inr same ↦ subst (λ (z : X). IsRecord w (cluster z)) same whole
    ];
  }
    where
      cut : drop at xs ≡ x ∷ drop (suc at) xs
      cut = drop-cons xs at x below ∙ ap (λ (y : X). y ∷ drop (suc at) xs) (sym here)

      more : take (at + 1) xs ≡ take at xs ++ x ∷ []
      more = ap (λ n. take n xs) (add-one at) ∙ next_taken xs at x below here

  module _ (at so_far : ℕ) (all : length xs ≤ at) (so : AreCounted at so_far) where
    pub counted-least : so_far ≡ lowest_in (map cluster xs) least
    counted-least = sym (ap (λ (ys : List X). lowest_in (map cluster ys) so_far) (drop_all at xs all)) ∙ so.rest

    pub counted-whole : (x : X) → Contains xs x → IsRecord w (cluster x)
    counted-whole = subst (λ (ys : List X). (x : X) → Contains ys x → IsRecord w (cluster x)) (take_all at xs all) so.whole
