-- One after another comes out of a list.
use Rattle.std.proofs.Common.{◌≡◌, ℕ, ◌+◌, List, [], ◌∷◌, ◌++◌, length, refl, sym, ap, ap₂, ◌∙◌, append_assoc, arith}
use Rattle.std.proofs.lemmas.List.{append-nil, map_push}
use Rattle.std.proofs.lemmas.List.Sums.{sum_by-append}
use Rattle.graphs.specs.Closures.{Closure}
use Rattle.graph_model.specs.declared.names.Limits.{Limits}
use Rattle.cluster.specs.Clusters.{Cluster}
use Rattle.cluster.specs.Steps.{GrowsWithin}
use Rattle.links.specs.Links.{Links}
use Rattle.links.specs.Kept.{names_of}
use Rattle.links.specs.Closing.{closure}
use Rattle.record.specs.Kept.{unordered}
use Rattle.record.specs.Leaving.{AreLike, bare, most_steps_of_links}
use Rattle.record.specs.Records.{IsLike}
use Rattle.record.specs.Steps.{most_steps_fit}

-- one more came
pub split_more : {A : Type 0} (done rest rest' all : List A) (c : A) → done ++ rest ≡ all → rest ≡ c ∷ rest' → (done ++ c ∷ []) ++ rest' ≡ all
split_more {A} done rest rest' all c split next = append_assoc done (c ∷ []) rest' ∙ ap (λ (cs : List A). done ++ cs) (sym next) ∙ split

-- none is left
pub split_all : {A : Type 0} (done rest all : List A) → done ++ rest ≡ all → rest ≡ [] → done ≡ all
split_all {A} done rest all split none = sym (append-nil done) ∙ ap (λ (cs : List A). done ++ cs) (sym none) ∙ split

pub none_left : {A : Type 0} (rest : List A) → length rest ≡ 0 → rest ≡ []
none_left [] e = refl
none_left (c ∷ rest) e = absurd cc

-- ---- links and their records

pub like_more : (records : List Cluster) (parts : List Links) (record' : Cluster) (part : Links) → AreLike records parts → IsLike record' (unordered part)
    → AreLike (records ++ record' ∷ []) (parts ++ part ∷ [])
like_more records parts record' part so (names, graph) =
    map_push bare records record' ∙ ap₂ (λ (cs : List Cluster) (c : Cluster). cs ++ c ∷ []) so
    (ap₂ (λ (ns : List ℕ) (g : Closure). record { names = ns; graph = g; parts = [] }) names graph)
    ∙ sym (map_push unordered parts part)

module _ (limits : Limits) where
  abbrev cost : Links → ℕ
  cost part = most_steps_fit limits (closure part) (names_of part.txs)

  pub cost_more : (parts : List Links) (part : Links) (before mid after : ℕ) → GrowsWithin (most_steps_of_links limits parts) before mid
      → GrowsWithin (cost part) mid after → GrowsWithin (most_steps_of_links limits (parts ++ part ∷ [])) before after
  cost_more parts part before mid after so more =
      let split : most_steps_of_links limits (parts ++ part ∷ []) ≡ most_steps_of_links limits parts + most_steps_of_links limits (part ∷ []) =
      sum_by-append cost parts (part ∷ []) in
      let one : most_steps_of_links limits (part ∷ []) ≡ 0 + cost part = refl in
      record { grew = omega (arith, so.grew, more.grew); few = omega (arith, so.few, more.few, split, one) }
