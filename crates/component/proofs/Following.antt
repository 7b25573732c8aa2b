-- One after another comes out of a list.
use Rattle.std.proofs.Common.{◌≡◌, List, [], ◌∷◌, ◌++◌, length, refl, sym, ap, ◌∙◌, append_assoc}
use Rattle.std.proofs.lemmas.List.{append-nil}
use Rattle.cluster.specs.Clusters.{Cluster}

-- one more came
pub split_more : (done rest rest' all : List Cluster) (c : Cluster) → done ++ rest ≡ all → rest ≡ c ∷ rest' → (done ++ c ∷ []) ++ rest' ≡ all
split_more done rest rest' all c split next = append_assoc done (c ∷ []) rest' ∙ ap (λ (cs : List Cluster). done ++ cs) (sym next) ∙ split

-- none is left
pub split_all : (done rest all : List Cluster) → done ++ rest ≡ all → rest ≡ [] → done ≡ all
split_all done rest all split none = sym (append-nil done) ∙ ap (λ (cs : List Cluster). done ++ cs) (sym none) ∙ split

pub none_left : (rest : List Cluster) → length rest ≡ 0 → rest ≡ []
none_left [] e = refl
none_left (c ∷ rest) e = absurd cc
