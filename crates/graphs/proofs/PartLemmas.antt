-- What is proved of optimal orders, said of the parts of certificates.
use Rattle.std.proofs.Common.{◌≡◌, ℕ, ◌≤◌, List, [], ◌∷◌, ◌++◌, map, pos, ◌≤ℤ◌, sym, refl, subst, ap, ◌∙◌}
use Rattle.std.specs.Prelude.{Contains}
use Rattle.std.proofs.lemmas.List.Elements.{Contains-append_left, Contains-append_right}
use Rattle.lists.proofs.Entries.{Contains-head, Contains-later, Contains-map}
use Rattle.fee_rate.specs.declared.rates.Sum.{Sum}
use Rattle.fee_rate.specs.Rates.{AtMost, Same}
use Rattle.graphs.specs.Graphs.{Graph, IsCover}
use Rattle.graphs.specs.Rates.{sum_of, sums, HasSizes}
use Rattle.graphs.specs.Linearizations.{IsClosedWithin, IsOptimal}
use Rattle.graphs.specs.Certificates.{Part, IsCertificate}
use Rattle.graphs.specs.Drops.{IsDescendantSet}
use Rattle.graphs.proofs.TangentLemmas.{joined}
use Rattle.graphs.proofs.BestLemmas.{certified_optimal, covers_are_pairs, sum_of-joined}
use Rattle.std.proofs.lemmas.List.{map-append}
use Rattle.graphs.proofs.OrderLemmas.{one_rate, lowest_last, first_best}

ids_of : Part → List ℕ
ids_of part = part.ids

optimal_ids : (rate : ℕ → Sum) (graph : Graph) (parts : List Part) → HasSizes rate graph.names → IsCertificate rate graph (IsCover graph.pairs) parts
    → IsOptimal rate graph (map ids_of parts)
unfolding ids_of
optimal_ids rate graph parts some certificate = certified_optimal rate graph (IsCover graph.pairs) parts some (covers_are_pairs graph.pairs) certificate

told : (rate : ℕ → Sum) (parts : List Part) → ((part : Part) → Contains parts part → part.rate ≡ sums rate part.ids)
    → sum_of (map (λ p. p.rate) parts) ≡ sums rate (joined (map ids_of parts))
unfolding ids_of
told rate parts summed = ap sum_of (lists parts summed) ∙ sum_of-joined rate (map ids_of parts)
  where
    lists : (ps : List Part) → ((part : Part) → Contains ps part → part.rate ≡ sums rate part.ids) → map (λ p. p.rate) ps ≡ map (sums rate) (map ids_of ps)
    lists [] e = refl
    lists (p ∷ ps) e = λ i. e p (Contains-head p ps) i ∷ lists ps (λ q h. e q (Contains-later p q ps h)) i

pub parts_one_rate : (rate : ℕ → Sum) (graph : Graph) (a b : List Part) (id : ℕ) (p q : Part) → HasSizes rate graph.names
    → IsCertificate rate graph (IsCover graph.pairs) a → IsCertificate rate graph (IsCover graph.pairs) b
    → Contains a p → Contains p.ids id → Contains b q → Contains q.ids id → Same p.rate q.rate
unfolding ids_of
parts_one_rate rate graph a b id p q some one other p_in here q_in there =
    let same = one_rate rate graph (map ids_of a) (map ids_of b) id p.ids q.ids some (optimal_ids rate graph a some one) (optimal_ids rate graph b some other)
    (Contains-map ids_of a p p_in) here (Contains-map ids_of b q q_in) there in
    subst (λ (s : Sum). Same s q.rate) (sym (one.falling.summed p p_in))
    (subst (λ (s : Sum). Same (sums rate p.ids) s) (sym (other.falling.summed q q_in)) same)

pub parts_lowest : (rate : ℕ → Sum) (graph : Graph) (before : List Part) (part : Part) (set : List ℕ) → HasSizes rate graph.names
    → IsCertificate rate graph (IsCover graph.pairs) (before ++ part ∷ []) → IsDescendantSet graph set → AtMost part.rate (sums rate set)
unfolding ids_of
parts_lowest rate graph before part set some certificate below =
    let optimal = subst (IsOptimal rate graph) (map-append ids_of before (part ∷ [])) (optimal_ids rate graph (before ++ part ∷ []) some certificate) in
    let there : Contains (before ++ part ∷ []) part = Contains-append_right before (part ∷ []) part (Contains-head part []) in
    subst (λ (s : Sum). AtMost s (sums rate set)) (sym (certificate.falling.summed part there))
    (lowest_last rate graph (map ids_of before) part.ids set some optimal below)

pub parts_best : (rate : ℕ → Sum) (graph : Graph) (first after : List Part) (part : Part) (set : List ℕ) → HasSizes rate graph.names
    → IsCertificate rate graph (IsCover graph.pairs) ((first ++ part ∷ []) ++ after) → pos 0 ≤ℤ part.rate.fee → IsClosedWithin graph.pairs graph.names set
    → (sums rate set).size ≤ (sum_of (map (λ p. p.rate) (first ++ part ∷ []))).size
    → (sums rate set).fee ≤ℤ (sum_of (map (λ p. p.rate) (first ++ part ∷ []))).fee
unfolding ids_of
parts_best rate graph first after part set some certificate rises closed small =
    let front = first ++ part ∷ [] in
    let list : map ids_of front ≡ map ids_of first ++ part.ids ∷ [] = map-append ids_of first (part ∷ []) in
    let optimal = subst (IsOptimal rate graph) (map-append ids_of front after ∙ ap (λ zs. zs ++ map ids_of after) list)
    (optimal_ids rate graph (front ++ after) some certificate) in
    let there : Contains (front ++ after) part = Contains-append_left front after part (Contains-append_right first (part ∷ []) part (Contains-head part [])) in
    let rises' : pos 0 ≤ℤ (sums rate part.ids).fee = subst (λ (s : Sum). pos 0 ≤ℤ s.fee) (certificate.falling.summed part there) rises in
    let all : sum_of (map (λ p. p.rate) front) ≡ sums rate (joined (map ids_of first ++ part.ids ∷ [])) =
    told rate front (λ p h. certificate.falling.summed p (Contains-append_left front after p h)) ∙ ap (λ zs. sums rate (joined zs)) list in
    subst (λ (s : Sum). (sums rate set).fee ≤ℤ s.fee) (sym all)
    (first_best rate graph (map ids_of first) (map ids_of after) part.ids set some optimal rises' closed
    (subst (λ (s : Sum). (sums rate set).size ≤ s.size) all small))
