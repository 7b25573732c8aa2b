-- Two parts of rising rate are one part.
use Rattle.std.proofs.Common.{◌≡◌, ◌+◌, ◌≤◌, List, [], ◌∷◌, ◌++◌, inl, inr, refl, sym, ap, ◌∙◌, subst, arith}
use Rattle.std.proofs.lemmas.List.{append-nil, append_assoc}
use Rattle.lists.proofs.Entries.{All-back}
use Rattle.fee_rate.proofs.Orders.{below_at_most, below_at_most_chains}
use Rattle.fee_rate.specs.declared.rates.FeeRate.{FeeRate}
use Rattle.fee_rate.specs.Laws.{joined}
use Rattle.fee_rate.specs.Rates.{Below}
use Rattle.chunking.specs.Chunkings.{sum_of, IsPart}
use Rattle.chunking.proofs.Fronts.{compare_fronts}
use Rattle.chunking.proofs.Sums.{below_joined, joined_below, below_rest, below_from_joined, sum_of-append, Sized, some_size}

-- a front that is one of the two parts, or short of the first
front_within : (a b front t : List FeeRate) → IsPart a → Sized a → Sized b → (b ≡ [] → ⊥)
    → Below (sum_of a) (sum_of b) → (front ≡ [] → ⊥) → a ≡ front ++ t → Below (sum_of front) (sum_of (a ++ b))
front_within a b front [] p sa sb nb rise some e =
    let same : a ≡ front = e ∙ append-nil front in
    let whole : Below (sum_of a) (sum_of (a ++ b)) = subst (λ s. Below (sum_of a) s) (sym (sum_of-append a b)) (below_joined (sum_of a) (sum_of b) rise) in
    subst (λ x. Below (sum_of x) (sum_of (a ++ b))) same whole
front_within a b front (x ∷ t) p sa sb nb rise some e =
    let short : Below (sum_of front) (sum_of a) = p.fronts front (x ∷ t) some (λ n. cc) (sym e) in
    let whole : Below (sum_of a) (sum_of (a ++ b)) = subst (λ s. Below (sum_of a) s) (sym (sum_of-append a b)) (below_joined (sum_of a) (sum_of b) rise) in
    let size : 1 ≤ (sum_of a).size = some_size a sa p.some in
    let more : 1 ≤ (sum_of (a ++ b)).size =
    subst (λ s. 1 ≤ s.size) (sym (sum_of-append a b)) (let n : 1 ≤ (sum_of a).size + (sum_of b).size = omega arith in n) in
    below_at_most_chains (sum_of front) (sum_of a) (sum_of (a ++ b)) size more short (below_at_most _ _ whole)

-- a front that goes into the second part
front_beyond : (a b t rest : List FeeRate) → IsPart b → Sized b → (rest ≡ [] → ⊥) → Below (sum_of a) (sum_of b)
    → (t ≡ [] → ⊥) → b ≡ t ++ rest → Below (sum_of (a ++ t)) (sum_of ((a ++ t) ++ rest))
front_beyond a b t rest p sb nr rise some e =
    let sizes : Sized (t ++ rest) = subst Sized e sb in
    let size_rest : 1 ≤ (sum_of rest).size = some_size rest (All-back (λ r. 1 ≤ r.size) t rest sizes) nr in
    let size_b : 1 ≤ (sum_of b).size = some_size b sb p.some in
    let short : Below (sum_of t) (sum_of b) = p.fronts t rest some nr (sym e) in
    let parted : sum_of b ≡ joined (sum_of t) (sum_of rest) = ap sum_of e ∙ sum_of-append t rest in
    let short' : Below (sum_of t) (sum_of rest) = below_rest _ _ (subst (λ s. Below (sum_of t) s) parted short) in
    let top : Below (sum_of b) (sum_of rest) = subst (λ s. Below s (sum_of rest)) (sym parted) (joined_below _ _ short') in
    let all : Below (joined (sum_of a) (sum_of b)) (sum_of rest) =
    below_at_most_chains _ (sum_of b) _ size_b size_rest (joined_below _ _ rise) (below_at_most _ _ top) in
    let shape : joined (sum_of a) (sum_of b) ≡ joined (sum_of (a ++ t)) (sum_of rest) =
    sym (sum_of-append a b) ∙ ap (λ x. sum_of (a ++ x)) e ∙ ap sum_of (sym (append_assoc a t rest)) ∙ sum_of-append (a ++ t) rest
    in
    let low : Below (sum_of (a ++ t)) (sum_of rest) = below_from_joined _ _ (subst (λ s. Below s (sum_of rest)) shape all) in
    subst (λ s. Below (sum_of (a ++ t)) s) (sym (sum_of-append (a ++ t) rest)) (below_joined _ _ low)

some_front : (xs ys : List FeeRate) → (xs ≡ [] → ⊥) → xs ++ ys ≡ [] → ⊥
some_front [] ys n e = n refl
some_front (x ∷ xs) ys n e = cc

joined_case : (a b front rest t : List FeeRate) → IsPart a → IsPart b → Sized a → Sized b → Below (sum_of a) (sum_of b) → (front ≡ [] → ⊥)
    → (rest ≡ [] → ⊥) → front ≡ a ++ t → b ≡ t ++ rest → front ++ rest ≡ a ++ b → Below (sum_of front) (sum_of (a ++ b))
joined_case a b front rest [] p q sa sb rise sf sr x y e =
    front_within a b front [] p sa sb q.some rise sf (sym (x ∙ append-nil a) ∙ sym (append-nil front))
joined_case a b front rest (z ∷ t) p q sa sb rise sf sr x y e =
    let k = front_beyond a b (z ∷ t) rest q sb sr rise (λ n. cc) y in
    let k' : Below (sum_of front) (sum_of (front ++ rest)) = subst (λ f. Below (sum_of f) (sum_of (f ++ rest))) (sym x) k in
    subst (λ f. Below (sum_of front) (sum_of f)) e k'

-- two parts, the second of a greater rate, are one part together
pub joined_part : (a b : List FeeRate) → IsPart a → IsPart b → Sized a → Sized b → Below (sum_of a) (sum_of b) → IsPart (a ++ b)
joined_part a b p q sa sb rise = record {
  some = some_front a b p.some;
  fronts =
      λ front rest sf sr e.
      elim (compare_fronts front rest a b e) [
        | inl (t, x, y) ↦ front_within a b front t p sa sb q.some rise sf x
        | inr (t, x, y) ↦ joined_case a b front rest t p q sa sb rise sf sr x y e
      ];
}

short : (r : FeeRate) (front rest : List FeeRate) → (front ≡ [] → ⊥) → (rest ≡ [] → ⊥) → front ++ rest ≡ r ∷ [] → ⊥
short r [] rest sf sr e = sf refl
short r (x ∷ []) rest sf sr e = let tails : rest ≡ [] = (cc) in sr tails
short r (x ∷ y ∷ front) rest sf sr e = let tails : (y ∷ front) ++ rest ≡ [] = (cc) in cc

-- one rate is a part
pub single_part : (r : FeeRate) → IsPart (r ∷ [])
single_part r = record {
  some = λ e. cc;
  fronts = λ front rest sf sr e. absurd (short r front rest sf sr e);
}
