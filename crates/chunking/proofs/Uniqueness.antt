-- An order has one chunking at most.
use Rattle.std.proofs.Common.{◌≡◌, ◌≤◌, List, [], ◌∷◌, ◌++◌, inl, inr, refl, sym, ap, ◌∙◌, subst}
use Rattle.std.specs.Prelude.{All}
use Rattle.std.specs.List.{flat_map}
use Rattle.std.proofs.lemmas.List.{append-nil}
use Rattle.std.proofs.lemmas.List.Elements.{All-cons, All-head, All-tail, All-nil, All-weaker}
use Rattle.lists.proofs.Entries.{All-front, All-back}
use Rattle.fee_rate.proofs.Orders.{below_at_most, at_most_chains, below_clash}
use Rattle.fee_rate.specs.declared.rates.FeeRate.{FeeRate}
use Rattle.fee_rate.specs.declared.rates.Sum.{Sum}
use Rattle.fee_rate.specs.Rates.{AtMost, Below}
use Rattle.chunking.specs.Chunkings.{sum_of, IsPart, Fall}
use Rattle.chunking.specs.Laws.{PartsAreUnique}
use Rattle.chunking.proofs.Fronts.{compare_fronts}
use Rattle.chunking.proofs.Sums.{below_rest, joined_at_most, sum_of-append, Sized, some_size}

abbrev whole : List (List FeeRate) → List FeeRate
whole parts = flat_map (λ part. part) parts

within : (r : Sum) (p t x : List FeeRate) → IsPart p → Sized p → AtMost (sum_of p) r → (t ≡ [] → ⊥) → p ≡ t ++ x → AtMost (sum_of t) r
within r p t [] part sizes low some f = subst (λ y. AtMost (sum_of y) r) (f ∙ append-nil t) low
within r p t (z ∷ x) part sizes low some f =
    let short : Below (sum_of t) (sum_of p) = part.fronts t (z ∷ x) some (λ n. cc) (sym f) in
    at_most_chains _ (sum_of p) _ (some_size p sizes part.some) (below_at_most _ _ short) low

beyond : (r : Sum) (p t x : List FeeRate) → AtMost (sum_of p) r → ((x ≡ [] → ⊥) → AtMost (sum_of x) r) → t ≡ p ++ x → AtMost (sum_of t) r
beyond r p t [] low rest f = subst (λ y. AtMost (sum_of y) r) (sym (f ∙ append-nil p)) low
beyond r p t (z ∷ x) low rest f =
    let both : AtMost (sum_of (p ++ (z ∷ x))) r = rw (sum_of-append p (z ∷ x)) (joined_at_most _ _ _ low (rest (λ n. cc))) in
    subst (λ y. AtMost (sum_of y) r) (sym f) both

-- what a list of parts begins with is at most what bounds each of them
bounded : (r : Sum) (parts : List (List FeeRate)) (t u : List FeeRate) → All IsPart parts → Sized (whole parts)
    → All (λ p. AtMost (sum_of p) r) parts → whole parts ≡ t ++ u → (t ≡ [] → ⊥) → AtMost (sum_of t) r
bounded r [] [] u each sizes below e some = absurd (some refl)
bounded r [] (x ∷ t) u each sizes below e some = cc
bounded r (p ∷ parts) t u each sizes below e some =
    let part = All-head IsPart p parts each in
    let low : AtMost (sum_of p) r = All-head (λ p. AtMost (sum_of p) r) p parts below in
    let sized_p : Sized p = All-front (λ r. 1 ≤ r.size) p (whole parts) sizes in
    elim (compare_fronts p (whole parts) t u e) [
      | inl (x, f, g) ↦
          beyond r p t x low
          (λ n. bounded r parts x u (All-tail IsPart p parts each) (All-back (λ r. 1 ≤ r.size) p (whole parts) sizes)
          (All-tail (λ p. AtMost (sum_of p) r) p parts below) g n)
          f
      | inr (x, f, g) ↦ within r p t x part sized_p low some f
    ]

fall_tail : (p : List FeeRate) (parts : List (List FeeRate)) → Fall (p ∷ parts) → Fall parts
fall_tail p parts h = record { neighbours = λ before a b after e. h.neighbours (p ∷ before) a b after (ap (λ l. p ∷ l) e) }

-- each later part is at most the first
below_first : (p : List FeeRate) (parts : List (List FeeRate)) → Fall (p ∷ parts)
    → All IsPart parts → Sized (whole parts) → All (λ q. AtMost (sum_of q) (sum_of p)) parts
below_first p [] fall each sizes = All-nil (λ q. AtMost (sum_of q) (sum_of p))
below_first p (q ∷ parts) fall each sizes =
    let part = All-head IsPart q parts each in
    let size : 1 ≤ (sum_of q).size = some_size q (All-front (λ r. 1 ≤ r.size) q (whole parts) sizes) part.some in
    let step : AtMost (sum_of q) (sum_of p) = fall.neighbours [] p q parts refl in
    let more = below_first q parts (fall_tail p (q ∷ parts) fall) (All-tail IsPart q parts each) (All-back (λ r. 1 ≤ r.size) q (whole parts) sizes) in
    All-cons (λ q. AtMost (sum_of q) (sum_of p)) q parts step
    (All-weaker (λ x. AtMost (sum_of x) (sum_of q)) (λ x. AtMost (sum_of x) (sum_of p)) (λ x h. at_most_chains _ (sum_of q) _ size h step) parts more)

-- the first part of one chunking isn't a proper front of the first part of another
no_shorter : (p q z : List FeeRate) (w : FeeRate) (ps qs : List (List FeeRate)) → IsPart p → IsPart q → Sized p
    → All IsPart ps → Sized (whole ps) → Fall (p ∷ ps) → q ≡ p ++ (w ∷ z) → whole ps ≡ (w ∷ z) ++ whole qs → ⊥
no_shorter p q z w ps qs pp pq sp each sizes fall e g =
    let short : Below (sum_of p) (sum_of q) = pq.fronts p (w ∷ z) pp.some (λ n. cc) (sym e) in
    let rest : Below (sum_of p) (sum_of (w ∷ z)) = below_rest _ _ (subst (λ s. Below (sum_of p) s) (ap sum_of e ∙ sum_of-append p (w ∷ z)) short) in
    below_clash _ _ rest (bounded (sum_of p) ps (w ∷ z) (whole qs) each sizes (below_first p ps fall each sizes) g (λ n. cc))

-- what is known of one of the two chunkings
record Cut (parts : List (List FeeRate)) : Type 0 where
  pub each : All IsPart parts
  pub fall : Fall parts
  pub sizes : Sized (whole parts)

cut_tail : (p : List FeeRate) (parts : List (List FeeRate)) → Cut (p ∷ parts) → Cut parts
cut_tail p parts c = record {
  each = All-tail IsPart p parts c.each;
  fall = fall_tail p parts c.fall;
  sizes = All-back (λ r. 1 ≤ r.size) p (whole parts) c.sizes;
}

empty_first : (p : List FeeRate) (parts : List (List FeeRate)) → Cut (p ∷ parts) → [] ≡ p ++ whole parts → ⊥
empty_first [] parts c e = (All-head IsPart [] parts c.each).some refl
empty_first (x ∷ p) parts c e = cc

first_shorter : (p q t : List FeeRate) (ps qs : List (List FeeRate)) → Cut (p ∷ ps)
    → Cut (q ∷ qs) → q ≡ p ++ t → whole ps ≡ t ++ whole qs → (p ≡ q) × (whole ps ≡ whole qs)
first_shorter p q [] ps qs c d e g = (sym (e ∙ append-nil p), g)
first_shorter p q (w ∷ z) ps qs c d e g =
    let tail = cut_tail p ps c in
    absurd
    (no_shorter p q z w ps qs (All-head IsPart p ps c.each) (All-head IsPart q qs d.each)
    (All-front (λ r. 1 ≤ r.size) p (whole ps) c.sizes) tail.each tail.sizes c.fall e g)

same_cuts : (xs ys : List (List FeeRate)) → Cut xs → Cut ys → whole xs ≡ whole ys → xs ≡ ys
same_cuts [] [] c d e = refl
same_cuts [] (q ∷ qs) c d e = absurd (empty_first q qs d e)
same_cuts (p ∷ ps) [] c d e = absurd (empty_first p ps c (sym e))
same_cuts (p ∷ ps) (q ∷ qs) c d e =
    let firsts : (p ≡ q) × (whole ps ≡ whole qs) =
    elim (compare_fronts p (whole ps) q (whole qs) e) [
      | inl (t, f, g) ↦ first_shorter p q t ps qs c d f g
      | inr (t, f, g) ↦ (let h = first_shorter q p t qs ps d c f g in (sym h.0, sym h.1))
    ]
    in
    let tails = same_cuts ps qs (cut_tail p ps c) (cut_tail q qs d) firsts.1 in
    let heads = firsts.0 in
    cc

pub unique : PartsAreUnique
unique rates xs ys sizes a b =
    same_cuts xs ys (record { each = a.each; fall = a.fall; sizes = subst Sized (sym a.whole) sizes })
    (record { each = b.each; fall = b.fall; sizes = subst Sized (sym b.whole) sizes }) (a.whole ∙ sym b.whole)
