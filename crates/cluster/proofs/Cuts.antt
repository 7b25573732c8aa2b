-- Lists that are joined of others, and cut again at their ends.
use Rattle.std.proofs.Common.{◌≡◌, ℕ, zero, suc, ◌+◌, ◌-◌, ◌<◌, ◌≤◌, List, [], ◌∷◌, ◌++◌, length, map, take, drop, get_or, slice_index, refl, sym, ap, ap₂, ◌∙◌, arith, length-append, append-nil}
use Rattle.std.proofs.Math.Seq.{drop-append_seam}
use Rattle.std.specs.List.{flat_map}
use Rattle.lists.proofs.Entries.{first_of, rest_of, not_empty}
use Rattle.graphs.specs.declared.names.Flow.{Flow}
use Rattle.graphs.specs.Certificates.{Part}
use Rattle.linearize.specs.Drafts.{placed, flows_in, totals}
use Rattle.cluster.specs.declared.order.PartEnd.{PartEnd}
use Rattle.cluster.specs.Kept.{cut_from, cut, sum_in, AreCut}

pub take_front : {A : Type 0} (xs ys : List A) → take (length xs) (xs ++ ys) ≡ xs
take_front [] ys = refl
take_front (x ∷ xs) ys = ap (λ zs. x ∷ zs) (take_front xs ys)

-- how far the first lists of many reach
abbrev pub reach : {X A : Type 0} → (X → List A) → List X → ℕ → ℕ
reach f xs k = length (flat_map f (take k xs))

module _ {X A : Type 0} (f : X → List A) where
  reach_next : (x : X) (xs : List X) (k : ℕ) → reach f (x ∷ xs) (suc k) ≡ length (f x) + reach f xs k
  reach_next x xs k = length-append (f x) (flat_map f (take k xs))

  pub reach_more : (xs : List X) (k : ℕ) (d : X) → k < length xs → reach f xs (k + 1) ≡ reach f xs k + length (f (get_or xs k d))
  reach_more [] k d low = absurd (omega arith)
  reach_more (x ∷ xs) zero d low = let e : length (f x ++ []) ≡ length (f x) = ap length (append-nil (f x)) in omega arith
  reach_more (x ∷ xs) (suc k) d low =
      ap (reach f (x ∷ xs)) (let e : suc k + 1 ≡ suc (k + 1) = omega arith in e)
      ∙ reach_next x xs (k + 1) ∙ ap (λ m. length (f x) + m) (reach_more xs k d (omega arith))
      ∙ (let e : length (f x) + (reach f xs k + length (f (get_or xs k d))) ≡ length (f x) + reach f xs k + length (f (get_or xs k d)) = omega arith in e)
      ∙ ap (λ m. m + length (f (get_or xs k d))) (sym (reach_next x xs k))

  drop_more : (ys zs : List A) (m : ℕ) → drop (length ys + m) (ys ++ zs) ≡ drop m zs
  drop_more ys zs m = Rattle.std.proofs.Math.Seq.drop-append-add ys zs m

  -- each list lies between its ends
  pub segment : (xs : List X) (k : ℕ) (d : X) → k < length xs → take (length (f (get_or xs k d))) (drop (reach f xs k) (flat_map f xs)) ≡ f (get_or xs k d)
  segment [] k d low = absurd (omega arith)
  segment (x ∷ xs) zero d low = take_front (f x) (flat_map f xs)
  segment (x ∷ xs) (suc k) d low =
      ap (λ zs. take (length (f (get_or xs k d))) zs)
      (ap (λ m. drop m (f x ++ flat_map f xs)) (reach_next x xs k) ∙ drop_more (f x) (flat_map f xs) (reach f xs k)) ∙ segment xs k d (omega arith)

  pub reach_within : (xs : List X) (k : ℕ) → reach f xs k ≤ length (flat_map f xs)
  reach_within [] k = omega (arith, ap (λ (ys : List X). length (flat_map f ys)) (Rattle.std.proofs.Math.Seq.take-nil {A = X} k))
  reach_within (x ∷ xs) zero = omega arith
  reach_within (x ∷ xs) (suc k) = let rest : reach f xs k ≤ length (flat_map f xs) = reach_within xs k in
      omega (arith, reach_next x xs k, length-append (f x) (flat_map f xs))

  -- an entry of one of the lists, by its position in all
  pub at_reach : (xs : List X) (k i : ℕ) (d : X) (e : A) → k < length xs → i < length (f (get_or xs k d))
      → get_or (flat_map f xs) (reach f xs k + i) e ≡ get_or (f (get_or xs k d)) i e
  at_reach xs k i d e low inside =
      sym (Rattle.std.proofs.lemmas.List.get_or-drop (reach f xs k) (flat_map f xs) i e)
      ∙ sym (Rattle.std.proofs.lemmas.List.get_or-take (length (f (get_or xs k d))) (drop (reach f xs k) (flat_map f xs)) i e inside)
      ∙ ap (λ (ys : List A). get_or ys i e) (segment xs k d low)

  -- the sums of the lengths are how far the lists reach
  pub ended : (xs : List X) (i k : ℕ) → k < length xs → slice_index (totals i (map (λ x. length (f x)) xs)) k ≡ i + reach f xs (k + 1)
  ended [] i k low = absurd (omega arith)
  ended (x ∷ xs) i zero low = let e : length (f x ++ []) ≡ length (f x) = ap length (append-nil (f x)) in omega arith
  ended (x ∷ xs) i (suc k) low =
      ended xs (i + length (f x)) k (omega arith)
      ∙ (let e : i + length (f x) + reach f xs (k + 1) ≡ i + (length (f x) + reach f xs (k + 1)) = omega arith in e)
      ∙ ap (λ m. i + m) (sym (reach_next x xs (k + 1)) ∙ ap (reach f (x ∷ xs)) (let e : suc (k + 1) ≡ suc k + 1 = omega arith in e))

-- ---- parts

cut_one : (i j : ℕ) (e : PartEnd) (p : Part) (order : List ℕ) (flows : List Flow) (rest_order : List ℕ) (rest_flows : List Flow)
    → sum_in e ≡ p.rate → e.end ≡ i + length p.ids → e.flow_end ≡ j + length p.flows
    → p.ids ++ rest_order ≡ order → p.flows ++ rest_flows ≡ flows
    → record { rate = sum_in e; ids = take (e.end - i) order; flows = take (e.flow_end - j) flows } ≡ p
cut_one i j e p order flows rest_order rest_flows rate end flow_end order_is flows_are =
    let ids : take (e.end - i) order ≡ p.ids = ap₂ take (let n : e.end - i ≡ length p.ids = omega arith in n) (sym order_is) ∙ take_front p.ids rest_order in
    let own : take (e.flow_end - j) flows ≡ p.flows =
    ap₂ take (let n : e.flow_end - j ≡ length p.flows = omega arith in n) (sym flows_are) ∙ take_front p.flows rest_flows in
    λ t. record { rate = rate t; ids = ids t; flows = own t }

pub cut_is : (ends : List PartEnd) (parts : List Part) (i j : ℕ) (order : List ℕ) (flows : List Flow) → map sum_in ends ≡ map (λ part. part.rate) parts
    → map (λ e. e.end) ends ≡ totals i (map (λ part. length part.ids) parts) → map (λ e. e.flow_end) ends ≡ totals j (map (λ part. length part.flows) parts)
    → placed parts ≡ order → flows_in parts ≡ flows → cut_from i j ends order flows ≡ parts
unfolding cut_from
cut_is [] [] i j order flows rates ends flow_ends order_is flows_are = refl
cut_is [] (p ∷ ps) i j order flows rates ends flow_ends order_is flows_are = absurd (not_empty (sym rates))
cut_is (e ∷ es) [] i j order flows rates ends flow_ends order_is flows_are = absurd (not_empty rates)
cut_is (e ∷ es) (p ∷ ps) i j order flows rates ends flow_ends order_is flows_are =
    let end : e.end ≡ i + length p.ids = first_of ends in
    let flow_end : e.flow_end ≡ j + length p.flows = first_of flow_ends in
    let order_left : drop (e.end - i) order ≡ placed ps =
    ap₂ drop (let n : e.end - i ≡ length p.ids = omega arith in n) (sym order_is) ∙ drop-append_seam p.ids (placed ps) in
    let flows_left : drop (e.flow_end - j) flows ≡ flows_in ps =
    ap₂ drop (let n : e.flow_end - j ≡ length p.flows = omega arith in n) (sym flows_are) ∙ drop-append_seam p.flows (flows_in ps) in
    ap₂ {A = Part} {B = List Part} (λ x xs. x ∷ xs) (cut_one i j e p order flows (placed ps) (flows_in ps) (first_of rates) end flow_end order_is flows_are)
    (cut_is es ps e.end e.flow_end (drop (e.end - i) order) (drop (e.flow_end - j) flows) (rest_of rates)
    (rest_of ends ∙ ap (λ m. totals m (map (λ part. length part.ids) ps)) (sym end))
    (rest_of flow_ends ∙ ap (λ m. totals m (map (λ part. length part.flows) ps)) (sym flow_end)) (sym order_left) (sym flows_left))

-- parts with their ends are what is cut off
pub cut_whole : (ends : List PartEnd) (order : List ℕ) (flows : List Flow) (parts : List Part) → AreCut ends order flows parts → cut ends order flows ≡ parts
cut_whole ends order flows parts so = cut_is ends parts 0 0 order flows so.rates_are so.ends_are so.flow_ends_are so.order_is so.flows_are
