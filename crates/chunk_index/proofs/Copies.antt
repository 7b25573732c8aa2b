-- What a slice has that is filled from a tree: from its left side l alone, from its right side r alone, or from both and the entry e between.
use Rattle.std.proofs.Common.{◌≡◌, ℕ, suc, ◌+◌, ◌-◌, ◌<◌, ◌≤◌, List, [], ◌∷◌, ◌++◌, length, take, drop, get_or, slice_set, sym, ap, ◌∙◌, append_assoc, arith, length-drop}
use Rattle.std.proofs.lemmas.List.{append-nil, length-take-le, take_all, take_rest, drop-append-le, take-append-le, drop_all}
use Rattle.std.proofs.Math.Seq.{drop-cons, drop-append-add, take-append-add, set-append_seam}
use borrow.Rule.Slice.PartMut.{mid_of, put_mid}
use Rattle.chunk_index.specs.declared.entry.Entry.{Entry}

module _ (l r : List Entry) (e : Entry) where
  pub from_right : (at : ℕ) → length l < at → drop (at - length l - 1) r ≡ drop at (l ++ e ∷ r)
  from_right at behind =
      let n = at - length l - 1 in
      let place : at ≡ length l + suc n = omega arith in
      sym (ap (λ k. drop k (l ++ e ∷ r)) place ∙ drop-append-add l (e ∷ r) (suc n))

  pub from_left : (at n : ℕ) → at ≤ length l → n ≤ length l - at → take n (drop at l) ≡ take n (drop at (l ++ e ∷ r))
  from_left at n within few =
      let room : n ≤ length (drop at l) = omega (arith, length-drop at l) in
      sym (ap (λ (t : List Entry). take n t) (drop-append-le at l (e ∷ r) within) ∙ take-append-le n (drop at l) (e ∷ r) room)

  -- the slice once p is its front, e comes next and q is its end
  pub across : (at n k : ℕ) (out p q : List Entry) → at ≤ length l → k ≡ length l - at → k < n → n ≡ length out
      → p ≡ take (length (take k out)) (drop at l) → q ≡ take (length (mid_of (k + 1) (length (slice_set (p ++ drop k out) k e) - (k + 1))
      (slice_set (p ++ drop k out) k e))) r
      → put_mid (k + 1) (length (slice_set (p ++ drop k out) k e) - (k + 1)) (slice_set (p ++ drop k out) k e) q ≡ take n (drop at (l ++ e ∷ r))
  across at n k out p q within front room long filled rest =
      let part : length (drop at l) ≡ k = omega (arith, length-drop at l) in
      let asked : length (take k out) ≡ k = length-take-le k out (omega arith) in
      let all : p ≡ drop at l = filled ∙ take_all (length (take k out)) (drop at l) (omega arith) in
      let size : length p ≡ k = ap length all ∙ part in
      let t = drop (suc k) out in
      let inside : k < length out = omega arith in
      let here : drop k out ≡ get_or out k e ∷ t = drop-cons out k e inside in
      let whole : slice_set (p ++ drop k out) k e ≡ p ++ e ∷ t =
      ap (λ (xs : List Entry). slice_set (p ++ xs) k e) here
      ∙ ap (λ i. slice_set (p ++ get_or out k e ∷ t) i e) (sym size)
      ∙ set-append_seam p (get_or out k e) t e in
      let begun : take (k + 1) (p ++ e ∷ t) ≡ p ++ e ∷ [] = ap (λ i. take (i + 1) (p ++ e ∷ t)) (sym size) ∙ take-append-add p (e ∷ t) 1 in
      let next : drop (k + 1) (p ++ e ∷ t) ≡ t = ap (λ i. drop (i + 1) (p ++ e ∷ t)) (sym size) ∙ drop-append-add p (e ∷ t) 1 in
      let past = length (p ++ e ∷ t) - (k + 1) in
      let ended : drop past (drop (k + 1) (p ++ e ∷ t)) ≡ [] =
      drop_all past (drop (k + 1) (p ++ e ∷ t)) (omega (arith, length-drop (k + 1) (p ++ e ∷ t))) in
      let count : length (mid_of (k + 1) past (p ++ e ∷ t)) ≡ n - (k + 1) =
      ap length (take_rest (p ++ e ∷ t) (k + 1) ∙ next) ∙ omega (arith, length-drop (suc k) out) in
      let end : q ≡ take (n - (k + 1)) r =
      rest ∙ ap (λ (s : List Entry). take (length (mid_of (k + 1) (length s - (k + 1)) s)) r) whole ∙ ap (λ i. take i r) count in
      let more : n ≡ length p + suc (n - (k + 1)) = omega arith in
      let wanted : take n (drop at (l ++ e ∷ r)) ≡ p ++ e ∷ q =
      ap (λ (xs : List Entry). take n xs) (drop-append-le at l (e ∷ r) within ∙ ap (λ (xs : List Entry). xs ++ e ∷ r) (sym all))
      ∙ ap (λ i. take i (p ++ e ∷ r)) more ∙ take-append-add p (e ∷ r) (suc (n - (k + 1)))
      ∙ ap (λ (xs : List Entry). p ++ e ∷ xs) (sym end) in
      rw (whole, begun, ended, append-nil) (append_assoc p (e ∷ []) q ∙ sym wanted)
