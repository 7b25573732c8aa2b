-- The bytes of a window, after a write behind them or a step of their start.
use Rattle.std.proofs.Common.{◌≡◌, ℕ, ◌+◌, ◌-◌, ◌≤◌, List, ◌++◌, length, take, drop, slice_range, refl, sym, ap, ◌∙◌, arith}
use Rattle.std.proofs.lemmas.List.{append-nil, take_at, drop_at, take_all, drop_all, take-append-le, drop-append-le, drop-take, drop-drop, length-take-le, length-drop, length-append}
use borrow.Rule.Slice.PartMut.{put_mid, post_of}
use lib.Seq.{take-add}

-- a buffer behind whose first bytes others were written, as the Vec that owns it shows it
written : (xs ys : List ℕ) (end k n : ℕ) → n ≡ length xs → length ys ≡ k → end + k ≡ length xs
    → take n (put_mid end k xs ys ++ drop (length (put_mid end k xs ys)) xs) ≡ put_mid end k xs ys
written xs ys end k n whole part all =
    let front = length-take-le end xs (omega arith) in
    let long : length (put_mid end k xs ys) ≡ length xs = omega
    (arith, front, length-append (take end xs) (ys ++ post_of end k xs), length-append ys (post_of end k xs), length-drop k (drop end xs), length-drop end xs)
    in
    ap (λ (zs : List ℕ). take n (put_mid end k xs ys ++ zs)) (drop_all (length (put_mid end k xs ys)) xs (omega arith))
    ∙ ap (take n) (append-nil _) ∙ take_all n (put_mid end k xs ys) (omega arith)

grown : (xs ys : List ℕ) (start end k n : ℕ) → start ≤ end → end ≤ length xs → n ≤ length ys
    → slice_range (put_mid end k xs ys) start (end + n) ≡ slice_range xs start end ++ take n ys
grown xs ys start end k n ordered within fits =
    let front = length-take-le end xs within in
    let held = drop start (take end xs) in
    let len : length held ≡ end - start = omega (arith, length-drop start (take end xs)) in
    let sum : end + n - start ≡ (end - start) + n = omega arith in
    let parts : end ≡ start + (end - start) = omega arith in
    let same : held ≡ take (end - start) (drop start xs) = ap (λ j. drop start (take j xs)) parts ∙ drop-take start (end - start) xs in
    let after = ys ++ post_of end k xs in
    ap (take (end + n - start)) (drop-append-le start (take end xs) after (omega arith))
    ∙ ap (λ j. take j (held ++ after)) sum ∙ take-add (end - start) n (held ++ after)
    ∙ (rw (take_at held after _ len, drop_at held after _ len, take-append-le n ys (post_of end k xs) fits, same) refl)

-- so many bytes came behind those that were held
pub more_held : (xs ys : List ℕ) (start end k n m : ℕ) → m ≡ length xs → length ys ≡ k → end + k ≡ length xs → start ≤ end → n ≤ length ys
    → slice_range (take m (put_mid end k xs ys ++ drop (length (put_mid end k xs ys)) xs)) start (end + n) ≡ slice_range xs start end ++ take n ys
more_held xs ys start end k n m whole part all ordered fits =
    ap (λ (zs : List ℕ). slice_range zs start (end + n)) (written xs ys end k m whole part all) ∙ grown xs ys start end k n ordered (omega arith) fits

-- none came
pub same_held : (xs ys : List ℕ) (start end k m : ℕ) → m ≡ length xs → length ys ≡ k → end + k ≡ length xs → start ≤ end
    → slice_range (take m (put_mid end k xs ys ++ drop (length (put_mid end k xs ys)) xs)) start end ≡ slice_range xs start end
same_held xs ys start end k m whole part all ordered =
    let none : end ≡ end + 0 = omega arith in
    ap (slice_range (take m (put_mid end k xs ys ++ drop (length (put_mid end k xs ys)) xs)) start) none
    ∙ more_held xs ys start end k 0 m whole part all ordered (omega arith) ∙ append-nil _

-- the first bytes were given on
pub consumed : (xs : List ℕ) (start end count : ℕ) → start + count ≤ end → slice_range xs (start + count) end ≡ drop count (slice_range xs start end)
consumed xs start end count inside =
    let parts : end - start ≡ count + (end - (start + count)) = omega arith in
    sym (ap (λ j. drop count (take j (drop start xs))) parts ∙ drop-take count _ (drop start xs) ∙ ap (take (end - (start + count))) (drop-drop count start xs))
