-- How the items of a block fill its first places.
use Rattle.std.proofs.Common.{◌≡◌, ℕ, zero, suc, ◌+◌, ◌-◌, ◌<◌, ◌≤◌, List, [], ◌∷◌, ◌++◌, map, length, set, get_or, replicate, slice_get, Option, Some, None, refl, sym, ap, ◌∙◌, arith}
use Rattle.std.proofs.lemmas.List.{length_push}
use Rattle.node_pool.specs.CellPlaces.{somes, filled}

-- the places with these items first and so many empty ones behind them
abbrev pub places : {X : Type 0} → List X → ℕ → List (Option X)
places xs k = map Some xs ++ replicate k None

module _ {X : Type 0} where
  somes_of_none : (k : ℕ) → somes {X = X} (replicate k None) ≡ []
  somes_of_none zero = refl
  somes_of_none (suc k) = somes_of_none k

  pub somes-places : (xs : List X) (k : ℕ) → somes (places xs k) ≡ xs
  somes-places [] k = somes_of_none k
  somes-places (x ∷ xs) k = ap (λ ys. x ∷ ys) (somes-places xs k)

  pub get_or-places : (xs : List X) (k i : ℕ) (x : X) → slice_get xs i ≡ Some x → get_or (places xs k) i None ≡ Some x
  get_or-places [] k i x found = absurd (cc)
  get_or-places (y ∷ xs) k zero x found = found
  get_or-places (y ∷ xs) k (suc i) x found = get_or-places xs k i x found

  pub set-places_end : (xs : List X) (k : ℕ) (x : X) → set (places xs (suc k)) (length xs) (Some x) ≡ places (xs ++ x ∷ []) k
  set-places_end [] k x = refl
  set-places_end (y ∷ xs) k x = ap (λ ps. Some y ∷ ps) (set-places_end xs k x)

  pub set-places_none : (xs : List X) (k : ℕ) (x : X) → set (places (xs ++ x ∷ []) k) (length xs) None ≡ places xs (suc k)
  set-places_none [] k x = refl
  set-places_none (y ∷ xs) k x = ap (λ ps. Some y ∷ ps) (set-places_none xs k x)

  pub set-places : (xs : List X) (k i : ℕ) (x : X) → i < length xs → set (places xs k) i (Some x) ≡ places (set xs i x) k
  set-places [] k i x within = absurd (omega arith)
  set-places (y ∷ xs) k zero x within = refl
  set-places (y ∷ xs) k (suc i) x within = ap (λ ps. Some y ∷ ps) (set-places xs k i x (omega arith))

  pub length-set_same : (xs : List X) (i : ℕ) (x : X) → length (set xs i x) ≡ length xs
  length-set_same [] i x = refl
  length-set_same (y ∷ xs) zero x = refl
  length-set_same (y ∷ xs) (suc i) x = ap suc (length-set_same xs i x)

  pub slice_get-places : (xs : List X) (k i : ℕ) (x : X) → i < length xs → get_or (places xs k) i None ≡ Some x → slice_get xs i ≡ Some x
  slice_get-places [] k i x within found = absurd (omega arith)
  slice_get-places (y ∷ xs) k zero x within found = found
  slice_get-places (y ∷ xs) k (suc i) x within found = slice_get-places xs k i x (omega arith) found

  pub slice_get-some : (xs : List X) (i : ℕ) → i < length xs → (x : X) × (slice_get xs i ≡ Some x)
  slice_get-some [] i within = absurd (omega arith)
  slice_get-some (x ∷ xs) zero within = (x, refl)
  slice_get-some (x ∷ xs) (suc i) within = slice_get-some xs i (omega arith)

  -- a list that has items is its items but for the last, and the last
  pub cut_end : (xs : List X) → 0 < length xs → (us : List X) × (x : X) × (xs ≡ us ++ x ∷ [])
  cut_end [] some = absurd (omega arith)
  cut_end (x ∷ []) some = ([], x, refl)
  cut_end (x ∷ y ∷ xs) some = let on = cut_end (y ∷ xs) (omega arith) in (x ∷ on.0, on.1, ap (λ l. x ∷ l) on.2)

  slice_get-end : (us : List X) (x : X) → slice_get (us ++ x ∷ []) (length us) ≡ Some x
  slice_get-end [] x = refl
  slice_get-end (y ∷ us) x = slice_get-end us x

  -- what a write into the first empty place leaves
  pub record Filled (slots : List (Option X)) (xs : List X) (n : ℕ) : Type 0 where
    pub laid : slots ≡ filled (somes slots) n
    pub items : somes slots ≡ xs

  pub Filled-of : (slots : List (Option X)) (xs : List X) (n : ℕ) → slots ≡ filled xs n → Filled slots xs n
  Filled-of slots xs n e =
      let items : somes slots ≡ xs = ap somes e ∙ somes-places xs (n - length xs) in
      record { laid = e ∙ ap (λ ys. filled ys n) (sym items); items = items }

  pub Filled-none : (slots : List (Option X)) (n : ℕ) → slots ≡ replicate n None → Filled slots [] n
  Filled-none slots n e = let all : n - 0 ≡ n = omega arith in Filled-of slots [] n (e ∙ ap (λ k. replicate k None) (sym all))

  pub Filled-push : (slots : List (Option X)) (n : ℕ) (x : X) → slots ≡ filled (somes slots) n
      → length (somes slots) < n → Filled (set slots (length (somes slots)) (Some x)) (somes slots ++ x ∷ []) n
  Filled-push slots n x laid room =
      let xs = somes slots in
      let k = n - length xs - 1 in
      let one : n - length xs ≡ suc k = omega arith in
      let rest : n - length (xs ++ x ∷ []) ≡ k = omega (arith, length_push xs x) in
      Filled-of _ (xs ++ x ∷ []) n
      (ap (λ ps. set ps (length xs) (Some x)) (laid ∙ ap (places xs) one) ∙ set-places_end xs k x ∙ ap (places (xs ++ x ∷ [])) (sym rest))

  pub Filled-set : (slots : List (Option X)) (n i : ℕ) (x : X) → slots ≡ filled (somes slots) n
      → i < length (somes slots) → Filled (set slots i (Some x)) (set (somes slots) i x) n
  Filled-set slots n i x laid within =
      let xs = somes slots in
      Filled-of _ (set xs i x) n
      (ap (λ ps. set ps i (Some x)) laid ∙ set-places xs (n - length xs) i x within ∙ ap (λ m. places (set xs i x) (n - m)) (sym (length-set_same xs i x)))

  -- what a read out of the last filled place leaves
  pub record Emptied (slots new : List (Option X)) (n : ℕ) (x : X) : Type 0 where
    pub rest : List X
    pub items : somes slots ≡ rest ++ x ∷ []
    pub filled-rest : Filled new rest n

  pub Emptied-pop : (slots : List (Option X)) (n i : ℕ) (x : X) → slots ≡ filled (somes slots) n → i + 1 ≡ length (somes slots)
      → length (somes slots) ≤ n → get_or slots i None ≡ Some x → Emptied slots (set slots i None) n x
  Emptied-pop slots n i x laid last within read =
      let xs = somes slots in
      let cut = cut_end xs (omega arith) in
      let us = cut.0 in let y = cut.1 in
      let long : length xs ≡ length us + 1 = ap length cut.2 ∙ length_push us y in
      let at : i ≡ length us = omega arith in
      let k = n - length xs in
      let there : get_or (places xs k) i None ≡ Some y =
      get_or-places xs k i y (ap (λ l. slice_get l i) cut.2 ∙ ap (slice_get (us ++ y ∷ [])) at ∙ slice_get-end us y) in
      let same : y ≡ x = let one : Some y ≡ Some x = sym there ∙ ap (λ ps. get_or ps i None) (sym laid) ∙ read in cc in
      let left : suc k ≡ n - length us = omega arith in
      record {
        rest = us;
        items = cut.2 ∙ ap (λ z. us ++ z ∷ []) same;
        filled-rest = Filled-of _ us n (ap (λ ps. set ps i None) (laid ∙ ap (λ l. places l k) cut.2)
            ∙ ap (λ j. set (places (us ++ y ∷ []) k) j None) at ∙ set-places_none us k y ∙ ap (places us) left);
      }
