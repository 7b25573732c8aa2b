-- Lists that begin alike, and what holds of all entries of a front or a rest.
use Rattle.std.proofs.Common.{◌≡◌, List, [], ◌∷◌, ◌++◌, ◌⊎◌, inl, inr, refl, sym, ap}
use Rattle.std.specs.Prelude.{All}
use Rattle.std.proofs.lemmas.List.Elements.{All-cons, All-head, All-tail, All-nil}

-- of two cuts of one list, the shorter front begins the longer one
pub compare_fronts : {A : Type 0} (xs ys zs ws : List A) → xs ++ ys ≡ zs ++ ws
    → ((t : List A) × (zs ≡ xs ++ t) × (ys ≡ t ++ ws)) ⊎ ((t : List A) × (xs ≡ zs ++ t) × (ws ≡ t ++ ys))
compare_fronts [] ys zs ws e = inl (zs, refl, e)
compare_fronts (x ∷ xs) ys [] ws e = inr (x ∷ xs, refl, sym e)
compare_fronts (x ∷ xs) ys (z ∷ zs) ws e =
    let tails : xs ++ ys ≡ zs ++ ws = (cc) in
    let heads : x ≡ z = (cc) in
    elim (compare_fronts xs ys zs ws tails) [
      | inl (t, p, q) ↦ inl (t, cc, q)
      | inr (t, p, q) ↦ inr (t, cc, q)
    ]

-- a list that isn't empty has a last entry
pub last_split : {A : Type 0} (x : A) (xs : List A) → (ys : List A) × (y : A) × (x ∷ xs ≡ ys ++ (y ∷ []))
last_split x [] = ([], x, refl)
last_split x (z ∷ zs) =
    let (ys, y, e) = last_split z zs in (x ∷ ys, y, ap (λ l. x ∷ l) e)
