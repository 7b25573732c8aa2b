-- Iterators whose items are known.
use Rattle.std.proofs.Common.{◌≡◌, List, [], ◌∷◌, Option, None, map, refl, sym, ap, subst}
use Rattle.std.specs.Iterator.{AlwaysYields, Yields}

-- items that are known are known through a view
pub always_viewed : {S A B : Type 0} (steps : S → Option A → S → Type 0) (v : A → B) (s : S) (items : List A)
    → AlwaysYields steps (λ x. x) s items → AlwaysYields steps v s (map v items)
always_viewed steps v s [] yields = yields
always_viewed steps v s (y ∷ ys) yields = (yields.0, λ x t step. let h = yields.1 x t step in (ap v h.0, always_viewed steps v t ys h.1))

-- what an iterator gave until it gave no more is all that it gives
pub all_given : {S A : Type 0} (steps : S → Option A → S → Type 0) (s t u : S) (xs list : List A) → AlwaysYields steps (λ x. x) s list
    → Yields steps s xs t → steps t None u → list ≡ xs
all_given steps s t u [] [] always yields ends = refl
all_given steps s t u [] (y ∷ list) always yields ends = absurd (always.0 u (subst (λ k. steps k None u) (sym yields) ends))
all_given steps s t u (x ∷ xs) [] always yields ends = absurd (always x yields.0 yields.1)
all_given steps s t u (x ∷ xs) (y ∷ list) always yields ends =
    let first = always.1 x yields.0 yields.1 in
    let rest = all_given steps yields.0 t u xs list first.1 yields.2 ends in
    λ i. sym first.0 i ∷ rest i
