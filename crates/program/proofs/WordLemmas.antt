-- The words of the command line, taken out of their iterator.
use Rattle.std.proofs.Common.{◌≡◌, List, [], ◌∷◌, ◌++◌, length, ◌∙◌, ap, sym, append-nil, refl, None, arith}
use Rattle.std.specs.Iterator.{Yields}
use Rattle.std.specs.Vec.Iter.{into_iter_items, into_iter_steps}
use Rattle.std.specs.declared.vec.IntoIter.{IntoIter}

-- what an iterator of a list has given is the front of its items
taken_front : {X Z : Type 0} (s : IntoIter X Z) (xs : List X) (t : IntoIter X Z) → Yields into_iter_steps s xs t → into_iter_items s ≡ xs ++ into_iter_items t
taken_front s [] t y = ap into_iter_items y
taken_front s (x ∷ xs) t y = y.1.0 ∙ ap (λ ys. x ∷ ys) (taken_front y.0 xs t y.2)

none_left : {X : Type 0} (xs : List X) → length xs ≡ 0 → xs ≡ []
none_left [] e = refl
none_left (x ∷ xs) e = absurd (omega (arith, e))

-- and at its end all of them
pub all_taken : {X Z : Type 0} (s : IntoIter X Z) (xs : List X) (t u : IntoIter X Z) → Yields into_iter_steps s xs t → into_iter_steps t None u
    → xs ≡ into_iter_items s
all_taken s xs t u y end =
    sym (taken_front s xs t y ∙ ap (λ ys. xs ++ ys) (none_left (into_iter_items t) (sym t.rest.ok.0 ∙ end.0)) ∙ append-nil xs)
