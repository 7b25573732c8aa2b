-- What a walk gave, and what is still to come.
use Rattle.std.proofs.Common.{◌≡◌, List, [], ◌∷◌, ◌++◌, map, sym, ap, ◌∙◌, append_assoc, append-nil}
use Rattle.std.specs.Prelude.{flat_map}
use Rattle.std.proofs.lemmas.List.{map-append}
use Rattle.std.proofs.lemmas.List.Concat.{flat_map-append}

pub rest_same : {A : Type 0} (all given now next : List A) (x : A) → all ≡ given ++ now → now ≡ x ∷ next → all ≡ (given ++ x ∷ []) ++ next
rest_same all given now next x is step = is ∙ ap (λ (ys : List _). given ++ ys) step ∙ sym (append_assoc given (x ∷ []) next)

pub rest_on : {A B : Type 0} (f : A → B) (all : List B) (given : List A) (now next : List B) (x : A) → all ≡ map f given ++ now → now ≡ f x ∷ next
    → all ≡ map f (given ++ x ∷ []) ++ next
rest_on f all given now next x is step =
    rest_same all (map f given) now next (f x) is step ∙ ap (λ (ys : List _). ys ++ next) (sym (map-append f given (x ∷ [])))

-- where nothing is left, what it gave is all
pub gave_all : {A : Type 0} (all given rest : List A) → all ≡ given ++ rest → rest ≡ [] → given ≡ all
gave_all {A} all given rest is none = sym (is ∙ ap (λ (more : List A). given ++ more) none ∙ append-nil given)

-- what is made of one more, behind what was made of the others
pub flat_map_push : {A B C : Type 0} (g : B → List C) (f : A → B) (given : List A) (x : A)
    → flat_map g (map f (given ++ x ∷ [])) ≡ flat_map g (map f given) ++ g (f x)
flat_map_push g f given x =
    ap (flat_map g) (map-append f given (x ∷ [])) ∙ flat_map-append g (map f given) (f x ∷ []) ∙ ap (λ (ys : List _). flat_map g (map f given) ++ ys)
    (append-nil (g (f x)))
