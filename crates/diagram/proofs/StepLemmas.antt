-- What an iterator gives: all of what it shows that is left, and one of its items where they are known.
use Rattle.std.proofs.Common.{◌≡◌, List, [], ◌∷◌, Option, Some, None, refl, sym, ◌∙◌}
use Rattle.std.specs.Iterator.{AlwaysYields, YieldsFirstBy}
use Rattle.lists.proofs.Entries.{not_empty, first_of, rest_of}

pub step_some : {S A B : Type 0} (steps : S → Option A → S → Type 0) (v : A → B) (s t : S) (x : A) (rest : List B)
    → AlwaysYields steps v s rest → steps s (Some x) t
    → (more : List B) × (rest ≡ v x ∷ more) × AlwaysYields steps v t more
step_some steps v s t x [] yields step = absurd (yields x t step)
step_some steps v s t x (y ∷ ys) yields step = let h = yields.1 x t step in (ys, (λ i. sym h.0 i ∷ ys), h.1)

pub step_none : {S A B : Type 0} (steps : S → Option A → S → Type 0) (v : A → B) (s t : S) (rest : List B)
    → AlwaysYields steps v s rest → steps s None t → rest ≡ []
step_none steps v s t [] yields step = refl
step_none steps v s t (y ∷ ys) yields step = absurd (yields.0 t step)

pub always_first : {A B : Type 0} (view : A → B) (s list : List B) → s ≡ list
    → AlwaysYields {S = List B} {A = A} (YieldsFirstBy view (λ rest. rest)) view s list
always_first view s [] is = λ x t step. not_empty (sym step ∙ is)
always_first view s (y ∷ ys) is = (
  λ t step. not_empty (sym is ∙ step.0),
  λ x t step. let both = sym step ∙ is in (first_of both, always_first view t ys (rest_of both)),
)
