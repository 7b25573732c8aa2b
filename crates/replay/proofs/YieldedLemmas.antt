-- What an iterator gave, at its end.
use Rattle.std.proofs.Common.{◌≡◌, List, [], ◌++◌, sym, ap, ◌∙◌, append-nil}

-- where nothing is left, what it gave is all
pub gave_all : {A : Type 0} (all front rest : List A) → all ≡ front ++ rest → rest ≡ [] → front ≡ all
gave_all {A} all front rest is none = sym (is ∙ ap (λ (more : List A). front ++ more) none ∙ append-nil front)
