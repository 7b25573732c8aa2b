-- What is there is not missing.
use Rattle.std.proofs.Common.{◌≡◌, Option, None, is_some, IsSome, true≢false, sym, ap, ◌∙◌}

pub none_there : {X : Type 0} {o : Option X} → o ≡ None → IsSome o → ⊥
none_there missing there = true≢false (sym there ∙ ap is_some missing)
