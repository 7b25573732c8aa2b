use Rattle.std.proofs.Common.{List, ℕ, ◌∷◌, ap, sym, ◌∙◌}
use Rattle.wire.proofs.WriteLemmas.{goes_further}
use Rattle.wire.proofs.write.more_number.Goals as goal

pub returns : goal.returns
returns g c = goes_further _ _ _ _ _ _ _ _ _ _ _ _ c.more-so_far.ensures c.more.ensures
    (ap (λ (xs : List ℕ). 32 ∷ xs) (sym (c.as_bytes.ensures.value ∙ c.format.ensures.text)))
