use Rattle.std.proofs.Common.{List, ℕ, ◌++◌, ◌∷◌, [], ap, sym}
use Rattle.wire.proofs.WriteLemmas.{writes_on}
use Rattle.wire.proofs.write.write_word.Goals as goal

pub returns : goal.returns
returns g c = writes_on _ _ _ _ _ _ _ _ _ _ _ c.write_all-so_far.ensures c.more.ensures (ap (λ (xs : List ℕ). xs ++ 10 ∷ []) (sym c.as_bytes.ensures.value))
