use Rattle.std.proofs.Common.{◌≡◌, List, ℕ, ◌++◌, ◌∷◌, [], ap, sym, refl}
use Rattle.graph_model.specs.Refusals.{told_as}
use Rattle.wire.specs.Pieces.{number_after}
use Rattle.wire.proofs.WriteLemmas.{writes_on, goes_further, refusal_line}
use Rattle.wire.proofs.write.write_refusal.Goals as goal

pub returns : goal.returns
returns g c =
    let why = told_as c.args.refusal.now in
    let told : c.as_bytes.result.now ++ number_after c.kept.result ≡ why.word ++ number_after why.kept =
    rw (c.as_bytes.ensures.value, c.word.ensures, c.kept.ensures) refl in
    let both = goes_further _ _ _ _ _ _ _ _ _ _ _ (why.word ++ number_after why.kept) c.more-so_far.ensures c.more_kept-so_far.ensures (sym told) in
    writes_on _ _ _ _ _ _ _ _ _ _ _ (writes_on _ _ _ _ _ _ _ _ _ _ _ c.write_all-so_far.ensures both refl) c.more.ensures
    (ap (λ (xs : List ℕ). xs ++ 10 ∷ []) (refusal_line why.word why.kept))
