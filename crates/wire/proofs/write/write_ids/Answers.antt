use Rattle.std.proofs.Common.{◌≡◌, List, ℕ, ◌++◌, ◌∷◌, [], ap, ◌∙◌, refl, map, decimal}
use Rattle.graph_model.specs.Words.{spaced}
use Rattle.wire.specs.Pieces.{words_text, sum_words}
use Rattle.wire.proofs.WriteLemmas.{writes_on, goes_further, spaced_words, words_text-append}
use Rattle.wire.proofs.write.write_ids.Goals as goal

pub returns : goal.returns
returns g c =
    let sums = sum_words c.args.sums in
    let ids = map decimal c.args.ids.now in
    let both = goes_further _ _ _ _ _ _ _ _ _ _ _ _ c.more_sums-so_far.ensures c.more_numbers-so_far.ensures refl in
    let text : spaced (c.args.head.now ∷ (sums ++ ids)) ≡ c.as_bytes.result.now ++ (words_text sums ++ words_text ids) =
    rw c.as_bytes.ensures.value (spaced_words c.args.head.now (sums ++ ids) ∙ ap (λ (xs : List ℕ). c.args.head.now ++ xs) (words_text-append sums ids)) in
    writes_on _ _ _ _ _ _ _ _ _ _ _ (writes_on _ _ _ _ _ _ _ _ _ _ _ c.write_all-so_far.ensures both refl) c.more.ensures
    (ap (λ (xs : List ℕ). xs ++ 10 ∷ []) text)
