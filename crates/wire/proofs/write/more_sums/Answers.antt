use Rattle.std.proofs.Common.{List, ℕ, ◌∷◌, ◌++◌, ap, sym, ◌∙◌, rules, FitsSigned, decimal, append-nil}
use Rattle.std.specs.Int.{w128}
use Rattle.std.specs.Fmt.{signed_decimal}
use Rattle.std.proofs.lemmas.Int.{to_z-of_z}
use Rattle.wire.specs.Pieces.{words_text, sum_words}
use Rattle.wire.proofs.WriteLemmas.{goes_further}
use Rattle.wire.proofs.write.more_sums.Goals as goal

pub returns-in-Some : goal.returns-in-Some
returns-in-Some g c =
    let fee = c.in-Some.sums.fee in
    let fits : FitsSigned w128 fee = search rules in
    let size = 32 ∷ decimal c.in-Some.sums.size in
    goes_further _ _ _ _ _ _ _ _ _ _ _ _ c.more_number-so_far.ensures c.more_number.ensures
    (ap (λ s. words_text (sum_words s)) c.in-Some.is ∙ ap (λ (xs : List ℕ). (32 ∷ signed_decimal fee) ++ xs) (append-nil size)
    ∙ ap (λ z. (32 ∷ signed_decimal z) ++ size) (sym (to_z-of_z w128 fee fits)))
