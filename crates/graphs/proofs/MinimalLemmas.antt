-- Whether a part can be cut further is told by the sums of its names and by the pairs.
use Rattle.std.proofs.Common.{◌≡◌, ℕ, List, Contains, sym, subst₂}
use Rattle.fee_rate.specs.declared.rates.Sum.{Sum}
use Rattle.fee_rate.specs.Rates.{Same}
use Rattle.graphs.proofs.AlikeLemmas.{sums_along}
use Rattle.graphs.specs.Minimal.{IsMinimal}

-- More pairs leave fewer closed sets, so that a part that couldn't be cut still can't.
pub uncut_with : (ra rb : ℕ → Sum) (few more : List (ℕ × ℕ)) (part : List ℕ) → ((a d : ℕ) → Contains few (a, d) → Contains more (a, d))
    → ((id : ℕ) → Contains part id → ra id ≡ rb id) → IsMinimal ra few part → IsMinimal rb more part
uncut_with ra rb few more part kept same minimal set closed some rate =
    minimal set (record { once = closed.once; inside = closed.inside; parents = λ a d pair. closed.parents a d (kept a d pair) }) some
    (subst₂ Same (sym (sums_along ra rb set (λ id here. same id (closed.inside id here)))) (sym (sums_along ra rb part same)) rate)
