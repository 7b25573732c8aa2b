-- The first places are a set to solve.
use Rattle.std.proofs.Common.{◌≡◌, ℕ, ◌*◌, ◌<◌, ◌∙◌, sym, ap, subst, true, arith, length, unsigned_abs}
use Rattle.std.specs.List.{sum_by}
use Rattle.std.specs.FinSet as set
use Rattle.bitset.specs.Places.{places}
use Rattle.closure_flow.specs.Closures.{weight_at, weight_of}
use Rattle.closure_flow.proofs.FirstPlaces.{small-first, weight-first, within-first}
use Rattle.order_tests.proofs.closure_flow_tests.solved.Goals as goal

pub solve-requires : goal.solve-requires
solve-requires g c =
    let n : ℕ = 64 * g.row.W in
    let ws = c.args.weights.now in
    let e = c.first_n-all.ensures in
    let few = c.requires.words in
    let inside : (t : ℕ) → set.contains c.first_n-all.result t ≡ true
    → t < length ws = λ t m. within-first (length ws) t (ap (λ s. set.contains s t) (sym e) ∙ m) in (
      omega arith,
      (
        omega arith,
        (
          omega arith,
          (
            inside,
            (
              λ t m. subst (λ (k : ℕ). t < k) (sym c.requires.parents) (inside t m),
              (
                ap (weight_of n ws) e ∙ weight-first n ws c.requires.room ∙ c.requires.sum,
                omega (arith, ap (λ s. sum_by (λ t. unsigned_abs (weight_at ws t)) (places n s)) e ∙ small-first n ws c.requires.room, c.requires.small),
              ),
            ),
          ),
        ),
      ),
    )
