-- The first places are a set to solve.
use Rattle.std.proofs.Common.{◌≡◌, ℕ, ◌*◌, ◌<◌, ◌∙◌, sym, ap, subst, true, [], get_or, arith, length, lt-ltb, unsigned_abs}
use Rattle.std.specs.List.{sum_by}
use Rattle.std.specs.FinSet as set
use Rattle.bitset.specs.Places.{places}
use Rattle.bitset.specs.Sets.{contains-first_places}
use Rattle.closure_flow.specs.Closures.{IsBalanced, weight_at, weight_of}
use Rattle.closure_flow.specs.Scratches.{Flow, flow_of}
use Rattle.closure_flow.proofs.Optimum.{counted_some}
use Rattle.closure_flow.proofs.FirstPlaces.{small-first, weight-first, within-first}
use Rattle.order_tests.proofs.closure_flow_tests.tight_sets.Goals as goal

pub solve-requires : goal.solve-requires
solve-requires g c =
    let n : ℕ = 64 * g.row.W in
    let ws = c.args.weights.now in
    let e = c.first_n-all.ensures in
    let few = c.requires.words in
    let inside : (t : ℕ) → set.contains c.first_n-all.result t ≡ true
    → t < length ws = λ t m. within-first (length ws) t (ap (λ s. set.contains s t) (sym e) ∙ m) in (
      omega arith,
      (
        omega arith,
        (
          omega arith,
          (
            inside,
            (
              λ t m. subst (λ (k : ℕ). t < k) (sym c.requires.parents) (inside t m),
              (
                ap (weight_of n ws) e ∙ weight-first n ws c.requires.room ∙ c.requires.sum,
                omega (arith, ap (λ s. sum_by (λ t. unsigned_abs (weight_at ws t)) (places n s)) e ∙ small-first n ws c.requires.room, c.requires.small),
              ),
            ),
          ),
        ),
      ),
    )

pub tight-least-requires : goal.tight-least-requires
tight-least-requires g c =
    let ws = c.args.weights.now in
    let e = c.first_n-all.ensures in
    let inside : (t : ℕ) → set.contains c.first_n-all.result t ≡ true
    → t < length ws = λ t m. within-first (length ws) t (ap (λ s. set.contains s t) (sym e) ∙ m) in (
      omega arith,
      (
        omega arith,
        (
          λ t m. subst (λ (k : ℕ). t < k) (sym c.requires.parents) (inside t m),
          (
            (ws, c.in-Balanced.ensures.flow),
            ap (λ s. set.contains s c.args.place) e ∙ contains-first_places (length ws) c.args.place ∙ lt-ltb c.args.place (length ws) c.requires.place,
          ),
        ),
      ),
    )

pub smallest_tight-smallest-requires : goal.smallest_tight-smallest-requires
smallest_tight-smallest-requires g c =
    let n : ℕ = 64 * g.row.W in
    let ws = c.args.weights.now in
    let e = c.first_n-all.ensures in
    let all = c.first_n-all.result in
    let inside : (t : ℕ) → set.contains all t ≡ true → t < length ws = λ t m. within-first (length ws) t (ap (λ s. set.contains s t) (sym e) ∙ m) in
    let here : set.contains all c.args.place ≡ true =
    ap (λ s. set.contains s c.args.place) e ∙ contains-first_places (length ws) c.args.place ∙ lt-ltb c.args.place (length ws) c.requires.place in
    let balanced : IsBalanced n ws c.args.parents.now all (flow_of c.tight-least.new.scratch) =
    subst (λ (f : Flow). IsBalanced n ws c.args.parents.now all (λ d p. get_or (get_or f d []) p 0)) (sym c.tight-least.ensures.flow)
    c.in-Balanced.ensures.flow in (
      omega arith,
      (
        omega arith,
        (
          counted_some all c.args.place here,
          (λ t m. subst (λ (k : ℕ). t < k) (sym c.requires.parents) (inside t m), (ws, balanced)),
        ),
      ),
    )
