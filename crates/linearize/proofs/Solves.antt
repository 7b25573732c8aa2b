-- How many steps some solves take together.
use Rattle.std.proofs.Common.{◌≡◌, ℕ, ◌+◌, ◌-◌, ◌*◌, ◌^◌, ◌<◌, ◌≤◌, inl, inr, List, [], ◌∷◌, ◌++◌, length, length-append, append_assoc, refl, ap, ◌∙◌, subst, arith}
use Rattle.std.proofs.Math.Nat.{mul-le-mul, mul-le-mul_right, pow-le-pow_left, pow-suc}
use Rattle.std.proofs.lemmas.List.Elements.{Contains-append_cases}
use Rattle.std.proofs.lemmas.List.Sums.{sum_by-cons, sum_by-append}
use Rattle.std.specs.Prelude.{Contains}
use Rattle.std.specs.List.{sum_by}
use Rattle.lists.proofs.Entries.{Contains-head, Contains-later, Contains-cases, none_in_empty}
use Rattle.closure_flow.specs.Bounds.{most_steps}
use Rattle.closure_flow.proofs.Powers.{fourth}
use Rattle.closure_flow.specs.Scratches.{Room, TakesSteps}
use Rattle.graphs.specs.Certificates.{Part}
use Rattle.linearize.specs.Drafts.{Written}
use Rattle.linearize.specs.Splits.{AddsOne}
use Rattle.linearize.specs.Steps.{AddsBySolves, AreAtLeast, AreOfOne, AreOfSolves, Cut, Cuts, IsSolve, Solve, Uncut, begun_by, parts_of, places_of, steps_of}

-- ---- sums of what each entry of a list gives
each_most : (f : Solve → ℕ) (xs : List Solve) (most : ℕ) → ((x : Solve) → Contains xs x → f x ≤ most) → sum_by f xs ≤ length xs * most
each_most f [] most h = omega arith
each_most f (x ∷ xs) most h = omega (arith, sum_by-cons f x xs, h x (Contains-head x xs), each_most f xs most (λ y m. h y (Contains-later x y xs m)))

one_least : (f : Solve → ℕ) (xs : List Solve) (x : Solve) → Contains xs x → f x ≤ sum_by f xs
one_least f [] x h = absurd (none_in_empty x h)
one_least f (y ∷ ys) x h = elim (Contains-cases y x ys h) [
  | inl same ↦ omega (arith, sum_by-cons f y ys, ap f same)
  | inr later ↦ omega (arith, sum_by-cons f y ys, one_least f ys x later)
]

-- ---- bounds grow with the number of places
more_steps : (m n : ℕ) → m ≤ n → most_steps m ≤ most_steps n
more_steps m n h =
    let base : m + 2 ≤ n + 2 = omega (arith, h) in
    omega (arith, base, pow-le-pow_left base 4)

wider : (m n : ℕ) (x : Solve) → m ≤ n → IsSolve m x → IsSolve n x
wider m n x h is = record { within = omega (arith, h, is.within); least = is.least; most = is.most; most_searched = is.most_searched }

-- ---- one solve, and one before those of two parts
pub nothing_taken : (n : ℕ) (room : Room) (steps : ℕ) → TakesSteps 0 (n * n) room room steps steps
nothing_taken n room steps = record { gave = omega arith; counted = omega arith; few = omega arith }

pub of_one : (n : ℕ) (old mid new : Room) (before middle after : ℕ) → before + n ≤ middle → TakesSteps n (most_steps n) old mid before middle
    → TakesSteps 0 (n * n) mid new middle after → AreOfOne n old new before after
of_one n old mid new before middle after least own searched =
    let k : ℕ = middle - before in
    let l : ℕ = after - middle in
    let solved : before + k ≡ middle = omega (arith, least) in
    let looked : middle + l ≡ after = (let gave = searched.gave in let counted = searched.counted in omega (arith, gave, counted)) in
    record {
      solve = record { places = n; steps = k; searched = l };
      is = record {
        within = omega arith;
        least = omega (arith, solved, least);
        most = (let few = own.few in omega (arith, solved, few));
        most_searched = (let few = searched.few in omega (arith, looked, few));
      };
      all = refl;
      sum = omega (arith, solved, looked);
      gave = (let a = own.gave in let b = searched.gave in omega (arith, a, b));
      counted = (let a = own.counted in let b = searched.counted in omega (arith, a, b));
    }

pub one_solve : (n : ℕ) (before after : Written) (old new : Room) (one two : ℕ) → 0 < n → AddsOne n before after → AreOfOne n old new one two
    → AddsBySolves n before.parts after.parts old new one two
one_solve n before after old new one two some adds own = (
  adds.part ∷ [],
  adds.is,
  record {
    solves = own.solve ∷ [];
    each = λ x h. elim (Contains-cases own.solve x [] h) as (λ _. IsSolve n x) [
      | inl same ↦ subst (λ (y : Solve). IsSolve n y) same own.is
      | inr later ↦ absurd (none_in_empty x later)
    ];
    all = (own.solve, Contains-head own.solve [], own.all);
    few = omega (arith, some);
    sum = (let sum = own.sum in omega (arith, sum, sum_by-cons (λ (x : Solve). steps_of x) own.solve []));
    cuts = Uncut adds.part;
    left = refl;
    whole = adds.places;
    gave = own.gave;
    counted = (let counted = own.counted in let places = adds.places in omega (arith, counted, places));
  },
)

pub two_solves : (n a b : ℕ) (front middle all : List Part) (r0 r1 r2 r3 : Room) (one two three four : ℕ) → n ≡ a + b → AreOfOne n r0 r1 one two
    → AddsBySolves a front middle r1 r2 two three → AddsBySolves b middle all r2 r3 three four
    → AddsBySolves n front all r0 r3 one four
two_solves n a b front middle all r0 r1 r2 r3 one two three four lens own (ps, is, first) (qs, then, second) = (
  ps ++ qs,
  then ∙ ap (λ (xs : List Part). xs ++ qs) is ∙ append_assoc front ps qs,
  record {
    solves = own.solve ∷ (first.solves ++ second.solves);
    each = λ x h. elim (Contains-cases own.solve x (first.solves ++ second.solves) h) as (λ _. IsSolve n x) [
      | inl same ↦ subst (λ (y : Solve). IsSolve n y) same own.is
      | inr later ↦ elim (Contains-append_cases first.solves second.solves x later) as (λ _. IsSolve n x) [
        | inl one_ ↦ wider a n x (omega (arith, lens)) (first.each x one_)
        | inr two_ ↦ wider b n x (omega (arith, lens)) (second.each x two_)
      ]
    ];
    all = (own.solve, Contains-head own.solve (first.solves ++ second.solves), own.all);
    few = omega (arith, length-append first.solves second.solves, first.few, second.few, lens);
    sum = (
        let sum = own.sum in
        omega (
          arith,
          sum,
          sum_by-cons (λ (x : Solve). steps_of x) own.solve (first.solves ++ second.solves),
          sum_by-append (λ (x : Solve). steps_of x) first.solves second.solves,
          first.sum,
          second.sum,
        ));
    cuts = Cut first.cuts second.cuts;
    left = ap (λ (xs : List Part). xs ++ qs) first.left ∙ ap (λ (xs : List Part). parts_of first.cuts ++ xs) second.left;
    whole = omega (arith, lens, first.whole, second.whole);
    gave = (let gave = own.gave in omega (arith, gave, first.gave, second.gave));
    counted = (
        let counted = own.counted in
        omega (arith, lens, counted, first.whole, second.whole, first.counted, second.counted));
  },
)

-- ---- what they are at least
pub at_least_one : (n : ℕ) (old new : Room) (before after : ℕ) → AreOfOne n old new before after → AreAtLeast n old new before after
at_least_one n old new before after one = record { gave = one.gave; least = (let counted = one.counted in omega (arith, counted)) }

pub at_least_both : (n a b : ℕ) (r0 r1 r2 : Room) (one two three : ℕ) → n ≤ a + b → AreAtLeast a r0 r1 one two → AreAtLeast b r1 r2 two three
    → AreAtLeast n r0 r2 one three
at_least_both n a b r0 r1 r2 one two three few first then = record {
  gave = omega (arith, first.gave, then.gave);
  least = omega (arith, few, first.least, then.least);
}

begun_least : (cuts : Cuts) → places_of cuts ≤ begun_by cuts
begun_least (Uncut part) = omega arith
begun_least (Cut first rest) = omega (arith, begun_least first, begun_least rest)

pub at_least_all : (n : ℕ) (parts : List Part) (old new : Room) (before after : ℕ) → AreOfSolves n parts old new before after
    → AreAtLeast n old new before after
at_least_all n parts old new before after s =
    record { gave = s.gave; least = omega (arith, s.counted, s.whole, begun_least s.cuts) }

-- ---- all of them
pub least_of : (n : ℕ) (parts : List Part) (old new : Room) (before after : ℕ) → AreOfSolves n parts old new before after → before + n ≤ after
least_of n parts old new before after s =
    let is = s.each s.all.0 s.all.1 in
    omega (arith, s.sum, s.all.2, is.least, one_least (λ (x : Solve). steps_of x) s.solves s.all.0 s.all.1)

-- fewer than 2 · n of them, with at most n · n steps more for each, leave four times the fourth power of n + 2 below the
-- bound
pub most_of : (n : ℕ) (parts : List Part) (old new : Room) (before after : ℕ) → AreOfSolves n parts old new before after
    → after + 4 * (n + 2) ^ 4 ≤ before + 2 * (n + 2) ^ 5
most_of n parts old new before after s =
    let most : ℕ = most_steps n + n * n in
    let each = each_most (λ (x : Solve). steps_of x) s.solves most (λ x h.
    (let is = s.each x h in
    let square = mul-le-mul is.within is.within in
    omega (arith, is.most, is.most_searched, square, more_steps x.places n is.within))) in
    let fewer : (length s.solves + 1) * most ≤ (2 * n) * most = mul-le-mul_right most s.few in
    bound n before after (length s.solves) (sum_by (λ (x : Solve). steps_of x) s.solves) ((n + 2) ^ 4) s.sum each fewer (fourth (n + 2)) (pow-suc (n + 2) 4)
  where
    bound : (n before after l sum x : ℕ) → after ≡ before + sum → sum ≤ l * (x + (n + 2) + n * n)
        → (l + 1) * (x + (n + 2) + n * n) ≤ (2 * n) * (x + (n + 2) + n * n)
        → x ≡ (n + 2) * (n + 2) * (n + 2) * (n + 2) → (n + 2) ^ 5 ≡ x * (n + 2)
        → after + 4 * x ≤ before + 2 * (n + 2) ^ 5
    bound n before after l sum x a b c d e = omega (arith, a, b, c, d, e)
