use Rattle.std.proofs.Common.{ℕ, ◌*◌, ◌≤◌, unsigned_abs, length, map, All, List, [], ◌∷◌, ◌++◌, inl, inr, subst, arith}
use Rattle.std.specs.Prelude.{Contains, sum_by}
use Rattle.std.proofs.iter.Yields.{copies, fronts}
use Rattle.std.proofs.lemmas.Iterator.{YieldsList-from_slice}
use Rattle.std.proofs.lemmas.Iterator.Consumers.{YieldsList-at, YieldsList-from_copied}
use Rattle.std.proofs.lemmas.List.Elements.{All-head, All-tail, Contains-append_cases}
use Rattle.std.proofs.lemmas.List.Sums.{sum_by-cons, sum_by-append}
use Rattle.lists.proofs.Entries.{Contains-cases, none_in_empty}
use Rattle.lists.proofs.Iterators.{always_viewed}
use Rattle.fee_rate.specs.Limits.{IsRate}
use Rattle.fee_rate.specs.declared.limits.TheConstants.{MAX_FEE, MAX_SIZE}
use Rattle.fee_rate.specs.declared.rates.FeeRate.{FeeRate}
use Rattle.fee_rate.specs.declared.rates.Sum.{Sum}
use Rattle.graphs.specs.Rates.{sum_of}
use Rattle.diagram.specs.Parts.{rate_of}
use Rattle.replacement.specs.Merging.{FitTogether}
use Rattle.leaf_tests.proofs.replacement_tests.compared_with_tail.Goals as goal

abbrev fees : List FeeRate → ℕ
fees parts = sum_by (λ (part : Sum). unsigned_abs part.fee) (map rate_of parts)

few_fees : (parts : List FeeRate) → All IsRate parts → fees parts ≤ length parts * MAX_FEE
few_fees [] all = omega arith
few_fees (x ∷ xs) all =
    omega (
      arith,
      sum_by-cons (λ (part : Sum). unsigned_abs part.fee) (rate_of x) (map rate_of xs),
      few_fees xs (All-tail IsRate x xs all),
      (All-head IsRate x xs all).fee,
    )

few_sizes : (parts : List FeeRate) → All IsRate parts → (sum_of (map rate_of parts)).size ≤ length parts * MAX_SIZE
few_sizes [] all = omega arith
few_sizes (x ∷ xs) all =
    omega (
      arith,
      sum_by-cons (λ (part : Sum). part.size) (rate_of x) (map rate_of xs),
      few_sizes xs (All-tail IsRate x xs all),
      (All-head IsRate x xs all).size,
    )

few_some : (parts : List FeeRate) → All IsRate parts → (part : Sum) → Contains (map rate_of parts) part → 1 ≤ part.size
few_some [] all part h = absurd (none_in_empty part h)
few_some (x ∷ xs) all part h = elim (Contains-cases (rate_of x) part (map rate_of xs) h) [
  | inl it ↦ subst (λ (p : Sum). 1 ≤ p.size) it (All-head IsRate x xs all).some
  | inr later ↦ few_some xs (All-tail IsRate x xs all) part later
]

few_fit : (ones more : List FeeRate) → (length ones ≤ 8) × All IsRate ones → (length more ≤ 8) × All IsRate more
    → FitTogether (map rate_of ones ++ map rate_of more)
few_fit ones more one other = record {
  some = λ part h. elim (Contains-append_cases (map rate_of ones) (map rate_of more) part h) [
    | inl here ↦ few_some ones one.1 part here
    | inr there ↦ few_some more other.1 part there
  ];
  fees =
      omega (
        arith,
        sum_by-append (λ (part : Sum). unsigned_abs part.fee) (map rate_of ones) (map rate_of more),
        few_fees ones one.1,
        few_fees more other.1,
        one.0,
        other.0,
      );
  sizes =
      omega (
        arith,
        sum_by-append (λ (part : Sum). part.size) (map rate_of ones) (map rate_of more),
        few_sizes ones one.1,
        few_sizes more other.1,
        one.0,
        other.0,
      );
}

pub compare_with_tail-requires-clause-main : goal.compare_with_tail-requires-clause-main
compare_with_tail-requires-clause-main c =
    let ones = c.args.main_only.now in
    let more = c.args.tail.now in
    let road = YieldsList-from_copied (YieldsList-at c.copied.ensures.source (YieldsList-from_slice ones c.iter.ensures.rest)) in
    let behind = YieldsList-from_copied (YieldsList-at c.copied-3.ensures.source (YieldsList-from_slice more c.iter-3.ensures.rest)) in (
      map rate_of ones,
      map rate_of more,
      record {
        one = always_viewed (copies fronts) rate_of c.copied.result ones road.runs;
        other = always_viewed (copies fronts) rate_of c.copied-3.result more behind.runs;
        falling = c.requires.main.falling;
        more_falling = c.requires.tail.falling;
        fit = few_fit ones more c.requires.main_few c.requires.tail_few;
      },
    )

pub compare_with_tail-requires-clause-top : goal.compare_with_tail-requires-clause-top
compare_with_tail-requires-clause-top c =
    let ones = c.args.top_only.now in
    let more = c.args.tail.now in
    let road = YieldsList-from_copied (YieldsList-at c.copied-2.ensures.source (YieldsList-from_slice ones c.iter-2.ensures.rest)) in
    let behind = YieldsList-from_copied (YieldsList-at c.copied-4.ensures.source (YieldsList-from_slice more c.iter-4.ensures.rest)) in (
      map rate_of ones,
      map rate_of more,
      record {
        one = always_viewed (copies fronts) rate_of c.copied-2.result ones road.runs;
        other = always_viewed (copies fronts) rate_of c.copied-4.result more behind.runs;
        falling = c.requires.top.falling;
        more_falling = c.requires.tail.falling;
        fit = few_fit ones more c.requires.top_few c.requires.tail_few;
      },
    )
