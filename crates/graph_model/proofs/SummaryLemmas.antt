-- Runs over generated commands in which none lacks memory differ in picks alone, and so they have one summary.
use Rattle.std.proofs.Common.{◌≡◌, ℕ, ◌+◌, ◌^◌, ◌≤◌, suc, zero, cond, Bool, true, false, not, List, [], ◌∷◌, length, filter, None, Some, sym, refl, ap, subst, ◌∙◌, inl, inr, ◌⊎◌, arith, true≢false}
use Rattle.std.proofs.lemmas.List.Filters.{length-filter_both}
use Rattle.graphs.specs.declared.names.Level.TheVariants.{Main}
use Rattle.graphs.specs.Rates.{sums}
use Rattle.graphs.proofs.BestLemmas.{sums_same_members}
use Rattle.graph_model.specs.declared.names.Refusal.{Refusal}
use Rattle.graph_model.specs.States.{State, start, rate_of, sum_in}
use Rattle.graph_model.specs.Commands.{Command}
use Rattle.graph_model.specs.Replies.{Reply}
use Rattle.graph_model.specs.Refusals.{RefusalIs}
use Rattle.graph_model.specs.Steps.{Step, AcceptsPlainly}
use Rattle.graph_model.specs.Runs.{CommandsRun}
use Rattle.graph_model.specs.Validity.{IsValidState}
use Rattle.graph_model.specs.Generators.{Summary, IsSummary, drawn_command, commands_from, is_refused, is_for_memory}
use Rattle.graph_model.specs.SameLaws.{IsSameState}
use Rattle.graph_model.specs.GeneratorLaws.{SummariesAreFunctions}
use Rattle.graph_model.proofs.OneRefusal.{one_refusal}
use Rattle.graph_model.proofs.StepLemmas.{steps_keep_valid}
use Rattle.graph_model.proofs.SameLemmas.{state_back, of_equal}
use Rattle.graph_model.proofs.FunctionLemmas.{steps_are_functions, one_diagram, same_count}
use Rattle.graph_model.proofs.DrawnLemmas.{IsDrawn, drawn, drawn_types, drawn_reads, drawn_no_evict}
use Rattle.graph_model.proofs.RefusedLemmas.{refused_along}

-- ---- one step

-- a refused step leaves the state
record IsTurnedDown (old : State) (command : Command) (reply : Reply) (new : State) : Type 0 where
  pub why : Refusal
  pub first : RefusalIs old.plain command (Some why)
  pub told : is_refused reply ≡ true
  pub same : new ≡ old

record IsTaken (old : State) (command : Command) (reply : Reply) (new : State) : Type 0 where
  pub none : RefusalIs old.plain command None
  pub accepts : AcceptsPlainly old.picks old.plain command reply new.plain

-- where no memory was wanting, a step is one of these
split : (old new : State) (command : Command) (reply : Reply) → is_for_memory reply ≡ false → Step old command reply new
    → IsTurnedDown old command reply new ⊎ IsTaken old command reply new
split old new command reply enough step = elim step [
  | inl refused ↦ inl (record { why = refused.why; first = refused.first; told = ap is_refused refused.told; same = refused.same })
  | inr rest ↦ elim rest [
    | inl want ↦ elim want [
      | inl lacks ↦ absurd (true≢false (ap is_for_memory (sym lacks.told) ∙ enough))
      | inr gives ↦ absurd (true≢false (ap is_for_memory (sym gives.told) ∙ enough))
    ]
    | inr fine ↦ inr (record { none = fine.none; accepts = fine.accepts.plain })
  ]
]

no_reason : (why : Refusal) → Some why ≡ None → ⊥
no_reason why e = cc

-- from states that are the same, a drawn command leads to states that are the same, and is refused in both or in neither
step_once : (a b a' b' : State) (command : Command) (ra rb : Reply) → IsDrawn command → IsValidState a → IsValidState b → IsSameState a.plain b.plain
    → is_for_memory ra ≡ false → is_for_memory rb ≡ false → Step a command ra a' → Step b command rb b'
    → IsSameState a'.plain b'.plain × (is_refused ra ≡ is_refused rb)
step_once a b a' b' command ra rb is valid_a valid_b same enough_a enough_b one two = elim (split a a' command ra enough_a one) [
  | inl x ↦ elim (split b b' command rb enough_b two) [
    | inl y ↦ (
      of_equal a.plain b.plain a'.plain b'.plain (ap (λ (s : State). s.plain) x.same) (ap (λ (s : State). s.plain) y.same) same,
      x.told ∙ sym y.told,
    )
    | inr y ↦ absurd (no_reason x.why (one_refusal b.plain command (Some x.why) None (refused_along a.plain b.plain same (Some x.why) command x.first) y.none))
  ]
  | inr x ↦ elim (split b b' command rb enough_b two) [
    | inl y ↦ absurd (no_reason y.why
        (one_refusal a.plain command (Some y.why) None
        (refused_along b.plain a.plain (state_back a.plain b.plain same) (Some y.why) command y.first) x.none))
    | inr y ↦ (
      steps_are_functions.states a.picks b.picks a.plain b.plain a'.plain b'.plain command ra rb valid_a.plain valid_b.plain same
          (drawn_no_evict command is) x.accepts y.accepts,
      ap is_refused (steps_are_functions.replies a.picks b.picks a.plain b.plain a'.plain b'.plain command ra rb valid_a.plain valid_b.plain same
          (drawn_reads command is) x.accepts y.accepts),
    )
  ]
]

-- ---- a run

-- none of a list passes a test, so its first entry doesn't, and none of the others
none_first : (p : Reply → Bool) (x : Reply) (xs : List Reply) → length (filter p (x ∷ xs)) ≡ 0 → (p x ≡ false) × (length (filter p xs) ≡ 0)
none_first p x xs none = by (p x) none
  where
    by : (b : Bool) → length (cond b (x ∷ filter p xs) (filter p xs)) ≡ 0 → (b ≡ false) × (length (filter p xs) ≡ 0)
    by true more = absurd (omega (arith, more))
    by false rest = (refl, rest)

-- two lists whose first entries pass a test alike
as_many_first : (p : Reply → Bool) (x y : Reply) (xs ys : List Reply) → p x ≡ p y → length (filter p xs) ≡ length (filter p ys)
    → length (filter p (x ∷ xs)) ≡ length (filter p (y ∷ ys))
as_many_first p x y xs ys heads tails = by (p x) (p y) heads
  where
    by : (b c : Bool) → b ≡ c → length (cond b (x ∷ filter p xs) (filter p xs)) ≡ length (cond c (y ∷ filter p ys) (filter p ys))
    by true true same = ap suc tails
    by false false same = tails
    by true false same = absurd (true≢false same)
    by false true same = absurd (true≢false (sym same))

-- how two runs end: in valid states that are the same, with as many refusals and as many others
record EndAlike (a b : State) (ra rb : List Reply) : Type 0 where
  pub one : IsValidState a
  pub other : IsValidState b
  pub same : IsSameState a.plain b.plain
  pub refused : length (filter is_refused ra) ≡ length (filter is_refused rb)
  pub accepted : length (filter (λ reply. not (is_refused reply)) ra) ≡ length (filter (λ reply. not (is_refused reply)) rb)

runs_alike : (x k n : ℕ) (a b a' b' : State) (ra rb : List Reply) → k + n ≤ 2 ^ 64 → IsValidState a → IsValidState b → IsSameState a.plain b.plain
    → length (filter is_for_memory ra) ≡ 0 → length (filter is_for_memory rb) ≡ 0 → CommandsRun a (commands_from x k n) ra a'
    → CommandsRun b (commands_from x k n) rb b' → EndAlike a' b' ra rb
runs_alike x k zero a b a' b' [] [] small valid_a valid_b same enough_a enough_b one two = record {
  one = subst IsValidState (sym one) valid_a;
  other = subst IsValidState (sym two) valid_b;
  same = of_equal a.plain b.plain a'.plain b'.plain (ap (λ (s : State). s.plain) one) (ap (λ (s : State). s.plain) two) same;
  refused = refl;
  accepted = refl;
}
runs_alike x k zero a b a' b' [] (r ∷ rb) small valid_a valid_b same enough_a enough_b one two = absurd two
runs_alike x k zero a b a' b' (r ∷ ra) rb small valid_a valid_b same enough_a enough_b one two = absurd one
runs_alike x k (suc n) a b a' b' [] rb small valid_a valid_b same enough_a enough_b one two = absurd one
runs_alike x k (suc n) a b a' b' (r ∷ ra) [] small valid_a valid_b same enough_a enough_b one two = absurd two
runs_alike x k (suc n) a b a' b' (p ∷ ra) (q ∷ rb) small valid_a valid_b same enough_a enough_b one two =
    let command = (drawn_command k x).0 in
    let is : IsDrawn command = drawn k x (omega (arith, small)) in
    let types = drawn_types command is in
    let first_a = none_first is_for_memory p ra enough_a in
    let first_b = none_first is_for_memory q rb enough_b in
    let next = step_once a b one.0 two.0 command p q is valid_a valid_b same first_a.0 first_b.0 one.1 two.1 in
    let rest = runs_alike (drawn_command k x).1 (suc k) n one.0 two.0 a' b' ra rb (omega (arith, small))
    (steps_keep_valid.goes_on a one.0 command p types valid_a one.1) (steps_keep_valid.goes_on b two.0 command q types valid_b two.1) next.0
    first_a.1 first_b.1 one.2 two.2 in record {
      one = rest.one;
      other = rest.other;
      same = rest.same;
      refused = as_many_first is_refused p q ra rb next.1 rest.refused;
      accepted = as_many_first (λ reply. not (is_refused reply)) p q ra rb (ap not next.1) rest.accepted;
    }

-- ---- summaries

-- a run has one reply a command
one_each : (x k n : ℕ) (old new : State) (replies : List Reply) → CommandsRun old (commands_from x k n) replies new → length replies ≡ n
one_each x k zero old new [] run = refl
one_each x k zero old new (r ∷ replies) none = absurd none
one_each x k (suc n) old new [] none = absurd none
one_each x k (suc n) old new (r ∷ replies) run = ap suc (one_each (drawn_command k x).1 (suc k) n run.0 new replies run.2)

same_summary : (a b : Summary) → a.accepted ≡ b.accepted → a.refused ≡ b.refused → a.memory ≡ b.memory → a.count ≡ b.count → a.total ≡ b.total
    → a.corners ≡ b.corners → a ≡ b
same_summary a b accepted refused memory count total corners i =
    record { accepted = accepted i; refused = refused i; memory = memory i; count = count i; total = total i; corners = corners i }

summed_up : (a b : State) (ra rb : List Reply) (s t : Summary) → EndAlike a b ra rb → IsSummary ra a.plain s → IsSummary rb b.plain t → s.memory ≡ 0
    → t.memory ≡ 0 → s ≡ t
summed_up a b ra rb s t ends one two none_a none_b =
    let same = ends.same in
    let one_valid = ends.one.plain in
    let other_valid = ends.other.plain in
    let of_a = one.refused in
    let of_b = two.refused in
    let many = ends.refused in
    let rates : rate_of a.plain.table ≡ rate_of b.plain.table = λ i id. sum_in (same.table id i) in
    same_summary s t (one.accepted ∙ ends.accepted ∙ sym two.accepted) (omega (arith, of_a, of_b, many, none_a, none_b)) (none_a ∙ sym none_b)
    (one.count ∙ same_count a.plain b.plain one_valid other_valid same Main ∙ sym two.count)
    (one.total ∙ ap (λ rate. sums rate a.plain.main.names) rates
    ∙ sums_same_members (rate_of b.plain.table) a.plain.main.names b.plain.main.names one_valid.main.whole.names other_valid.main.whole.names same.main.names
    ∙ sym two.total)
    (one.corners ∙ ap (λ points. length points) (one_diagram a.plain b.plain one_valid other_valid same Main one.points two.points one.diagram two.diagram)
    ∙ sym two.corners)

start_same : (most : ℕ) → IsSameState (start most).plain (start most).plain
start_same most = record {
  limits = refl;
  most = refl;
  begun = refl;
  table = λ id. refl;
  main = record { names = λ id. (λ here. here, λ here. here); pairs = λ x y. (λ here. here, λ here. here) };
  staging = tt;
  blocks = tt;
}

pub summaries_are_functions : SummariesAreFunctions
summaries_are_functions = record {
  each = λ most seed count summary (replies, end, run, told).
      let both = length-filter_both is_refused (λ reply. not (is_refused reply)) (λ reply. refl) replies in
      let all = one_each seed 1 count (start most) end replies run in
      let accepted = told.accepted in
      let refused = told.refused in
      omega (arith, both, all, accepted, refused);
  one = λ most seed count a b low range (ra, end_a, run_a, told_a) (rb, end_b, run_b, told_b) none_a none_b.
      let valid = steps_keep_valid.begins most low in
      let few = range.1 in
      summed_up end_a end_b ra rb a b
      (runs_alike seed 1 count (start most) (start most) end_a end_b ra rb (omega (arith, few)) valid valid (start_same most) (sym told_a.memory ∙ none_a)
      (sym told_b.memory ∙ none_b) run_a run_b) told_a told_b none_a none_b;
}
