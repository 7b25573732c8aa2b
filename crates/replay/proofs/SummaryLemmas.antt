-- What is told of main at the end of a run.
use Rattle.std.proofs.Common.{◌≡◌, ℕ, ℤ, ◌+◌, ◌+ℤ◌, pos, List, [], ◌∷◌, length, refl, ap, subst, ◌∙◌, arith, inl, inr}
use Rattle.std.proofs.lemmas.Int.{ints}
use Rattle.std.proofs.lemmas.List.Sums.{sum_by-append}
use Rattle.fee_rate.specs.declared.rates.Sum.{Sum}
use Rattle.graphs.specs.declared.names.Level.TheVariants.{Main}
use Rattle.graphs.specs.Rates.{sum_of}
use Rattle.graphs.specs.Diagrams.{AreCorners, ends_from, corners_of}
use Rattle.graph_model.specs.declared.names.Refusal.{Refusal}
use Rattle.graph_model.specs.States.{State, rate_of}
use Rattle.graph_model.specs.Commands.{Diagram, Count}
use Rattle.graph_model.specs.Replies.{Refused, Points, Number}
use Rattle.graph_model.specs.Steps.{Step}
use Rattle.graph_model.specs.Generators.{Summarizes}
use Rattle.tx_graph.specs.Kept as graphs
use Rattle.reorg.specs.Kept.{Kept, StandsFor}
use Rattle.replay.specs.declared.session.TheConstants.{MOST_NAMES}
use Rattle.replay.specs.declared.tally.Tally.{Tally}
use Rattle.replay.specs.declared.totals.Totals.{Totals}
use Rattle.replay.specs.Generations.{IsPlayed, AreTotals, summary_of, last_sum}

same_sum : (a b : Sum) → a.fee ≡ b.fee → a.size ≡ b.size → a ≡ b
same_sum a b fees sizes i = record { fee = fees i; size = sizes i }

-- the last corner is the sum of the segments before it
last_from : (origin : Sum) (parts : List Sum) (end : Sum) → end.fee ≡ origin.fee +ℤ (sum_of parts).fee → end.size ≡ origin.size + (sum_of parts).size
    → last_sum ((origin.size, origin.fee) ∷ ends_from origin parts) ≡ end
last_from origin [] end fees sizes = same_sum origin end (omega (arith, ints, fees)) (omega (arith, sizes))
last_from origin (part ∷ parts) end fees sizes =
    let more_fee : (sum_of (part ∷ parts)).fee ≡ part.fee +ℤ (sum_of parts).fee = refl in
    let more_size : (sum_of (part ∷ parts)).size ≡ (0 + part.size) + (sum_of parts).size = sum_by-append (λ (p : Sum). p.size) (part ∷ []) parts in
    last_from (record { fee = origin.fee +ℤ part.fee; size = origin.size + part.size }) parts end (omega (arith, ints, fees, more_fee))
    (omega (arith, sizes, more_size))

last_is_whole : (segments : List Sum) → last_sum (corners_of segments) ≡ sum_of segments
last_is_whole segments = last_from (record { fee = pos 0; size = 0 }) segments (sum_of segments) (omega (arith, ints)) (omega arith)

no_refusal_points : (why : Refusal) (points : List (ℕ × ℤ)) → Points points ≡ Refused why → ⊥
no_refusal_points why points e = cc

no_refusal_number : (why : Refusal) (n : ℕ) → Number n ≡ Refused why → ⊥
no_refusal_number why n e = cc

points_are : (a b : List (ℕ × ℤ)) → Points a ≡ Points b → b ≡ a
points_are a b e = cc

number_is : (m n : ℕ) → Number m ≡ Number n → m ≡ n
number_is m n e = cc

-- what a reading of main's corners tells of a state
pub points_told : (state next : State) (points : List (ℕ × ℤ)) → Step state (Diagram Main) (Points points) next
    → AreCorners (rate_of state.plain.table) state.plain.main points
points_told state next points step = elim step [
  | inl refused ↦ absurd (no_refusal_points refused.why points refused.told)
  | inr rest ↦ elim rest [
    | inl want ↦ elim want [
      | inl lacks ↦ absurd (no_refusal_points _ points lacks.told)
      | inr gives ↦ absurd (no_refusal_points _ points gives.told)
    ]
    | inr accepted ↦
        let answer = accepted.accepts.plain.answer in
        subst (AreCorners (rate_of state.plain.table) state.plain.main) (points_are points answer.0 answer.2) answer.1
  ]
]

-- and a count of its names
pub number_told : (state next : State) (n : ℕ) → Step state (Count Main) (Number n) next → n ≡ length state.plain.main.names
number_told state next n step = elim step [
  | inl refused ↦ absurd (no_refusal_number refused.why n refused.told)
  | inr rest ↦ elim rest [
    | inl want ↦ elim want [
      | inl lacks ↦ absurd (no_refusal_number _ n lacks.told)
      | inr gives ↦ absurd (no_refusal_number _ n gives.told)
    ]
    | inr accepted ↦ number_is n (length state.plain.main.names) accepted.accepts.plain.answer
  ]
]

pub totals_are : (kept : graphs.Kept) (totals : Totals) (points : List (ℕ × ℤ)) → graphs.MakesStep kept kept (Diagram Main) (Points points)
    → graphs.MakesStep kept kept (Count Main) (Number totals.count) → totals.corners ≡ length points → totals.total ≡ last_sum points
    → (state : State) → graphs.StandsFor kept state → AreTotals state.plain totals
totals_are kept totals points draws counts corners last state stands =
    let drawn = draws state stands in
    let counted = counts state stands in
    let told = points_told state drawn.0 points drawn.2 in record {
      count = number_told state counted.0 totals.count counted.2;
      total = last ∙ ap last_sum told.between ∙ last_is_whole told.segments ∙ told.whole;
      points = points;
      diagram = told;
      corners = corners;
    }

pub summarizes : (seed count : ℕ) (kept : Kept) (tally : Tally) (totals : Totals) → IsPlayed seed count kept tally
    → ((state : State) → StandsFor kept state → AreTotals state.plain totals) → Summarizes MOST_NAMES seed count (summary_of tally totals)
summarizes seed count kept tally totals played of_main =
    let main = of_main played.state played.stands in (
      played.replies,
      played.state,
      played.run,
      record {
        accepted = played.counted.accepted;
        memory = played.counted.memory;
        refused = played.counted.refused;
        count = main.count;
        total = main.total;
        points = main.points;
        diagram = main.diagram;
        corners = main.corners;
      },
    )
