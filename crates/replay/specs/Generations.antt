-- `gen`: how commands that a number gives were answered, and what is written of it.
use Rattle.std.specs.Prelude.{◌≡◌, ℕ, ◌+◌, ℤ, pos, List, [], ◌∷◌, length, filter, not, flat_map}
use Rattle.std.specs.Io.KnownBytes.{Appends}
use Rattle.std.specs.declared.option.Option.{Option}
use Rattle.fee_rate.specs.declared.rates.Sum.{Sum}
use Rattle.graphs.specs.Diagrams.{AreCorners}
use Rattle.graphs.specs.Rates.{sums}
use Rattle.outside.specs.Transfers.{AppendsFront}
use Rattle.graph_model.specs.Words.{line_text}
use Rattle.graph_model.specs.Replies.{Reply}
use Rattle.graph_model.specs.States.{PlainState, State, start, rate_of}
use Rattle.graph_model.specs.Runs.{CommandsRun}
use Rattle.graph_model.specs.Generators.{Summary, Summarizes, generated, is_refused, is_for_memory, summary_lines}
use Rattle.reorg.specs.Kept.{Kept, StandsFor}
use Rattle.replay.specs.declared.session.TheConstants.{MOST_NAMES}
use Rattle.replay.specs.declared.tally.Tally.{Tally}
use Rattle.replay.specs.declared.totals.Totals.{Totals}
use Rattle.replay.specs.declared.top.Status.{Status}
use Rattle.replay.specs.declared.top.Status.TheVariants as statuses

-- how many replies there are of each kind
pub record IsTally (replies : List Reply) (tally : Tally) : Type 0 where
  pub accepted : tally.accepted ≡ length (filter (λ reply. not (is_refused reply)) replies)
  pub memory : tally.memory ≡ length (filter is_for_memory replies)
  pub refused : tally.refused + tally.memory ≡ length (filter is_refused replies)

-- of main: how many names there are, their sums, and how many corners
pub record AreTotals (state : PlainState) (totals : Totals) : Type 0 where
  pub count : totals.count ≡ length state.main.names
  pub total : totals.total ≡ sums (rate_of state.table) state.main.names
  pub points : List (ℕ × ℤ)
  pub diagram : AreCorners (rate_of state.table) state.main points
  pub corners : totals.corners ≡ length points

-- the last of some corners, as a sum; nothing where there is none
abbrev pub last_sum : List (ℕ × ℤ) → Sum
last_sum [] = record { fee = pos 0; size = 0 }
last_sum (point ∷ []) = record { fee = point.1; size = point.0 }
last_sum (point ∷ next ∷ points) = last_sum (next ∷ points)

-- From the start, the commands that the seed gives may be answered with this tally, and lead to a state that the session stands for now.
pub record IsPlayed (seed count : ℕ) (kept : Kept) (tally : Tally) : Type 0 where
  pub replies : List Reply
  pub state : State
  pub stands : StandsFor kept state
  pub run : CommandsRun (start MOST_NAMES) (generated seed count) replies state
  pub counted : IsTally replies tally

-- the tally and the totals as one summary
abbrev pub summary_of : Tally → Totals → Summary
summary_of tally totals = record {
  accepted = tally.accepted;
  refused = tally.refused;
  memory = tally.memory;
  count = totals.count;
  total = totals.total;
  corners = totals.corners;
}

abbrev pub summary_text : Summary → List ℕ
summary_text summary = flat_map line_text (summary_lines summary)

-- the summary of such a run was written
abbrev pub WritesSummary : ℕ → ℕ → Option (List ℕ) → Option (List ℕ) → Type 0
WritesSummary seed count old new = (summary : Summary) × Summarizes MOST_NAMES seed count summary × Appends old new (summary_text summary)

-- a front of it was written
abbrev pub WritesSummaryFront : ℕ → ℕ → Option (List ℕ) → Option (List ℕ) → Type 0
WritesSummaryFront seed count old new = (summary : Summary) × Summarizes MOST_NAMES seed count summary × AppendsFront old new (summary_text summary)

-- `gen` with this seed and this number of commands: what was written, by status
abbrev pub Generates : {K : Type 0} → Status → ℕ → ℕ → (K → Option (List ℕ)) → K → K → Type 0
Generates statuses.Done seed count written old new = WritesSummary seed count (written old) (written new)
Generates statuses.No seed count written old new = ⊥
Generates statuses.Usage seed count written old new = ⊥
Generates statuses.ReadFault seed count written old new = ⊥
Generates statuses.WriteFault seed count written old new = WritesSummaryFront seed count (written old) (written new)
Generates statuses.NoMemory seed count written old new = new ≡ old
Generates statuses.InputLimit seed count written old new = ⊥
