-- What a reader would expect of the commands together: what `proof` and `load` write is answered `yes` by `check`.
use Rattle.std.specs.Prelude.{◌≡◌, ◌↔◌, ◌⊎◌, ℕ, ◌≤◌, List, length, codes, Contains, Option, Some, false}
use Rattle.std.specs.List.{zip}
use Rattle.std.specs.Io.KnownBytes.{Appends}
use Rattle.outside.specs.Transfers.{AppendsFront}
use Rattle.graphs.specs.declared.names.Level.{Level}
use Rattle.graphs.specs.Certificates.{Certified}
use Rattle.graph_model.specs.Words.{line_text}
use Rattle.graph_model.specs.Lines.{Means, Says, max_input}
use Rattle.graph_model.specs.Commands.{Proof, SetLimits}
use Rattle.graph_model.specs.declared.limits.TheConstants.{MAX_COUNT}
use Rattle.graph_model.specs.Limits.{Bounds, default_limits}
use Rattle.graph_model.specs.Dumps.{DumpText, Loads, FindsLoad}
use Rattle.graph_model.specs.Loads.{LoadWrites}
use Rattle.graph_model.specs.States.{State, start}
use Rattle.graph_model.specs.Oversize.{IsOversized}
use Rattle.graph_model.specs.declared.names.Refusal.TheVariants.{Oversized}
use Rattle.graph_model.specs.Validity.{IsValidState}
use Rattle.graph_model.specs.Replies.{Reply, Refused, text_of}
use Rattle.graph_model.specs.Steps.{Step}
use Rattle.graph_model.specs.Runs.{Answer, Replies, answer_text, Run}
use Rattle.graph_model.specs.Texts.{Verification, Found}
use Rattle.replay.specs.declared.session.TheConstants.{MOST_NAMES}
use Rattle.replay.specs.declared.top.Status.{Status}
use Rattle.replay.specs.declared.top.Status.TheVariants as statuses
use Rattle.replay.specs.Statuses.{EndsWell}
use Rattle.replay.specs.Checks.{Checks}
use Rattle.verification.specs.Verdicts.{IsVerified}

-- the line that `check` writes of a certificate
abbrev pub yes_text : List ℕ
yes_text = line_text (codes "yes")

-- What `check` has written, by status, where it can say nothing but `yes`: all of it at `Done`, a front of it where a write failed, and
-- nothing where a read failed or memory was short. There is no other end.
abbrev pub SaysYes : {K : Type 0} → Status → (K → Option (List ℕ)) → K → K → Type 0
SaysYes statuses.Done written old new = Appends (written old) (written new) yes_text
SaysYes statuses.No written old new = ⊥
SaysYes statuses.Usage written old new = ⊥
SaysYes statuses.ReadFault written old new = new ≡ old
SaysYes statuses.WriteFault written old new = AppendsFront (written old) (written new) yes_text
SaysYes statuses.NoMemory written old new = new ≡ old
SaysYes statuses.InputLimit written old new = ⊥

-- One thing can be said of these bytes, that they are a certificate. So where a source has just them, no more than may be read, `check`
-- says `yes` of them. Where it ends as it does without a fault, it has said so, or memory was short.
pub record AreAccepted {K : Type 0} (written : K → Option (List ℕ)) (bytes : List ℕ) : Type 0 where
  pub said : (said : Verification) → IsVerified bytes said ↔ (said ≡ Found Certified)
  pub answered : length bytes ≤ max_input → (status : Status) (left : Option (List ℕ)) (old new : K) → Checks status (Some bytes) left written old new
      → SaysYes status written old new × (EndsWell status → (status ≡ statuses.Done) ⊎ (status ≡ statuses.NoMemory))

-- no line sets limits that a dependency may pass
abbrev pub SetStrictly : List (List ℕ) → Type 0
SetStrictly lines = (line : List ℕ) (bounds : Bounds) → Contains lines line → Means line (Says (SetLimits bounds)) → bounds.defer ≡ false

-- In a valid state, where the level isn't oversized and a cluster may be allowed no more names than any graph can allow it, the text of the reply
-- to `proof` is accepted. So in every run from the start, whatever lines come before it, a line which says `proof` is answered by bytes that are
-- accepted, or by the refusal of an oversized level; and always by bytes that are accepted where no line lets a dependency pass the limits. So are
-- the bytes that `load` writes of a text that it accepts.
pub record CheckAcceptsProofs {K : Type 0} (written : K → Option (List ℕ)) : Type 0 where
  pub steps : (old new : State) (level : Level) (reply : Reply) → old.plain.most ≤ MAX_COUNT → IsValidState old → (IsOversized old.plain level → ⊥)
      → Step old (Proof level) reply new → AreAccepted written (text_of reply)
  pub runs : (lines : List (List ℕ)) (answers : List Answer) (end : State) → Run (start MOST_NAMES) lines answers end
      → (line : List ℕ) (level : Level) (answer : Answer) → Contains (zip lines answers) (line, answer) → Means line (Says (Proof level))
      → (answer ≡ Replies (Refused Oversized)) ⊎ AreAccepted written (answer_text answer)
  pub strict : (lines : List (List ℕ)) (answers : List Answer) (end : State) → Run (start MOST_NAMES) lines answers end → SetStrictly lines
      → (line : List ℕ) (level : Level) (answer : Answer) → Contains (zip lines answers) (line, answer) → Means line (Says (Proof level))
      → AreAccepted written (answer_text answer)
  pub loads : (bytes out : List ℕ) (text : DumpText) → FindsLoad default_limits bytes (Loads text) → LoadWrites MOST_NAMES default_limits (Loads text) out
      → AreAccepted written out
