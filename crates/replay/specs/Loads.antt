-- What `load` does with a text, and what it writes.
use Rattle.std.specs.Prelude.{◌≡◌, ◌≢◌, ◌⊎◌, ℕ, List}
use Rattle.std.specs.Io.KnownBytes.{Appends}
use Rattle.std.specs.declared.option.Option.{Option}
use Rattle.outside.specs.Transfers.{AppendsFront}
use Rattle.graph_model.specs.Limits.{default_limits}
use Rattle.graph_model.specs.Dumps.{DumpText, LoadFinding, FindsLoad}
use Rattle.graph_model.specs.Dumps as dumps
use Rattle.graph_model.specs.Loads.{LoadWrites}
use Rattle.replay.specs.declared.input.End.TheVariants.{Told, Fault, Limit}
use Rattle.replay.specs.declared.session.TheConstants.{MOST_NAMES}
use Rattle.replay.specs.declared.top.Status.{Status}
use Rattle.replay.specs.declared.top.Status.TheVariants as statuses
use Rattle.replay.specs.Checks.{IsRead}
use Rattle.replay.specs.Inputs.{ReadsTo}

-- A text of which this is so was written: all of it, with the status for that, or a front of it, and a write failed.
abbrev pub Tells : Status → Status → (List ℕ → Type 0) → Option (List ℕ) → Option (List ℕ) → Type 0
Tells whole status IsSo old new =
    (text : List ℕ) × IsSo text × (((status ≡ whole) × Appends old new text) ⊎ ((status ≡ statuses.WriteFault) × AppendsFront old new text))

-- Under the limits at the start this is found of the bytes, and this text is to be written of it.
pub record IsAnswer (bytes : List ℕ) (finding : LoadFinding) (text : List ℕ) : Type 0 where
  pub finds : FindsLoad default_limits bytes finding
  pub writes : LoadWrites MOST_NAMES default_limits finding text

-- what was found of the bytes, and all that is to be written of it was written
abbrev pub IsLoaded : List ℕ → LoadFinding → Option (List ℕ) → Option (List ℕ) → Type 0
IsLoaded bytes finding old new = (text : List ℕ) × IsAnswer bytes finding text × Appends old new text

-- a front of what is to be written was written
abbrev pub IsLoadedInPart : List ℕ → Option (List ℕ) → Option (List ℕ) → Type 0
IsLoadedInPart bytes old new = (finding : LoadFinding) × (text : List ℕ) × IsAnswer bytes finding text × AppendsFront old new text

-- the text isn't accepted
abbrev pub IsRefused : LoadFinding → Type 0
IsRefused finding = (text : DumpText) → finding ≢ dumps.Loads text

-- these bytes are loaded: what was written, by status
abbrev pub LoadsBytes : {K : Type 0} → Status → List ℕ → (K → Option (List ℕ)) → K → K → Type 0
LoadsBytes statuses.Done bytes written old new = (text : DumpText) × IsLoaded bytes (dumps.Loads text) (written old) (written new)
LoadsBytes statuses.No bytes written old new = (finding : LoadFinding) × IsRefused finding × IsLoaded bytes finding (written old) (written new)
LoadsBytes statuses.Usage bytes written old new = ⊥
LoadsBytes statuses.ReadFault bytes written old new = ⊥
LoadsBytes statuses.WriteFault bytes written old new = IsLoadedInPart bytes (written old) (written new)
LoadsBytes statuses.NoMemory bytes written old new = new ≡ old
LoadsBytes statuses.InputLimit bytes written old new = ⊥

-- the source was read to its end, and of what was read this is so
abbrev pub IsReadWhole : Option (List ℕ) → Option (List ℕ) → (List ℕ → Type 0) → Type 0
IsReadWhole left_old left_new IsSo = (input : List ℕ) × ReadsTo Told left_old left_new input × IsSo input

-- `load`: what was read and what was written, by status. `Done` comes where the text is accepted, `No` where another thing is found of it. The
-- sink is as it was where the text wasn't read to its end, and where there was no memory.
abbrev pub Loads : {K : Type 0} → Status → Option (List ℕ) → Option (List ℕ) → (K → Option (List ℕ)) → K → K → Type 0
Loads statuses.Done left_old left_new written old new =
    IsReadWhole left_old left_new (λ input. (text : DumpText) × IsLoaded input (dumps.Loads text) (written old) (written new))
Loads statuses.No left_old left_new written old new =
    IsReadWhole left_old left_new (λ input. (finding : LoadFinding) × IsRefused finding × IsLoaded input finding (written old) (written new))
Loads statuses.Usage left_old left_new written old new = ⊥
Loads statuses.ReadFault left_old left_new written old new = IsRead Fault left_old left_new × (new ≡ old)
Loads statuses.WriteFault left_old left_new written old new = IsReadWhole left_old left_new (λ input. IsLoadedInPart input (written old) (written new))
Loads statuses.NoMemory left_old left_new written old new = new ≡ old
Loads statuses.InputLimit left_old left_new written old new = IsRead Limit left_old left_new × (new ≡ old)
