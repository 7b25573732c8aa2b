-- How the program ends.
use Rattle.std.specs.Prelude.{◌≡◌, ◌⊎◌, ℕ, List, codes, Bool, true, false}
use Rattle.std.specs.Io.KnownBytes.{Appends}
use Rattle.std.specs.declared.option.Option.{Option}
use Rattle.outside.specs.Faults.{Rose}
use Rattle.outside.specs.Transfers.{AppendsFront}
use Rattle.graph_model.specs.Words.{line_text}
use Rattle.graph_model.specs.CommandLines as commands
use Rattle.command_line.specs.Words as command_line
use Rattle.replay.specs.declared.input.End.{End}
use Rattle.replay.specs.declared.input.End.TheVariants.{Told, Fault, Limit}
use Rattle.replay.specs.declared.top.Status.{Status}
use Rattle.replay.specs.declared.top.Status.TheVariants as statuses
use Rattle.replay.specs.Inputs.{ReadsTo}
use Rattle.replay.specs.Outputs.{WritesOutput, WritesFront}

-- the command line takes the words, and they ask for `replay`
abbrev pub AreReplay : List (List ℕ) → Type 0
AreReplay words = command_line.AsksFor words commands.Replays

-- they ask for `check`
abbrev pub AreCheck : List (List ℕ) → Type 0
AreCheck words = command_line.AsksFor words commands.Checks

-- they ask for `load`
abbrev pub AreLoad : List (List ℕ) → Type 0
AreLoad words = command_line.AsksFor words commands.Loads

-- they ask for `gen` with this seed and this number of commands
abbrev pub AreGen : List (List ℕ) → ℕ → ℕ → Type 0
AreGen words seed count = command_line.AsksFor words (commands.Generates seed count)

-- they ask for nothing
abbrev pub AreRefused : List (List ℕ) → Type 0
AreRefused = command_line.AreRefused

abbrev pub usage_text : List ℕ
usage_text = line_text (codes "usage: txgraph replay | check | load | gen SEED COUNT")

-- the last line without a line feed counts where the source answered its end
abbrev pub is_told : End → Bool
is_told Told = true
is_told Fault = false
is_told Limit = false

-- The source was read so far, and the output for what was read was written whole.
pub record IsAnswered (end : End) (left_old left_new written_old written_new : Option (List ℕ)) : Type 0 where
  pub input : List ℕ
  pub read : ReadsTo end left_old left_new input
  pub output : WritesOutput (is_told end) input written_old written_new

-- The source was read somehow, and a front of the output for what was read was written.
pub record IsCutOff (left_old left_new written_old written_new : Option (List ℕ)) : Type 0 where
  pub end : End
  pub input : List ℕ
  pub read : ReadsTo end left_old left_new input
  pub output : WritesFront (is_told end) input written_old written_new

-- the status where everything that was read was answered
abbrev pub end_status : End → Status
end_status Told = statuses.Done
end_status Fault = statuses.ReadFault
end_status Limit = statuses.InputLimit

-- neither count of faults rose: that of the reads (before and after) and that of the writes
abbrev pub NoFaults : ℕ → ℕ → ℕ → ℕ → Type 0
NoFaults reads_old reads_new writes_old writes_new = (reads_new ≡ reads_old) × (writes_new ≡ writes_old)

-- The faults of source and sink by status. At most one read or one write fails, and it always shows in the status.
abbrev pub StatusFaults : Status → ℕ → ℕ → ℕ → ℕ → Type 0
StatusFaults statuses.Done reads_old reads_new writes_old writes_new = NoFaults reads_old reads_new writes_old writes_new
StatusFaults statuses.No reads_old reads_new writes_old writes_new = NoFaults reads_old reads_new writes_old writes_new
StatusFaults statuses.Usage reads_old reads_new writes_old writes_new = NoFaults reads_old reads_new writes_old writes_new
StatusFaults statuses.ReadFault reads_old reads_new writes_old writes_new = Rose reads_old reads_new × (writes_new ≡ writes_old)
StatusFaults statuses.WriteFault reads_old reads_new writes_old writes_new = (reads_new ≡ reads_old) × Rose writes_old writes_new
StatusFaults statuses.NoMemory reads_old reads_new writes_old writes_new = NoFaults reads_old reads_new writes_old writes_new
StatusFaults statuses.InputLimit reads_old reads_new writes_old writes_new = NoFaults reads_old reads_new writes_old writes_new

-- `replay`: what was read and what was written, by status. The sink is as it was where there was no memory.
abbrev pub Replays : {K : Type 0} → Status → Option (List ℕ) → Option (List ℕ) → (K → Option (List ℕ)) → K → K → Type 0
Replays statuses.Done left_old left_new written old new = IsAnswered Told left_old left_new (written old) (written new)
Replays statuses.No left_old left_new written old new = ⊥
Replays statuses.Usage left_old left_new written old new = ⊥
Replays statuses.ReadFault left_old left_new written old new = IsAnswered Fault left_old left_new (written old) (written new)
Replays statuses.WriteFault left_old left_new written old new = IsCutOff left_old left_new (written old) (written new)
Replays statuses.NoMemory left_old left_new written old new = new ≡ old
Replays statuses.InputLimit left_old left_new written old new = IsAnswered Limit left_old left_new (written old) (written new)

-- refused words: what was written, by status; nothing where there was no memory to parse them
abbrev pub Refuses : {K : Type 0} → Status → (K → Option (List ℕ)) → K → K → Type 0
Refuses statuses.Done written old new = ⊥
Refuses statuses.No written old new = ⊥
Refuses statuses.Usage written old new = Appends (written old) (written new) usage_text
Refuses statuses.ReadFault written old new = ⊥
Refuses statuses.WriteFault written old new = AppendsFront (written old) (written new) usage_text
Refuses statuses.NoMemory written old new = new ≡ old
Refuses statuses.InputLimit written old new = ⊥

-- Usage comes with refused words alone, and No with `check` and `load` alone
abbrev pub SuitsWords : Status → List (List ℕ) → Type 0
SuitsWords statuses.Done words = Unit {0}
SuitsWords statuses.No words = AreCheck words ⊎ AreLoad words
SuitsWords statuses.Usage words = AreRefused words
SuitsWords statuses.ReadFault words = Unit {0}
SuitsWords statuses.WriteFault words = Unit {0}
SuitsWords statuses.NoMemory words = Unit {0}
SuitsWords statuses.InputLimit words = Unit {0}

-- a command ends so where no read and no write fails
abbrev pub EndsWell : Status → Type 0
EndsWell statuses.Done = Unit {0}
EndsWell statuses.No = Unit {0}
EndsWell statuses.Usage = ⊥
EndsWell statuses.ReadFault = ⊥
EndsWell statuses.WriteFault = ⊥
EndsWell statuses.NoMemory = Unit {0}
EndsWell statuses.InputLimit = Unit {0}

-- the exit status of the program
abbrev pub status_code : Status → ℕ
status_code statuses.Done = 0
status_code statuses.No = 1
status_code statuses.Usage = 2
status_code statuses.ReadFault = 3
status_code statuses.WriteFault = 4
status_code statuses.NoMemory = 5
status_code statuses.InputLimit = 6
