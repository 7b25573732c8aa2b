-- What `check` says of a text, and what it writes.
use Rattle.std.specs.Prelude.{◌≡◌, ◌≢◌, ℕ, List}
use Rattle.std.specs.Io.KnownBytes.{Appends}
use Rattle.std.specs.declared.option.Option.{Option}
use Rattle.outside.specs.Transfers.{AppendsFront}
use Rattle.graphs.specs.Certificates.{Certified}
use Rattle.graph_model.specs.Texts.{Verification, Found, verification_text}
use Rattle.verification.specs.Verdicts.{IsVerified}
use Rattle.replay.specs.declared.input.End.{End}
use Rattle.replay.specs.declared.input.End.TheVariants.{Told, Fault, Limit}
use Rattle.replay.specs.declared.top.Status.{Status}
use Rattle.replay.specs.declared.top.Status.TheVariants as statuses
use Rattle.replay.specs.Inputs.{ReadsTo}

-- The source was read to its end, and what is said of the text was written.
pub record IsChecked (said : Verification) (left_old left_new written_old written_new : Option (List ℕ)) : Type 0 where
  pub input : List ℕ
  pub read : ReadsTo Told left_old left_new input
  pub verified : IsVerified input said
  pub written : Appends written_old written_new (verification_text said)

-- The source was read to its end, and a front of what is said of the text was written.
pub record IsCheckedInPart (left_old left_new written_old written_new : Option (List ℕ)) : Type 0 where
  pub said : Verification
  pub input : List ℕ
  pub read : ReadsTo Told left_old left_new input
  pub verified : IsVerified input said
  pub front : AppendsFront written_old written_new (verification_text said)

-- the source was read so far
pub record IsRead (end : End) (left_old left_new : Option (List ℕ)) : Type 0 where
  pub input : List ℕ
  pub read : ReadsTo end left_old left_new input

-- `check`: what was read and what was written, by status. The sink is as it was where the text wasn't read to its end, and where there
-- was no memory.
abbrev pub Checks : {K : Type 0} → Status → Option (List ℕ) → Option (List ℕ) → (K → Option (List ℕ)) → K → K → Type 0
Checks statuses.Done left_old left_new written old new = IsChecked (Found Certified) left_old left_new (written old) (written new)
Checks statuses.No left_old left_new written old new =
    (said : Verification) × (said ≢ Found Certified) × IsChecked said left_old left_new (written old) (written new)
Checks statuses.Usage left_old left_new written old new = ⊥
Checks statuses.ReadFault left_old left_new written old new = IsRead Fault left_old left_new × (new ≡ old)
Checks statuses.WriteFault left_old left_new written old new = IsCheckedInPart left_old left_new (written old) (written new)
Checks statuses.NoMemory left_old left_new written old new = new ≡ old
Checks statuses.InputLimit left_old left_new written old new = IsRead Limit left_old left_new × (new ≡ old)
