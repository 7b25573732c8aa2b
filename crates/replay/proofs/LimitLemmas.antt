-- Where reading ends.
use Rattle.std.proofs.Common.{◌≡◌, ◌≢◌, ℕ, ◌<◌, ◌≤◌, List, ◌++◌, length, length-append, Option, Some, None, sym, ap, subst, arith}
use Rattle.std.specs.Prelude.{IfSome}
use Rattle.std.specs.Io.KnownBytes.{Consumes}
use Rattle.graph_model.specs.Lines.{max_input}
use Rattle.replay.specs.declared.input.End.{End}
use Rattle.replay.specs.declared.input.End.TheVariants.{Told, Fault, Limit}
use Rattle.replay.specs.declared.top.Status.{Status}
use Rattle.replay.specs.declared.top.Status.TheVariants as statuses
use Rattle.replay.specs.Inputs.{ReadsTo, ReadFaults}
use Rattle.replay.specs.Statuses.{IsAnswered, Replays, StatusFaults, end_status}

-- a source with no more bytes than are read doesn't get past the limit
not_past : (all input more : List ℕ) (rest : Option (List ℕ)) → length all ≤ max_input
    → 0 < length more → length input ≡ max_input → Consumes (Some all) rest (input ++ more) → ⊥
not_past all input more None few some long read = read
not_past all input more (Some left) few some long read = absurd (omega (arith, ap length read, length-append (input ++ more) left, length-append input more))

-- nor is the limit told then
pub within_limit : (left_old left_new : Option (List ℕ)) (end : End) (input : List ℕ) (status : Status) → ReadsTo end left_old left_new input
    → status ≡ end_status end → IfSome left_old (λ all. length all ≤ max_input → status ≢ statuses.InputLimit)
within_limit None left_new end input status read is = tt
within_limit (Some all) left_new Told input status read is = λ few e. absurd (cc)
within_limit (Some all) left_new Fault input status read is = λ few e. absurd (cc)
within_limit (Some all) left_new Limit input status read is = λ few e. not_past all input read.0 left_new few read.1 read.4 read.3

-- what is told of the end of the reading is said of its status
pub told_replays : {K : Type 0} (end : End) (status : Status) (left_old left_new : Option (List ℕ)) (written : K → Option (List ℕ)) (old new : K)
    → IsAnswered end left_old left_new (written old) (written new) → status ≡ end_status end → Replays status left_old left_new written old new
told_replays Told status left_old left_new written old new answered is = subst (λ (s : Status). Replays s left_old left_new written old new) (sym is) answered
told_replays Fault status left_old left_new written old new answered is = subst (λ (s : Status). Replays s left_old left_new written old new) (sym is) answered
told_replays Limit status left_old left_new written old new answered is = subst (λ (s : Status). Replays s left_old left_new written old new) (sym is) answered

-- no end is want of memory
pub told_memory : (end : End) (status : Status) → status ≡ end_status end → status ≡ statuses.NoMemory → ⊥
told_memory Told status is e = cc
told_memory Fault status is e = cc
told_memory Limit status is e = cc

pub told_faults : (end : End) (status : Status) (reads_old reads_new writes_old writes_new : ℕ) → ReadFaults end reads_old reads_new → writes_new ≡ writes_old
    → status ≡ end_status end → StatusFaults status reads_old reads_new writes_old writes_new
told_faults Told status reads_old reads_new writes_old writes_new reads writes is =
    subst (λ (s : Status). StatusFaults s reads_old reads_new writes_old writes_new) (sym is) (reads, writes)
told_faults Fault status reads_old reads_new writes_old writes_new reads writes is =
    subst (λ (s : Status). StatusFaults s reads_old reads_new writes_old writes_new) (sym is) (reads, writes)
told_faults Limit status reads_old reads_new writes_old writes_new reads writes is =
    subst (λ (s : Status). StatusFaults s reads_old reads_new writes_old writes_new) (sym is) (reads, writes)
