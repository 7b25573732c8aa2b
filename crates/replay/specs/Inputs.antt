-- What is read of a source.
use Rattle.std.specs.Prelude.{◌≡◌, ℕ, ◌<◌, ◌≤◌, List, ◌++◌, length}
use Rattle.std.specs.Io.KnownBytes.{Consumes, IsAtEnd}
use Rattle.std.specs.declared.option.Option.{Option}
use Rattle.graph_model.specs.Lines.{max_input}
use Rattle.outside.specs.Faults.{Rose}
use Rattle.replay.specs.declared.input.End.{End}
use Rattle.replay.specs.declared.input.End.TheVariants.{Told, Fault, Limit}
use Rattle.replay.specs.declared.window.TheConstants.{MAX_READ}

-- The bytes that were read within the limit: up to the end of the source, up to a fault, or up to the
-- limit, where at least one more byte came, and no more than one read brings.
abbrev pub ReadsTo : End → Option (List ℕ) → Option (List ℕ) → List ℕ → Type 0
ReadsTo Told old new input = Consumes old new input × IsAtEnd new × (length input ≤ max_input)
ReadsTo Fault old new input = Consumes old new input × (length input ≤ max_input)
ReadsTo Limit old new input = (more : List ℕ) × (0 < length more) × (length more ≤ MAX_READ) × Consumes old new (input ++ more) × (length input ≡ max_input)

-- The source's faults, before and after: one read failed where a fault ended the reading, and none elsewhere.
abbrev pub ReadFaults : End → ℕ → ℕ → Type 0
ReadFaults Told before now = now ≡ before
ReadFaults Fault before now = Rose before now
ReadFaults Limit before now = now ≡ before
