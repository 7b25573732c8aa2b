-- What numbers stand for, and which number tells what.
use Rattle.std.specs.Prelude.{ℕ, zero, suc, List, unwrap_or}
use Rattle.graphs.specs.declared.names.Level.{Level}
use Rattle.graphs.specs.declared.names.Level.TheVariants.{Main, Top}
use Rattle.graphs.specs.declared.names.Verdict.{Verdict}
use Rattle.graphs.specs.declared.names.Verdict.TheVariants.{Better, Worse, Equal, Incomparable}
use Rattle.graph_model.specs.declared.names.Place.{Place}
use Rattle.graph_model.specs.declared.names.Place.TheVariants.{Before, Same, After}
use Rattle.graph_model.specs.Refusals.{number_of, told_as}
use Rattle.graph_model.specs.Replies.{Reply, Refused, Evicted, Built, Trimmed, Unmined}

-- 0, or the number of the refusal
abbrev pub code_of : Reply → ℕ
code_of (Refused why) = number_of why
code_of reply = 0

-- the number that the refusal keeps; 0 where it keeps none, and where nothing was refused
abbrev pub kept_of : Reply → ℕ
kept_of (Refused why) = unwrap_or (told_as why).kept 0
kept_of reply = 0

-- the names that a reply picks stay on the desk; any other reply leaves those that were there
abbrev pub picked_after : List ℕ → Reply → List ℕ
picked_after old (Evicted sum ids) = ids
picked_after old (Built sum ids) = ids
picked_after old (Trimmed sum ids) = ids
picked_after old (Unmined ids) = ids
picked_after old reply = old

abbrev pub verdict_number : Verdict → ℕ
verdict_number Better = 0
verdict_number Worse = 1
verdict_number Equal = 2
verdict_number Incomparable = 3

abbrev pub place_number : Place → ℕ
place_number Before = 0
place_number Same = 1
place_number After = 2

-- 0 is main, and any other number the top level
abbrev pub level_named : ℕ → Level
level_named zero = Main
level_named (suc n) = Top
