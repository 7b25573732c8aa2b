-- The generator: commands that a number gives, drawn one after another, and what is told of the run over them.
use Rattle.std.specs.Prelude.{◌≡◌, ℕ, ◌+◌, ◌-◌, ◌*◌, ◌/◌, ◌%◌, ◌^◌, suc, zero, ℤ, pos, ◌-ℤ◌, min, ltb, ◌==◌, if◌then◌else◌, Bool, true, false, not, List, [], ◌∷◌, filter, length, codes, decimal}
use Rattle.std.specs.Fmt.{signed_decimal}
use Rattle.fee_rate.specs.declared.rates.Sum.{Sum}
use Rattle.graph_model.specs.declared.names.Refusal.TheVariants.{Memory}
use Rattle.graphs.specs.Rates.{sums}
use Rattle.graphs.specs.Diagrams.{AreCorners}
use Rattle.graph_model.specs.Words.{spaced}
use Rattle.graph_model.specs.Commands.{Command, Add, Dep, SetFee, Remove, Stage, Commit, Abort, Compare}
use Rattle.graph_model.specs.Replies.{Reply, Refused}
use Rattle.graph_model.specs.Refusals.{told_as}
use Rattle.graph_model.specs.States.{PlainState, State, start, rate_of}
use Rattle.graph_model.specs.Runs.{CommandsRun}

-- a number below m, and the generator's state after it, from the state before it
abbrev pub draw : ℕ → ℕ → ℕ × ℕ
draw x m = let next = (1103515245 * x + 12345) % 2 ^ 31 in ((next / 65536) % m, next)

-- a number from k down to the last 64 that aren't 0
abbrev pub drawn_near : ℕ → ℕ → ℕ × ℕ
drawn_near x k = let back = draw x (min k 64) in (k - back.0, back.1)

abbrev pub drawn_fee : ℕ → ℤ × ℕ
drawn_fee x = let fee = draw x 10000 in (pos fee.0 -ℤ pos 1000, fee.1)

abbrev pub drawn_add : ℕ → ℕ → Command × ℕ
drawn_add k x = let fee = drawn_fee x in let size = draw fee.1 900 in (Add k fee.0 (100 + size.0), size.1)

-- the child is drawn first
abbrev pub drawn_dep : ℕ → ℕ → Command × ℕ
drawn_dep k x = let child = drawn_near x k in let parent = drawn_near child.1 child.0 in (Dep parent.0 child.0, parent.1)

abbrev pub drawn_change : ℕ → ℕ → Command × ℕ
drawn_change k x = let id = drawn_near x k in let fee = drawn_fee id.1 in (SetFee id.0 fee.0, fee.1)

abbrev pub drawn_remove : ℕ → ℕ → Command × ℕ
drawn_remove k x = let id = drawn_near x k in (Remove id.0, id.1)

-- the k-th command, and the state after it: what is drawn first decides which
abbrev pub drawn_command : ℕ → ℕ → Command × ℕ
drawn_command k x =
    let kind = draw x 20 in
    if ltb kind.0 8 then drawn_add k kind.1 else if ltb kind.0 14 then drawn_dep k kind.1
    else if kind.0 == 14 then drawn_change k kind.1 else if kind.0 == 15 then drawn_remove k kind.1
    else if kind.0 == 16 then (Stage, kind.1) else if kind.0 == 17 then (Commit, kind.1)
    else if kind.0 == 18 then (Abort, kind.1) else (Compare, kind.1)

-- so many commands from the k-th on
abbrev pub commands_from : ℕ → ℕ → ℕ → List Command
commands_from x k zero = []
commands_from x k (suc n) = let made = drawn_command k x in made.0 ∷ commands_from made.1 (suc k) n

abbrev pub generated : ℕ → ℕ → List Command
generated seed count = commands_from seed 1 count

-- how a run went: how many commands were accepted, refused, and refused for want of memory alone; and of main the number of names, their
-- sums, and the number of corners
pub record Summary : Type 0 where
  pub accepted : ℕ
  pub refused : ℕ
  pub memory : ℕ
  pub count : ℕ
  pub total : Sum
  pub corners : ℕ

abbrev pub is_refused : Reply → Bool
is_refused (Refused why) = true
is_refused reply = false

-- a refusal for want of memory, by its number
abbrev pub is_for_memory : Reply → Bool
is_for_memory (Refused why) = (told_as why).number == (told_as Memory).number
is_for_memory reply = false

pub record IsSummary (replies : List Reply) (end : PlainState) (summary : Summary) : Type 0 where
  pub accepted : summary.accepted ≡ length (filter (λ reply. not (is_refused reply)) replies)
  pub memory : summary.memory ≡ length (filter is_for_memory replies)
  pub refused : summary.refused + summary.memory ≡ length (filter is_refused replies)
  pub count : summary.count ≡ length end.main.names
  pub total : summary.total ≡ sums (rate_of end.table) end.main.names
  pub points : List (ℕ × ℤ)
  pub diagram : AreCorners (rate_of end.table) end.main points
  pub corners : summary.corners ≡ length points

abbrev pub summary_lines : Summary → List (List ℕ)
summary_lines summary =
    spaced (codes "accepted" ∷ decimal summary.accepted ∷ []) ∷ spaced (codes "refused" ∷ decimal summary.refused ∷ [])
    ∷ spaced (codes "memory" ∷ decimal summary.memory ∷ []) ∷ spaced (codes "count" ∷ decimal summary.count ∷ [])
    ∷ spaced (codes "total" ∷ signed_decimal summary.total.fee ∷ decimal summary.total.size ∷ [])
    ∷ spaced (codes "corners" ∷ decimal summary.corners ∷ []) ∷ []

-- a run over the commands that the seed gives, where a cluster may be allowed so many names, may end with this summary
abbrev pub Summarizes : ℕ → ℕ → ℕ → Summary → Type 0
Summarizes most seed count summary =
    (replies : List Reply) × (end : State) × CommandsRun (start most) (generated seed count) replies end × IsSummary replies end.plain summary
