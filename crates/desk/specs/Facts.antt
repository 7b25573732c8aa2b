-- What is told of a graph's limits and sizes, and of whether a list of transactions may be mined.
use Rattle.std.specs.Prelude.{◌≡◌, ◌↔◌, ℕ, ◌≤◌, Bool, List, Contains, Option, None, Some, IsTrue}
use Rattle.graphs.specs.Certificates.{Part}
use Rattle.graph_model.specs.declared.names.Limits.{Limits}
use Rattle.graph_model.specs.declared.names.Refusal.{Refusal}
use Rattle.graph_model.specs.Commands.{Command, Mine}
use Rattle.graph_model.specs.Limits.{bounds_of}
use Rattle.graph_model.specs.Refusals.{RefusalIs}
use Rattle.graph_model.specs.Replies.{Reply, Done, Refused, OnePart}
use Rattle.graph_model.specs.States.{State, IsStaged, size_of}
use Rattle.reorg.specs.Kept.{Kept, StandsFor}
use Rattle.desk.specs.declared.desk.Desk.{Desk}
use Rattle.desk.specs.declared.telling.Rate.{Rate}
use Rattle.desk.specs.Numbers.{code_of, kept_of}

-- the limits in force
abbrev pub TellsLimits : Desk → Limits → Type 0
TellsLimits desk limits = (state : State) → StandsFor desk.pool state → state.plain.limits ≡ bounds_of limits

-- whether a staging is open
abbrev pub TellsStaged : Desk → Bool → Type 0
TellsStaged desk staged = (state : State) → StandsFor desk.pool state → IsTrue staged ↔ IsStaged state.plain

-- No name of main has a smaller size, and no part of main's order has where main has one.
pub record AreNoSmaller (state : State) (size : ℕ) : Type 0 where
  pub names : (id : ℕ) → Contains state.plain.main.names id → size ≤ size_of state.plain.table id
  pub parts : (pick : List Part) (part : Part) → state.picks.main ≡ Some pick → Contains pick part → size ≤ part.rate.size

abbrev pub TellsLeast : Desk → ℕ → Type 0
TellsLeast desk size = (state : State) → StandsFor desk.pool state → AreNoSmaller state size

-- the fee and the size of the part
abbrev pub ShowsRate : Rate → Rate → Reply → Type 0
ShowsRate old new (OnePart part) = (new.fee ≡ part.rate.fee) × (new.size ≡ part.rate.size)
ShowsRate old new reply = new ≡ old

-- the refusal that a command meets, or none, in every state that a graph stands for with its blocks
abbrev pub Meets : Kept → Command → Option Refusal → Type 0
Meets kept command found = (state : State) → StandsFor kept state → RefusalIs state.plain command found

abbrev pub row_reply : Option Refusal → Reply
row_reply None = Done
row_reply (Some why) = Refused why

-- What mining these transactions would be refused for, other than want of memory, or that nothing is. Nothing changed.
pub record Judges (old new : Desk) (ids : List ℕ) (code kept : ℕ) : Type 0 where
  pub same : new ≡ old
  pub found : Option Refusal
  pub row : Meets old.pool (Mine ids) found
  pub code_is : code ≡ code_of (row_reply found)
  pub kept_is : kept ≡ kept_of (row_reply found)
