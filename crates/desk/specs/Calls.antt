-- What a call does with a desk: a graph with its mined blocks, the transactions that the latest call picked, and the lists that were read last.
use Rattle.std.specs.Prelude.{◌≡◌, ◌↔◌, ℕ, ◌+◌, ◌-◌, ◌^◌, ◌<◌, List, Bool, true, false, Option, None, Some, length, Contains, map, min, drop, IsTrue}
use Rattle.std.specs.FinMap as finmap
use Rattle.graphs.specs.declared.names.Level.{Level}
use Rattle.graph_model.specs.Commands.{Command}
use Rattle.graph_model.specs.Oversize.{IsOversized}
use Rattle.graph_model.specs.Replies.{Reply, Number, Stands, Compared, Settled, Evicted, Built, Trimmed, OnePart, Parts, Points, Dumped, text_of}
use Rattle.graph_model.specs.States.{State, Entry, level_of}
use Rattle.reorg.specs.Kept.{MakesStep, StandsFor}
use Rattle.desk.specs.declared.desk.Desk.{Desk}
use Rattle.desk.specs.declared.desk.Held.{Held}
use Rattle.desk.specs.declared.telling.Rate.{Rate}
use Rattle.desk.specs.declared.telling.Total.{Total}
use Rattle.desk.specs.Numbers.{code_of, kept_of, picked_after, verdict_number, place_number}
use Rattle.desk.specs.Copies.{copied, code_of_piece, total_of, corner_of, IsListed}

-- The machine answers the command with this reply. The result is 0 or the refusal's number, the kept number is the refusal's, and the reply shows
-- in what else the call writes.
pub record Answers (old new : Desk) (command : Command) (code kept : ℕ) (Shows : Reply → Type 0) : Type 0 where
  pub reply : Reply
  pub step : MakesStep old.pool new.pool command reply
  pub code_is : code ≡ code_of reply
  pub kept_is : kept ≡ kept_of reply
  pub picked : new.picked ≡ picked_after old.picked reply
  pub held : new.held ≡ old.held
  pub shows : Shows reply

-- nothing else is written
abbrev pub Nothing : Reply → Type 0
Nothing reply = Unit {0}

-- the same of a question, which leaves the graph as it is
pub record Tells (old new : Desk) (command : Command) (code kept : ℕ) (Shows : Reply → Type 0) : Type 0 where
  pub answers : Answers old new command code kept Shows
  pub same : new ≡ old

-- As many additions were made as can be counted, less than this many. Nothing changed.
pub record IsSpent (old new : Desk) (more code : ℕ) (Rest : Type 0) : Type 0 where
  pub full : 2 ^ 64 - 1 < old.pool.graph.levels.issued + more
  pub code_is : code ≡ 33
  pub same : new ≡ old
  pub kept : Rest

-- ---- what a reply shows

-- the number of the verdict
abbrev pub ShowsVerdict : ℕ → ℕ → Reply → Type 0
ShowsVerdict old new (Compared verdict) = new ≡ verdict_number verdict
ShowsVerdict old new (Settled verdict) = new ≡ verdict_number verdict
ShowsVerdict old new reply = new ≡ old

-- the number of the place
abbrev pub ShowsPlace : ℕ → ℕ → Reply → Type 0
ShowsPlace old new (Stands place) = new ≡ place_number place
ShowsPlace old new reply = new ≡ old

abbrev pub ShowsNumber : ℕ → ℕ → Reply → Type 0
ShowsNumber old new (Number n) = new ≡ n
ShowsNumber old new reply = new ≡ old

-- the sum of what was picked
abbrev pub ShowsTotal : Total → Total → Reply → Type 0
ShowsTotal old new (Evicted sum ids) = new ≡ total_of sum
ShowsTotal old new (Built sum ids) = new ≡ total_of sum
ShowsTotal old new (Trimmed sum ids) = new ≡ total_of sum
ShowsTotal old new reply = new ≡ old

-- ---- questions

-- A question that is never refused: the graph stays, and this is so of it.
pub record Knows (old new : Desk) (code : ℕ) (Fact : Type 0) : Type 0 where
  pub same : new ≡ old
  pub code_is : code ≡ 0
  pub fact : Fact

-- whether the level has the name
abbrev pub TellsThere : Desk → Level → ℕ → Bool → Type 0
TellsThere desk level id there = (state : State) → StandsFor desk.pool state → IsTrue there ↔ Contains (level_of state.plain level).names id

-- whether the level is over the limits of a cluster
abbrev pub TellsOversized : Desk → Level → Bool → Type 0
TellsOversized desk level over = (state : State) → StandsFor desk.pool state → IsTrue over ↔ IsOversized state.plain level

-- whether the name is live, and its fee and size where it is
abbrev pub entry_shown : Bool → Rate → Option Entry
entry_shown true rate = Some (record { fee = rate.fee; size = rate.size })
entry_shown false rate = None

abbrev pub TellsRate : Desk → ℕ → Bool → Rate → Type 0
TellsRate desk id live rate = (state : State) → StandsFor desk.pool state → finmap.get state.plain.table id ≡ entry_shown live rate

-- the fee and the size of the part, its names in the caller's array, as many as it has room for, and their number
abbrev pub ShowsPart : Rate → Rate → List ℕ → List ℕ → ℕ → ℕ → Reply → Type 0
ShowsPart rate_old rate old new count_old count (OnePart part) =
    (rate.fee ≡ part.rate.fee) × (rate.size ≡ part.rate.size) × (new ≡ copied part.ids old) × (count ≡ length part.ids)
ShowsPart rate_old rate old new count_old count reply = (rate ≡ rate_old) × (new ≡ old) × (count ≡ count_old)

-- ---- readings of a whole level, which stay on the desk as lists

-- The machine answers with this reply, and the graph and what was picked stay. What is held shows the reply.
pub record Gathers (old new : Desk) (command : Command) (code kept : ℕ) (Shows : Held → Held → Reply → Type 0) : Type 0 where
  pub reply : Reply
  pub step : MakesStep old.pool old.pool command reply
  pub code_is : code ≡ code_of reply
  pub kept_is : kept ≡ kept_of reply
  pub pool : new.pool ≡ old.pool
  pub picked : new.picked ≡ old.picked
  pub shows : Shows old.held new.held reply

-- There was no memory for the list. Nothing changed.
pub record LacksRoom (old new : Desk) (code kept : ℕ) : Type 0 where
  pub code_is : code ≡ 18
  pub kept_is : kept ≡ 0
  pub same : new ≡ old

-- the parts are listed; the rest that is held stays
abbrev pub ShowsOrder : Held → Held → Reply → Type 0
ShowsOrder old new (Parts parts) = IsListed parts new.listing × (new ≡ record old { listing = new.listing })
ShowsOrder old new reply = new ≡ old

abbrev pub ShowsCorners : Held → Held → Reply → Type 0
ShowsCorners old new (Points points) = new ≡ record old { corners = map corner_of points }
ShowsCorners old new reply = new ≡ old

abbrev pub ShowsText : Held → Held → Reply → Type 0
ShowsText old new (Dumped text) = new ≡ record old { text = text_of (Dumped text) }
ShowsText old new reply = new ≡ old

-- Items from a place on are copied to the front of the caller's array, as many as it has room for, and their number is told. The result tells
-- whether others come behind them.
pub record GivesPiece {X : Type 0} (all : List X) (from : ℕ) (old new : List X) (count code : ℕ) : Type 0 where
  pub items : new ≡ copied (drop from all) old
  pub count_is : count ≡ min (length all - from) (length old)
  pub code_is : code ≡ code_of_piece (length all) (from + count)
