-- How a source is cut into lines.
use Rattle.std.specs.Prelude.{◌≡◌, ◌≢◌, ℕ, ◌+◌, ◌-◌, ◌<◌, ◌≤◌, ◌⊎◌, Bool, true, false, List, [], ◌∷◌, ◌++◌, length}
use Rattle.std.specs.Io.KnownBytes.{Consumes, IsAtEnd}
use Rattle.std.specs.declared.option.Option.{Option}
use Rattle.std.specs.declared.option.Option.TheVariants.{None, Some}
use Rattle.graph_model.specs.Lines.{IsOneLine, max_line, max_input}
use Rattle.outside.specs.Faults.{Rose}
use Rattle.replay.specs.declared.lines.Stage.{Stage}
use Rattle.replay.specs.declared.lines.Stage.TheVariants.{Open, Ended, Past}
use Rattle.replay.specs.declared.lines.Next.{Next}
use Rattle.replay.specs.declared.lines.Next.TheVariants as next
use Rattle.replay.specs.declared.lines.Found.{Found}
use Rattle.replay.specs.declared.lines.Found.TheVariants as found
use Rattle.replay.specs.declared.session.Piece.{Piece}
use Rattle.replay.specs.declared.session.Piece.TheVariants.{Whole, TooLong}
use Rattle.replay.specs.declared.window.TheConstants.{MAX_READ}
use Rattle.replay.specs.Cutters.{Cutter}

-- the bytes begin with a line and its line feed
abbrev pub HasLine : List ℕ → Type 0
HasLine bytes = (line : List ℕ) × (after : List ℕ) × (bytes ≡ line ++ 10 ∷ after) × IsOneLine line

-- the first line feed is at this place, or there is none
abbrev pub HasFeed : Option ℕ → List ℕ → Type 0
HasFeed None bytes = IsOneLine bytes
HasFeed (Some place) bytes = (line : List ℕ) × (after : List ℕ) × (bytes ≡ line ++ 10 ∷ after) × IsOneLine line × (length line ≡ place)

-- The rest is what is held, or ends in it, where more bytes went before it than a line may have.
abbrev pub EndsIn : Bool → List ℕ → List ℕ → Type 0
EndsIn false held rest = rest ≡ held
EndsIn true held rest = (front : List ℕ) × (rest ≡ front ++ held) × IsOneLine front × (max_line < length front)

-- the bytes that were taken behind the lines given so far are these
abbrev pub Leaves : Cutter → List ℕ → Type 0
Leaves cutter rest = EndsIn cutter.long cutter.held rest

-- What was taken leads from a stage to a stage: to the end where the source answered it, and past the limit where a byte past it
-- came, and no more than one read brings. Nothing is taken where reading has ended.
abbrev pub TakesTo : Stage → Stage → Option (List ℕ) → Option (List ℕ) → List ℕ → ℕ → Type 0
TakesTo Open Open old new more taken = Consumes old new more
TakesTo Open Ended old new more taken = Consumes old new more × IsAtEnd new
TakesTo Open Past old new more taken = (past : List ℕ) × (0 < length past) × (length past ≤ MAX_READ) × Consumes old new (more ++ past) × (taken ≡ max_input)
TakesTo Ended stage old new more taken = (stage ≡ Ended) × (new ≡ old) × (more ≡ [])
TakesTo Past stage old new more taken = (stage ≡ Past) × (new ≡ old) × (more ≡ [])

-- these bytes were taken within the limit
pub record Reads (old new : Cutter) (left_old left_new : Option (List ℕ)) (more : List ℕ) : Type 0 where
  pub takes : TakesTo old.stage new.stage left_old left_new more new.taken
  pub taken : new.taken ≡ old.taken + length more

-- The bytes begin with the line and its line feed, and what follows is left; or they are all of the last line, at the end of the source.
abbrev pub GivesLine : Cutter → List ℕ → List ℕ → Type 0
GivesLine new bytes line = IsOneLine line
    × (((after : List ℕ) × (bytes ≡ line ++ 10 ∷ after) × Leaves new after) ⊎ ((new.stage ≡ Ended) × (bytes ≡ line) × (line ≢ []) × Leaves new []))

-- no line is left where the source ended, or none is complete
abbrev pub GivesEnd : Cutter → List ℕ → Type 0
GivesEnd new bytes = (new.stage ≡ Ended) × (bytes ≡ []) × Leaves new []

abbrev pub GivesLimit : Cutter → List ℕ → Type 0
GivesLimit new bytes = (new.stage ≡ Past) × IsOneLine bytes × Leaves new bytes

abbrev pub GivesFault : Cutter → List ℕ → Type 0
GivesFault new bytes = (new.stage ≡ Open) × IsOneLine bytes × Leaves new bytes

-- a line is given whole where it has at most as many bytes as a line may have
abbrev pub IsPiece : Piece → List ℕ → Type 0
IsPiece (Whole bytes) line = (line ≡ bytes.now) × (length line ≤ max_line)
IsPiece TooLong line = max_line < length line

-- this is what the bytes give
abbrev pub Gives : Cutter → List ℕ → Next → Type 0
Gives new bytes (next.Line piece) = (line : List ℕ) × IsPiece piece line × GivesLine new bytes line
Gives new bytes next.End = GivesEnd new bytes
Gives new bytes next.Limit = GivesLimit new bytes
Gives new bytes next.Fault = GivesFault new bytes

-- the same of what is found before it is given
abbrev pub FindsNext : Cutter → List ℕ → Found → Type 0
FindsNext new bytes found.Whole = (length new.line ≤ max_line) × GivesLine new bytes new.line
FindsNext new bytes found.Long = (line : List ℕ) × (max_line < length line) × GivesLine new bytes line
FindsNext new bytes found.End = GivesEnd new bytes
FindsNext new bytes found.Limit = GivesLimit new bytes
FindsNext new bytes found.Fault = GivesFault new bytes

-- More bytes were taken behind the rest, and together they give this.
pub record GivesNext (old new : Cutter) (left_old left_new : Option (List ℕ)) (rest : List ℕ) (answer : Next) : Type 0 where
  pub more : List ℕ
  pub reads : Reads old new left_old left_new more
  pub gives : Gives new (rest ++ more) answer

-- the count of faults rose where a fault is told, and nowhere else
abbrev pub FaultsOf : Next → ℕ → ℕ → Type 0
FaultsOf (next.Line piece) before now = now ≡ before
FaultsOf next.End before now = now ≡ before
FaultsOf next.Limit before now = now ≡ before
FaultsOf next.Fault before now = Rose before now

abbrev pub FoundFaults : Found → ℕ → ℕ → Type 0
FoundFaults found.Whole before now = now ≡ before
FoundFaults found.Long before now = now ≡ before
FoundFaults found.End before now = now ≡ before
FoundFaults found.Limit before now = now ≡ before
FoundFaults found.Fault before now = Rose before now

-- a line is given
abbrev pub IsGiven : Next → Type 0
IsGiven (next.Line piece) = Unit {0}
IsGiven next.End = ⊥
IsGiven next.Limit = ⊥
IsGiven next.Fault = ⊥

abbrev pub IsFound : Found → Type 0
IsFound found.Whole = Unit {0}
IsFound found.Long = Unit {0}
IsFound found.End = ⊥
IsFound found.Limit = ⊥
IsFound found.Fault = ⊥

-- How a read stands to the limit: it ended the reading where it gave nothing, and went past the limit where some of it is past it,
-- which is no more than one read brings.
abbrev pub CountsWithin : Stage → ℕ → List ℕ → List ℕ → Type 0
CountsWithin Open taken more past = (taken ≤ max_input) × (0 < length more) × (past ≡ [])
CountsWithin Ended taken more past = (taken ≤ max_input) × (more ≡ []) × (past ≡ [])
CountsWithin Past taken more past = (taken ≡ max_input) × (0 < length past) × (length past ≤ MAX_READ)

-- how many bytes are held, and one for those that were dropped
abbrev pub weight : Bool → List ℕ → ℕ
weight true held = length held + 1
weight false held = length held

-- how many bytes may still come or are held; each line lessens it
abbrev pub ahead : Cutter → ℕ
ahead cutter = (max_input - cutter.taken) + weight cutter.long cutter.held

abbrev pub stage_rank : Stage → ℕ
stage_rank Open = 1
stage_rank Ended = 0
stage_rank Past = 0

-- how many reads may still come
abbrev pub reads_left : Cutter → ℕ
reads_left cutter = (max_input - cutter.taken) + stage_rank cutter.stage
