-- How the program ends.
use Rattle.std.specs.Prelude.{◌≡◌, ◌≢◌, ℕ, ◌≤◌, List, [], length, map, string_bytes, IfSome, ◌⊎◌}
use Rattle.std.specs.IoError.{error_kind}
use Rattle.std.specs.Vec.Iter.{into_iter_items}
use Rattle.std.specs.declared.alloc.Global.{Global}
use Rattle.std.specs.declared.io.Error.{Error}
use Rattle.std.specs.declared.io.ErrorKind.TheVariants.{OutOfMemory}
use Rattle.std.specs.declared.option.Option.{Option}
use Rattle.std.specs.declared.option.Option.TheVariants.{None}
use Rattle.std.specs.declared.result.Result.{Result}
use Rattle.std.specs.declared.result.Result.TheVariants.{Ok, Err}
use Rattle.std.specs.declared.string.String.{String}
use Rattle.std.specs.declared.vec.IntoIter.{IntoIter}
use Rattle.std.specs.declared.vec.Vec.{Vec}
use Rattle.graph_model.specs.Lines.{max_input}
use Rattle.outside.specs.Adapters.{Adapter}
use Rattle.outside.specs.Faults.{Rose}
use Rattle.replay.specs.declared.top.Status.{Status}
use Rattle.replay.specs.declared.top.Status.TheVariants as statuses
use Rattle.replay.specs.Checks.{Checks}
use Rattle.replay.specs.Loads.{Loads}
use Rattle.replay.specs.Generations.{Generates}
use Rattle.replay.specs.Statuses.{AreReplay, AreCheck, AreLoad, AreGen, AreRefused, Replays, Refuses, SuitsWords, EndsWell, StatusFaults}

-- how it ended, and the source and the sink as they are then
pub record Ending (S K : Type 0) : Type 0 where
  pub status : Status
  pub source : S
  pub sink : K

-- How a run over these words ends, from this source and this sink: all that the clauses of `run` say.
pub record Runs {S K : Type 0} (left : S → Option (List ℕ)) (reads : S → ℕ) (written : K → Option (List ℕ)) (writes : K → ℕ)
    (given : List (List ℕ)) (source : S) (sink : K) (end : Ending S K) : Type 0 where
  pub replays : AreReplay given → Replays end.status (left source) (left end.source) written sink end.sink
  pub checks : AreCheck given → Checks end.status (left source) (left end.source) written sink end.sink
  pub loads : AreLoad given → Loads end.status (left source) (left end.source) written sink end.sink
  pub generates : (seed count : ℕ) → AreGen given seed count → (end.source ≡ source) × Generates end.status seed count written sink end.sink
  pub refuses : AreRefused given → (end.source ≡ source) × Refuses end.status written sink end.sink
  pub no_memory : end.status ≡ statuses.NoMemory → (end.sink ≡ sink) × (AreReplay given → end.source ≡ source)
  pub words : SuitsWords end.status given
  pub faults : StatusFaults end.status (reads source) (reads end.source) (writes sink) (writes end.sink)
  pub complete : (AreRefused given → ⊥) → (Rose (reads source) (reads end.source) → ⊥) → (Rose (writes sink) (writes end.sink) → ⊥) → EndsWell end.status
  pub within_limit : IfSome (left source) (λ bytes. length bytes ≤ max_input → end.status ≢ statuses.InputLimit)

-- There was no memory, and nothing was read or written.
abbrev pub IsUnbegun : {S K : Type 0} → S → K → Ending S K → Type 0
IsUnbegun source sink end = (end.status ≡ statuses.NoMemory) × (end.source ≡ source) × (end.sink ≡ sink)

-- what the system gives as the words of the command line: text, or an error
abbrev pub Given : Type 0
Given = Result (IntoIter (String Global) Global) Error

-- The words as a list: all that were given, whole and in order; none, where one of them isn't text. Want of memory is told where there is
-- none for the list, or where the system told it.
abbrev pub AreTaken : {E : Type 0} → Given → Result (Vec (String Global) Global) E → Type 0
AreTaken (Ok given) (Ok words) = words.items ≡ into_iter_items given
AreTaken (Ok given) (Err error) = Unit {0}
AreTaken (Err why) (Ok words) = (words.items ≡ []) × (error_kind why ≢ OutOfMemory)
AreTaken (Err why) (Err error) = error_kind why ≡ OutOfMemory

-- How the program ends over what the system gives as its words: a run over all of them, whole and in order, where there is memory for their
-- list; a run over none, where one of them isn't text. Want of memory alone is told as want of memory.
abbrev pub Ends : {S K : Type 0} → (S → Option (List ℕ)) → (S → ℕ) → (K → Option (List ℕ)) → (K → ℕ) → Given → S → K → Ending S K → Type 0
Ends left reads written writes (Ok given) source sink end =
    Runs left reads written writes (map string_bytes (into_iter_items given)) source sink end ⊎ IsUnbegun source sink end
Ends left reads written writes (Err why) source sink end = (error_kind why ≡ OutOfMemory → IsUnbegun source sink end)
    × (error_kind why ≢ OutOfMemory → Runs left reads written writes [] source sink end)

-- The program ended so over some words, from a reader and a writer of std that had no fault before.
abbrev pub IsStarted : {R W : Type 0} → Ending (Adapter R) (Adapter W) → Type 0
IsStarted {R} {W} end = (given : Given) × (input : R) × (output : W)
    × Ends (λ _. None) (λ source. source.faults) (λ _. None) (λ sink. sink.faults) given
    (record { inner = input; faults = 0 }) (record { inner = output; faults = 0 }) end
