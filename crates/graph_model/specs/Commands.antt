-- Commands, and how each is spelled. A command has one spelling: its words with one space between
-- them, and each number without leading zeros.
use Rattle.std.specs.Prelude.{◌≢◌, ℕ, ℤ, ◌^◌, ◌<◌, Bool, true, false, List, [], ◌∷◌, map, codes, decimal, FitsSigned, All}
use Rattle.std.specs.Fmt.{signed_decimal}
use Rattle.std.specs.Int.{w64}
use Rattle.graphs.specs.declared.names.Level.{Level}
use Rattle.graph_model.specs.Limits.{Bounds}
use Rattle.graph_model.specs.Words.{level_word}

pub data Command : Type 0 where
  SetLimits : (limits : Bounds) → Command
  Add : (id : ℕ) (fee : ℤ) (size : ℕ) → Command
  Dep : (parent child : ℕ) → Command
  SetFee : (id : ℕ) (fee : ℤ) → Command
  Remove : (id : ℕ) → Command
  Mine : (ids : List ℕ) → Command
  Evict : Command
  Stage : Command
  Commit : Command
  Abort : Command
  Settle : Command
  Trim : Command
  Unmine : Command
  Compare : Command
  Order : (level : Level) → Command
  Diagram : (level : Level) → Command
  Proof : (level : Level) → Command
  Cluster : (id : ℕ) (level : Level) → Command
  Ancestors : (id : ℕ) (level : Level) → Command
  Descendants : (id : ℕ) (level : Level) → Command
  Chunk : (id : ℕ) → Command
  Before : (a b : ℕ) → Command
  Block : (size : ℕ) → Command
  Count : (level : Level) → Command
  Dump : Command

-- the last word of `limits`, where dependencies may pass them
abbrev pub defer_words : Bool → List (List ℕ)
defer_words true = codes "defer" ∷ []
defer_words false = []

abbrev pub words_of : Command → List (List ℕ)
words_of (SetLimits limits) = codes "limits" ∷ decimal limits.count ∷ decimal limits.size ∷ decimal limits.total ∷ defer_words limits.defer
words_of (Add id fee size) = codes "add" ∷ decimal id ∷ signed_decimal fee ∷ decimal size ∷ []
words_of (Dep parent child) = codes "dep" ∷ decimal parent ∷ decimal child ∷ []
words_of (SetFee id fee) = codes "fee" ∷ decimal id ∷ signed_decimal fee ∷ []
words_of (Remove id) = codes "remove" ∷ decimal id ∷ []
words_of (Mine ids) = codes "mine" ∷ map decimal ids
words_of Evict = codes "evict" ∷ []
words_of Stage = codes "stage" ∷ []
words_of Commit = codes "commit" ∷ []
words_of Abort = codes "abort" ∷ []
words_of Settle = codes "settle" ∷ []
words_of Trim = codes "trim" ∷ []
words_of Unmine = codes "unmine" ∷ []
words_of Compare = codes "compare" ∷ []
words_of (Order level) = codes "order" ∷ level_word level ∷ []
words_of (Diagram level) = codes "diagram" ∷ level_word level ∷ []
words_of (Proof level) = codes "proof" ∷ level_word level ∷ []
words_of (Cluster id level) = codes "cluster" ∷ decimal id ∷ level_word level ∷ []
words_of (Ancestors id level) = codes "ancestors" ∷ decimal id ∷ level_word level ∷ []
words_of (Descendants id level) = codes "descendants" ∷ decimal id ∷ level_word level ∷ []
words_of (Chunk id) = codes "chunk" ∷ decimal id ∷ []
words_of (Before a b) = codes "before" ∷ decimal a ∷ decimal b ∷ []
words_of (Block size) = codes "block" ∷ decimal size ∷ []
words_of (Count level) = codes "count" ∷ level_word level ∷ []
words_of Dump = codes "dump" ∷ []

-- A command's numbers are of their types: names and sizes of 64 bits, fees of 64 bits with a sign. A list of names to mine has one or more.
abbrev pub HasTypes : Command → Type 0
HasTypes (SetLimits limits) = (limits.count < 2 ^ 64) × (limits.size < 2 ^ 64) × (limits.total < 2 ^ 64)
HasTypes (Add id fee size) = (id < 2 ^ 64) × FitsSigned w64 fee × (size < 2 ^ 64)
HasTypes (Dep parent child) = (parent < 2 ^ 64) × (child < 2 ^ 64)
HasTypes (SetFee id fee) = (id < 2 ^ 64) × FitsSigned w64 fee
HasTypes (Remove id) = id < 2 ^ 64
HasTypes (Mine ids) = (ids ≢ []) × All (λ id. id < 2 ^ 64) ids
HasTypes (Cluster id level) = id < 2 ^ 64
HasTypes (Ancestors id level) = id < 2 ^ 64
HasTypes (Descendants id level) = id < 2 ^ 64
HasTypes (Chunk id) = id < 2 ^ 64
HasTypes (Before a b) = (a < 2 ^ 64) × (b < 2 ^ 64)
HasTypes (Block size) = size < 2 ^ 64
HasTypes command = Unit {0}
