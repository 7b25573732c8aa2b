-- The refusals of pairs, told by the graph that is kept.
use Rattle.std.specs.Prelude.{◌≡◌, ◌⊎◌, ℕ, ◌<◌, true, false, List, length, sum_by, Option}
use Rattle.graphs.specs.Closures.{Closure, is_member, is_ancestor, rate_of, AreLinked}
use Rattle.graph_model.specs.declared.names.Limits.{Limits}
use Rattle.graph_model.specs.declared.names.Refusal.{Refusal}
use Rattle.graph_model.specs.declared.names.Refusal.TheVariants.{ClusterSize, Count}
use Rattle.graphs.specs.Graphs.{Lists}
use Rattle.graph_model.specs.Refusals.{FirstAt, NoRefusal, DepRow}

-- the members of the cluster that a pair would make of two
abbrev pub JoinsTo : Closure → ℕ → ℕ → List ℕ → Type 0
JoinsTo graph parent child members = (AreLinked graph parent child → ⊥) × Lists (λ id. AreLinked graph id parent ⊎ AreLinked graph id child) members

-- its names are more than may be, and no dependency may pass the limits
abbrev pub JoinsTooMany : Limits → Closure → ℕ → ℕ → ℕ → Type 0
JoinsTooMany limits graph parent child n =
    (members : List ℕ) × (limits.defer ≡ false) × JoinsTo graph parent child members × (n ≡ length members) × (limits.count < n)

-- its total size is larger than may be, and no dependency may pass the limits
abbrev pub JoinsTooLarge : Limits → Closure → ℕ → ℕ → ℕ → Type 0
JoinsTooLarge limits graph parent child n =
    (members : List ℕ) × (limits.defer ≡ false) × JoinsTo graph parent child members × (n ≡ sum_by (λ id. (rate_of graph id).size) members) × (limits.size < n)

-- the refusal that a pair meets
abbrev pub DepRefusalIs : Limits → Closure → ℕ → ℕ → Option Refusal → Type 0
DepRefusalIs limits graph parent child =
    DepRow (is_member graph parent ≡ true → ⊥) (is_member graph child ≡ true → ⊥) (is_ancestor graph child parent ≡ true)
    (JoinsTooMany limits graph parent child) (JoinsTooLarge limits graph parent child) parent child

-- the refusal that two numbers of names and two sizes meet when they are put together
abbrev pub SumRefusalIs : Limits → ℕ → ℕ → Option Refusal → Type 0
SumRefusalIs limits count size =
    FirstAt (λ n. (limits.defer ≡ false) × (n ≡ count) × (limits.count < n)) Count
    (FirstAt (λ n. (limits.defer ≡ false) × (n ≡ size) × (limits.size < n)) ClusterSize NoRefusal)
