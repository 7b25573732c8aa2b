-- The component that a pair would make of two.
use Rattle.std.specs.Prelude.{◌≡◌, false, ℕ, ◌<◌, List, length, sum_by, Option}
use Rattle.graph_model.specs.declared.names.Limits.{Limits}
use Rattle.graph_model.specs.declared.names.Refusal.{Refusal}
use Rattle.graph_model.specs.declared.names.Refusal.TheVariants.{ClusterSize, Count}
use Rattle.graph_model.specs.Refusals.{FirstAt, NoRefusal, JoinsTo}
use Rattle.plain_graph.specs.declared.tx.Tx.{Tx}
use Rattle.plain_graph.specs.Plain.{sizes_in}

-- its names are more than may be, and no pair may pass the limits
abbrev pub JoinsTooMany : Limits → List (ℕ × ℕ) → ℕ → ℕ → ℕ → Type 0
JoinsTooMany set pairs parent child n =
    (members : List ℕ) × (set.defer ≡ false) × JoinsTo pairs parent child members × (n ≡ length members) × (set.count < n)

-- its total size is larger than may be, and no pair may pass the limits
abbrev pub JoinsTooLarge : Limits → List Tx → List (ℕ × ℕ) → ℕ → ℕ → ℕ → Type 0
JoinsTooLarge set txs pairs parent child n =
    (members : List ℕ) × (set.defer ≡ false) × JoinsTo pairs parent child members × (n ≡ sum_by (sizes_in txs) members) × (set.size < n)

-- the refusal that it meets
abbrev pub JoinRefusalIs : Limits → List Tx → List (ℕ × ℕ) → ℕ → ℕ → Option Refusal → Type 0
JoinRefusalIs set txs pairs parent child =
    FirstAt (JoinsTooMany set pairs parent child) Count (FirstAt (JoinsTooLarge set txs pairs parent child) ClusterSize NoRefusal)
