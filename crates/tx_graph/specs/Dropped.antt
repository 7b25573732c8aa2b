-- Parts and sets of names that are dropped, and parts with the numbers of their clusters.
use Rattle.std.specs.Prelude.{◌≡◌, ◌↔◌, ◌⊎◌, ℕ, ◌*◌, ◌≤◌, true, unsigned_abs, List, [], Contains}
use Rattle.fee_rate.specs.declared.limits.TheConstants.{MAX_FEE}
use Rattle.graphs.specs.declared.names.Level.TheVariants.{Main}
use Rattle.lists.specs.Distinct.{AreDistinct}
use Rattle.graphs.specs.Closures.{Closure, is_ancestor, is_member}
use Rattle.graphs.specs.Graphs.{Graph}
use Rattle.graphs.specs.Certificates.{Part}
use Rattle.graph_model.specs.declared.names.Picked.{Picked}
use Rattle.graph_model.specs.declared.names.Refusal.{Refusal}
use Rattle.graph_model.specs.declared.names.Refusal.TheVariants.{Empty, Memory, Oversized}
use Rattle.graph_model.specs.Blocks.{IsBlock, ShareComponent}
use Rattle.graph_model.specs.Changes.{DropsFromTop, IsLast}
use Rattle.graph_model.specs.States.{State}
use Rattle.graph_model.specs.Steps.{KeepsPicks}
use Rattle.cluster_store.specs.Stores.{Shown}
use Rattle.levels.specs.Levels.{Levels, IsBest, IsWithin}
use Rattle.levels.specs.Oversize.{IsOversized}
use Rattle.tx_graph.specs.Kept.{Kept, StandsFor}

-- what is told of a part: its names in their order, with their fee and size
pub record IsPicked (part : Part) (picked : Picked) : Type 0 where
  pub fee : picked.fee ≡ part.rate.fee
  pub size : picked.size ≡ part.rate.size
  pub ids : picked.ids ≡ part.ids

-- The last part of main, told so; main isn't over the limits, and its parts are an optimal order.
pub record IsLastOf (levels : Levels) (part : Part) (picked : Picked) : Type 0 where
  pub within : IsWithin levels Main
  pub best : IsBest levels.main
  pub last : IsLast levels.main.parts part
  pub told : IsPicked part picked

-- Why the last part of main can't be had: main is over the limits; or it isn't, and has no part, or there is no memory.
abbrev pub LastFails : Levels → Refusal → Type 0
LastFails levels why =
    ((why ≡ Oversized) × IsOversized levels.limits levels.main.graph)
    ⊎ (IsWithin levels Main
    × (((why ≡ Empty) × (levels.main.parts ≡ [])) ⊎ ((why ≡ Memory) × ((part : Part) × IsLast levels.main.parts part))))

-- two parts have one number exactly where they are of one component
abbrev pub AreOfClusters : Graph → List Shown → Type 0
AreOfClusters graph parts = (s t : Shown) → Contains parts s → Contains parts t → (s.number ≡ t.number) ↔ ShareComponent graph s.part t.part

-- parts that a block of this size takes of main's, whichever of its states the graph stands for
abbrev pub IsBlockOf : Kept → ℕ → List Part → Type 0
IsBlockOf kept size taken = (state : State) → StandsFor kept state → IsBlock state.plain.main kept.levels.main.parts size taken

-- no part pays more than MAX_FEE satoshis for each virtual byte, nor less than as many below 0
abbrev pub ArePaidBySize : List Part → Type 0
ArePaidBySize parts = (part : Part) → Contains parts part → unsigned_abs part.rate.fee ≤ MAX_FEE * part.rate.size

-- Every descendant of a listed name is listed too.
abbrev pub HasDescendants : Closure → List ℕ → Type 0
HasDescendants graph ids = (a d : ℕ) → Contains ids a → is_ancestor graph a d ≡ true → Contains ids d

-- Names of a level, each once, that may go together: they leave nobody without an ancestor.
pub record MayGo (graph : Closure) (ids : List ℕ) : Type 0 where
  pub once : AreDistinct ids
  pub live : (id : ℕ) → Contains ids id → is_member graph id ≡ true
  pub descendants : HasDescendants graph ids

-- These names are dropped from the top level with their pairs, and a level that this leaves as it was keeps its pick. It is what `trim` does with
-- the names that trimming drops.
abbrev pub DropsSet : List ℕ → State → State → Type 0
DropsSet ids old new = DropsFromTop old.plain ids new.plain × KeepsPicks old new
