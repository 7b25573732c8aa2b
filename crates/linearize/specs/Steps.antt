-- The steps of an order's solves.
use Rattle.std.specs.Prelude.{◌≡◌, ℕ, ◌+◌, ◌*◌, ◌≤◌, List, [], ◌∷◌, ◌++◌, length, Contains}
use Rattle.std.specs.List.{sum_by}
use Rattle.closure_flow.specs.Bounds.{most_steps}
use Rattle.closure_flow.specs.Scratches.{Room}
use Rattle.graphs.specs.Certificates.{Part}

-- a solve: how many places it was for, how many steps it took, and how many the search behind it did, for a smaller set
-- of the same rate
pub record Solve : Type 0 where
  pub places : ℕ
  pub steps : ℕ
  pub searched : ℕ

-- a solve of at most n places, and the search behind it, may take so many steps
pub record IsSolve (n : ℕ) (solve : Solve) : Type 0 where
  pub within : solve.places ≤ n
  pub least : solve.places ≤ solve.steps
  pub most : solve.steps ≤ most_steps solve.places
  pub most_searched : solve.searched ≤ solve.places * solve.places

-- the steps of both
abbrev pub steps_of : Solve → ℕ
steps_of solve = solve.steps + solve.searched

-- The steps grew by those of one solve of n places: one for each of them, and one for each place that the queue gave.
pub record AreOfOne (n : ℕ) (old new : Room) (before after : ℕ) : Type 0 where
  pub solve : Solve
  pub is : IsSolve n solve
  pub all : solve.places ≡ n
  pub sum : after ≡ before + steps_of solve
  pub gave : old.given ≤ new.given
  pub counted : after + old.given ≡ before + n + new.given

-- The steps grew by one at least for each place that the queue gave, and beside these for each of n places that solves
-- began with.
pub record AreAtLeast (n : ℕ) (old new : Room) (before after : ℕ) : Type 0 where
  pub gave : old.given ≤ new.given
  pub least : before + n + new.given ≤ after + old.given

-- how a set came to be parts: it is one, or it was cut in two
pub data Cuts : Type 0 where
  Uncut : (part : Part) → Cuts
  Cut : (first rest : Cuts) → Cuts

-- the parts that came of it, in their order
abbrev pub parts_of : Cuts → List Part
parts_of (Uncut part) = part ∷ []
parts_of (Cut first rest) = parts_of first ++ parts_of rest

-- how many places they have
abbrev pub places_of : Cuts → ℕ
places_of (Uncut part) = length part.ids
places_of (Cut first rest) = places_of first + places_of rest

-- how many places its solves began with: one solve of each set that there was, cut or not, began with all places of the set
abbrev pub begun_by : Cuts → ℕ
begun_by (Uncut part) = length part.ids
begun_by (Cut first rest) = places_of first + places_of rest + (begun_by first + begun_by rest)

-- The steps grew by those of some solves and by nothing else. One of these is of all n places, and they are fewer than
-- 2 · n, since each one that splits its places leaves two sets that aren't empty. They cut the places down to parts: each
-- place that one of them began with is a step, each that the queue gave meanwhile is one, and there is no other.
pub record AreOfSolves (n : ℕ) (parts : List Part) (old new : Room) (before after : ℕ) : Type 0 where
  pub solves : List Solve
  pub each : (solve : Solve) → Contains solves solve → IsSolve n solve
  pub all : (solve : Solve) × Contains solves solve × (solve.places ≡ n)
  pub few : length solves + 1 ≤ 2 * n
  pub sum : after ≡ before + sum_by steps_of solves
  pub cuts : Cuts
  pub left : parts ≡ parts_of cuts
  pub whole : places_of cuts ≡ n
  pub gave : old.given ≤ new.given
  pub counted : after + old.given ≡ before + begun_by cuts + new.given

-- parts came behind others, by solves of n places
abbrev pub AddsBySolves : ℕ → List Part → List Part → Room → Room → ℕ → ℕ → Type 0
AddsBySolves n front all old new before after =
    (parts : List Part) × (all ≡ front ++ parts) × AreOfSolves n parts old new before after
