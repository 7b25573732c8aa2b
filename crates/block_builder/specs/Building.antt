-- What a block builder shows, what it offers, and what a step past a part does. After `BlockBuilder` in Bitcoin Core's `txgraph.h`.
use Rattle.std.specs.Prelude.{◌≡◌, ◌↔◌, ◌||◌, ℕ, Bool, true, false, nat_eq, Option, Some, None, List, [], ◌∷◌, ◌++◌, map, get_or, Contains, option_to_list, refl, length, ◌<◌}
use Rattle.std.specs.Coded.{Coded, code_by, coded×, coded_bool, coded_list}
use Rattle.std.specs.Mem.{FitsInMemory}
use Rattle.graphs.specs.Certificates.{Part}
use Rattle.graphs.specs.Graphs.{Graph}
use Rattle.graph_model.specs.Blocks.{ShareComponent}
use Rattle.graph_model.specs.States.{State}
use Rattle.cluster_store.specs.Stores.{Shown, shown_code}
use Rattle.tx_graph.specs.Dropped.{AreOfClusters}
use Rattle.tx_graph.specs.Kept.{Kept, StandsFor, kept_code}
use Rattle.tx_graph.specs.contracts.graph.TxGraph as graphs
use denote.Param.{param, number}

-- A builder: its graph, the parts that it hasn't gone past, each with the number of its cluster, and for each number whether a part of the
-- cluster was left out.
pub record Building : Type 0 where
  pub graph : Kept
  pub ahead : List Shown
  pub marks : List Bool

abbrev pub building_code : Coded Building
building_code =
    code_by (Kept × (List Shown × List Bool)) (coded× kept_code (coded× (coded_list shown_code) (coded_list coded_bool)))
    (λ b. (b.graph, (b.ahead, b.marks))) (λ p. record { graph = p.0; ahead = p.1.0; marks = p.1.1 }) (λ _. refl)

-- A graph whose sets of names have so many words fits in memory. A builder keeps that of its graph, which it only borrows.
abbrev pub GraphFits : ℕ → Type 0
GraphFits words = FitsInMemory (graphs.the_row (param 0 (number words)))

-- ---- numbers that are marked

abbrev pub is_marked : List Bool → ℕ → Bool
is_marked marks number = get_or marks number false

-- one number more is marked
abbrev pub AddsMark : List Bool → List Bool → ℕ → Type 0
AddsMark old new number = (n : ℕ) → is_marked new n ≡ (nat_eq n number || is_marked old n)

-- parts gone past, each with the mark whether it was taken, without the numbers
abbrev pub seen : Shown × Bool → Part × Bool
seen entry = (entry.0.part, entry.1)

-- A number is marked exactly where a part of its cluster was left out.
abbrev pub TellsLeftOut : List Bool → List (Shown × Bool) → Type 0
TellsLeftOut marks gone = (n : ℕ) → (is_marked marks n ≡ true) ↔ ((s : Shown) × Contains gone (s, false) × (s.number ≡ n))

-- The first part, and behind it those of marked clusters, are gone past, up to the first part of another cluster.
pub record PassesOver (marks : List Bool) (old new : List Shown) : Type 0 where
  pub first : Shown
  pub passed : List Shown
  pub cut : old ≡ first ∷ (passed ++ new)
  pub out : (s : Shown) → Contains passed s → is_marked marks s.number ≡ true
  pub fresh : (s : Shown) (rest : List Shown) → new ≡ s ∷ rest → is_marked marks s.number ≡ false

-- the parts of a walk, of which the first is known
abbrev pub ahead_of : Option Shown → List Shown → List Shown
ahead_of None behind = []
ahead_of (Some s) behind = s ∷ behind

-- ---- what was gone past

-- The builder has gone past these parts, the first of main's order, each with the mark whether it was included, and none of a skipped
-- component comes next. Two parts have one number exactly where they are of one component.
pub record HasPassed (builder : Building) (past : List (Part × Bool)) : Type 0 where
  pub gone : List (Shown × Bool)
  pub past_is : past ≡ map seen gone
  pub whole : map (λ s. s.part) (map (λ e. e.0) gone ++ builder.ahead) ≡ builder.graph.levels.main.parts
  pub numbers : (state : State) → StandsFor builder.graph state → AreOfClusters state.plain.main (map (λ e. e.0) gone ++ builder.ahead)
  pub left_out : TellsLeftOut builder.marks gone
  pub fresh : (s : Shown) (rest : List Shown) → builder.ahead ≡ s ∷ rest → is_marked builder.marks s.number ≡ false

-- What is offered behind some parts of an order: the part that follows them, of whose component none was left out. None is offered only
-- where no part follows.
pub record IsOffered (graph : Graph) (parts : List Part) (past : List (Part × Bool)) (offered : Option Part) : Type 0 where
  pub rest : List Part
  pub whole : parts ≡ map (λ e. e.0) past ++ (option_to_list offered ++ rest)
  pub ended : offered ≡ None → rest ≡ []
  pub fresh : (part earlier : Part) → offered ≡ Some part → Contains past (earlier, false) → ShareComponent graph earlier part → ⊥

-- a part was left out whose component the part is of
abbrev pub IsOfLeftOut : Graph → List (Part × Bool) → Part → Type 0
IsOfLeftOut graph past part = (earlier : Part) × Contains past (earlier, false) × ShareComponent graph earlier part

-- A step past the part that is offered, with the mark whether it was included: behind it as many parts as are of components of which a part
-- was left out are passed over, each as left out.
pub record GoesPast (past : List (Part × Bool)) (mark : Bool) (old new : Building) : Type 0 where
  pub part : Part
  pub passed : List Part
  pub ahead : map (λ s. s.part) old.ahead ≡ part ∷ (passed ++ map (λ s. s.part) new.ahead)
  pub skipped : (state : State) → StandsFor old.graph state → (p : Part) → Contains passed p → IsOfLeftOut state.plain.main (past ++ (part, mark) ∷ []) p
  pub after : HasPassed new ((past ++ (part, mark) ∷ []) ++ map (λ p. (p, false)) passed)

-- whatever it has gone past; and fewer parts are ahead
abbrev pub StepsPast : Bool → Building → Building → Type 0
StepsPast mark old new =
    (new.graph ≡ old.graph) × (length new.ahead < length old.ahead)
    × ((past : List (Part × Bool)) → HasPassed old past → GoesPast past mark old new)
