-- What the calls of a builder do, by its fields.
use Rattle.std.proofs.Common.{◌≡◌, ◌≢◌, ◌≤◌, ℕ, Bool, true, false, List, [], ◌∷◌, map, Contains, refl, sym, ◌∙◌, subst}
use Rattle.lists.proofs.Entries.{Contains-map, first_of}
use Rattle.graphs.specs.Certificates.{Part}
use Rattle.cluster_store.specs.Stores.{Shown}
use Rattle.tx_graph.specs.Kept.{Kept}
use Rattle.block_builder.specs.Building.{Building, AddsMark, PassesOver, StepsPast}
use Rattle.block_builder.proofs.Marking.{left_taken, left_marked}
use Rattle.block_builder.proofs.Passing.{steps_past}

-- a builder by its fields
abbrev pub building_of : Kept → List Shown → List Bool → Building
building_of graph ahead marks = record { graph = graph; ahead = ahead; marks = marks }

module _ (graph : Kept) (ahead left : List Shown) (marks seen_marks : List Bool) (over : PassesOver seen_marks ahead left) where
  pub included : seen_marks ≡ marks → StepsPast true (building_of graph ahead marks) (building_of graph left marks)
  included same =
      let over_these = subst (λ (ms : List Bool). PassesOver ms ahead left) same over in
      steps_past true (building_of graph ahead marks) (building_of graph left marks) over_these refl
      (λ gone tells. left_taken marks gone tells over_these.first)

  pub skipped : (new : List Bool) (s : Shown) (rest : List Shown) → seen_marks ≡ new → ahead ≡ s ∷ rest → AddsMark marks new s.number
      → StepsPast false (building_of graph ahead marks) (building_of graph left new)
  skipped new s rest same is adds =
      let over_these : PassesOver new ahead left = subst (λ (ms : List Bool). PassesOver ms ahead left) same over in
      let first : over_these.first ≡ s = first_of (sym over_these.cut ∙ is) in
      steps_past false (building_of graph ahead marks) (building_of graph left new) over_these refl
      (λ gone tells. left_marked marks gone tells over_these.first new (subst (λ (t : Shown). AddsMark marks new t.number) (sym first) adds))

-- no part of a walk is below a size that no part of main is below
pub walk_bounded : (least : ℕ) (parts : List Part) (shown : List Shown) → map (λ (s : Shown). s.part) shown ≡ parts
    → ((part : Part) → Contains parts part → least ≤ part.rate.size) → (s : Shown) → Contains shown s → least ≤ s.part.rate.size
walk_bounded least parts shown is low s here =
    low s.part (subst (λ (ps : List Part). Contains ps s.part) is (Contains-map (λ (t : Shown). t.part) shown s here))
