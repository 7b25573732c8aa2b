-- Steps that mine, with the blocks that are kept.
use Rattle.std.proofs.Common.{◌≡◌, ◌≤◌, ◌+◌, ℕ, List, [], ◌∷◌, length, None, Some, refl, sym, ap, ◌∙◌, subst, inl, inr, arith}
use Rattle.std.specs.Prelude.{Contains, take}
use Rattle.std.proofs.lemmas.List.{length-map}
use Rattle.lists.proofs.Entries.{Contains-head, Contains-later, Contains-cases}
use Rattle.graph_model.specs.declared.limits.TheConstants.{MAX_BLOCKS}
use Rattle.graph_model.specs.declared.names.Refusal.{Refusal}
use Rattle.graph_model.specs.declared.names.Refusal.TheVariants.{Memory}
use Rattle.graph_model.specs.Changes.{IsMinedBlock, Mines}
use Rattle.graph_model.specs.Commands.{Mine}
use Rattle.graph_model.specs.Replies.{Done, Refused}
use Rattle.graph_model.specs.SameLaws.{AreSameBlocks}
use Rattle.graph_model.specs.States.{MinedBlock, PlainState, State}
use Rattle.graph_model.specs.Steps.{Step}
use Rattle.graph_model.specs.Validity.{IsKeptBlock}
use Rattle.tx_graph.specs.Kept as graphs
use Rattle.tx_graph.specs.Restored.{Meets}
use Rattle.reorg.specs.Blocks.{AreKept, AreNamesOf, HaveAtMost, IsBlockOf, RefusesMine}
use Rattle.reorg.specs.Kept.{Kept, MakesStep}
use Rattle.reorg.proofs.Blocks.{same_front, in_front, front_short, same_block, kept_same}

-- ---- what changes nothing

module _ (kept : graphs.Kept) (blocks : List MinedBlock) (ids : List ℕ) where
  refused_step : (why : Refusal) → Meets kept (Mine ids) (Some why)
      → MakesStep (record { graph = kept; blocks = blocks }) (record { graph = kept; blocks = blocks }) (Mine ids) (Refused why)
  refused_step why row state stands = (state, stands, inl (record { why = why; first = row state stands.graph; told = refl; same = refl }))

  lacking_step : Meets kept (Mine ids) None
      → MakesStep (record { graph = kept; blocks = blocks }) (record { graph = kept; blocks = blocks }) (Mine ids) (Refused Memory)
  lacking_step row state stands = (state, stands, inr (inl (inl (record { none = row state stands.graph; may = tt; told = refl; same = refl }))))

  pub refused_any : (why : Refusal) → RefusesMine kept ids why
      → MakesStep (record { graph = kept; blocks = blocks }) (record { graph = kept; blocks = blocks }) (Mine ids) (Refused why)
  refused_any why refuses = elim refuses [
    | inl row ↦ refused_step why row
    | inr lacks ↦
        subst (λ w. MakesStep (record { graph = kept; blocks = blocks }) (record { graph = kept; blocks = blocks }) (Mine ids) (Refused w)) (sym lacks.0)
        (lacking_step lacks.1)
  ]

-- ---- a graph that refuses

-- a refused `mine` leaves the state
stays_refused : (old new : State) (ids : List ℕ) (why : Refusal) → Step old (Mine ids) (Refused why) new → new ≡ old
stays_refused old new ids why step = elim step [
  | inl refused ↦ refused.same
  | inr rest ↦ elim rest [
    | inl lacks ↦ elim lacks [ inl none ↦ none.same | inr gives ↦ gives.same ]
    | inr accepted ↦ absurd (not_done accepted.accepts.plain.answer)
  ]
]
  where
    not_done : Refused why ≡ Done → ⊥
    not_done same = cc

pub lifted_refusal : (old new : graphs.Kept) (blocks : List MinedBlock) (ids : List ℕ) (why : Refusal) → graphs.MakesStep old new (Mine ids) (Refused why)
    → MakesStep (record { graph = old; blocks = blocks }) (record { graph = new; blocks = blocks }) (Mine ids) (Refused why)
lifted_refusal old new blocks ids why steps state stands =
    let to = steps state stands.graph in (
      to.0,
      record {
        graph = to.1;
        blocks = subst (AreSameBlocks blocks) (sym (ap (λ (s : State). s.plain.blocks) (stays_refused state to.0 ids why to.2))) stands.blocks;
      },
      to.2,
    )

-- ---- a graph that mines

-- the block that an accepted `mine` puts in front
record PutsBlock (old : PlainState) (ids : List ℕ) (new : PlainState) : Type 0 where
  block : MinedBlock
  is : IsMinedBlock old ids block
  blocks : new.blocks ≡ take MAX_BLOCKS (block ∷ old.blocks)

puts_block : (old new : State) (ids : List ℕ) → Step old (Mine ids) Done new → PutsBlock old.plain ids new.plain
puts_block old new ids step = elim step [
  | inl refused ↦ absurd (no_refusal refused.why refused.told)
  | inr rest ↦ elim rest [
    | inl lacks ↦ elim lacks [ inl none ↦ absurd (no_refusal Memory none.told) | inr gives ↦ absurd (no_refusal Memory gives.told) ]
    | inr accepted ↦ of_change accepted.accepts.plain.change
  ]
]
  where
    no_refusal : (why : Refusal) → Done ≡ Refused why → ⊥
    no_refusal why same = cc

    of_change : Mines old.plain ids new.plain → PutsBlock old.plain ids new.plain
    of_change (block, is, lost) = record { block = block; is = is; blocks = ap (λ (s : PlainState). s.blocks) lost.2.same }

module _ (old new : graphs.Kept) (ids : List ℕ) (block : MinedBlock) (of : IsBlockOf old.levels.main.graph ids block)
    (names : AreNamesOf old.levels.main.graph ids) (steps : graphs.MakesStep old new (Mine ids) Done) (blocks : List MinedBlock) where
  abbrev after : List MinedBlock
  after = take MAX_BLOCKS (block ∷ blocks)

  pub mined_step : MakesStep (record { graph = old; blocks = blocks }) (record { graph = new; blocks = after }) (Mine ids) Done
  mined_step state stands =
      let to = steps state stands.graph in
      let puts : PutsBlock state.plain ids to.0.plain = puts_block state to.0 ids to.2 in (
        to.0,
        record {
          graph = to.1;
          blocks = subst (AreSameBlocks after) (sym puts.blocks) (same_front MAX_BLOCKS (block ∷ blocks) (puts.block ∷ state.plain.blocks)
              (same_block old ids block of names state stands.graph puts.block puts.is, stands.blocks));
        },
        to.2,
      )

  -- the block can be put back
  whole : (state : State) × graphs.StandsFor old state → IsKeptBlock block
  whole (state, stands) =
      let to = steps state stands in
      let puts : PutsBlock state.plain ids to.0.plain = puts_block state to.0 ids to.2 in
      kept_same block puts.block (same_block old ids block of names state stands puts.block puts.is)
      (to.1.plain.valid.blocks puts.block
      (subst (λ bs. Contains bs puts.block) (sym puts.blocks) (Contains-head puts.block (take 99 state.plain.blocks))))

  pub kept_mined : (state : State) × graphs.StandsFor old state → AreKept blocks → AreKept after
  kept_mined some kept = record {
    few = front_short MAX_BLOCKS (block ∷ blocks);
    whole = λ b here. elim (Contains-cases block b blocks (in_front MAX_BLOCKS (block ∷ blocks) b here)) [
      | inl same ↦ subst IsKeptBlock same (whole some)
      | inr was ↦ kept.whole b was
    ];
  }

  pub sizes_mined : (most : ℕ) → length ids ≤ most → HaveAtMost blocks most → HaveAtMost after most
  sizes_mined most few were b here = elim (Contains-cases block b blocks (in_front MAX_BLOCKS (block ∷ blocks) b here)) [
    | inl same ↦ subst (λ (x : MinedBlock). length x.txs ≤ most) same (subst (λ n. n ≤ most) (sym (ap length of.txs ∙ length-map ids _)) few)
    | inr was ↦ were b was
  ]
