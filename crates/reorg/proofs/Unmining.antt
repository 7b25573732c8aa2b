-- Steps that take the latest block back.
use Rattle.std.proofs.Common.{◌≡◌, ◌≢◌, ◌↔◌, ◌≤◌, ◌+◌, ◌-◌, ◌^◌, ℕ, ℤ, suc, List, [], ◌∷◌, length, Option, None, Some, refl, sym, ap, ◌∙◌, subst, inl, inr, ◌⊎◌, arith}
use Rattle.std.specs.Prelude.{Contains, slice_index_or, ◌<◌}
use Rattle.std.proofs.lemmas.List.{length-map}
use Rattle.lists.proofs.Entries.{Contains-head, Contains-later, rest_of}
use Rattle.graphs.specs.Certificates.{Txs}
use Rattle.graph_model.specs.declared.limits.TheConstants.{MAX_BLOCKS}
use Rattle.graph_model.specs.declared.names.Refusal.{Refusal}
use Rattle.graph_model.specs.declared.names.Refusal.TheVariants.{Full, Back, NoBlock, Memory, Staging}
use Rattle.graph_model.specs.Changes.{Restores, Unmines, begun, ids_of}
use Rattle.graph_model.specs.Commands.{Unmine}
use Rattle.graph_model.specs.Refusals.{BringsOver, IsFirst, IsInOver, RefusalIs, RestoreRow, latest_ids, latest_of}
use Rattle.graph_model.specs.Replies.{Refused, Unmined}
use Rattle.graph_model.specs.SameLaws.{IsSameBlock, AreSameBlocks}
use Rattle.graph_model.specs.States.{MinedBlock, PlainState, State, IsStaged}
use Rattle.graph_model.specs.Steps.{KeepsPicks, Step}
use Rattle.graph_model.proofs.MinedLemmas.{valid_unmined}
use Rattle.graph_model.proofs.OverLemmas.{latest_same}
use Rattle.tx_graph.specs.Kept as graphs
use Rattle.tx_graph.specs.Restored.{IsAnsweredBy, MayRestore, RestoreRefusalIs, RestoresSet}
use Rattle.reorg.specs.Blocks.{AreKept, HaveAtMost}
use Rattle.reorg.specs.Kept.{Kept, StandsFor, MakesStep}

-- ---- blocks that are the same

restores_as : (x y : MinedBlock) (old new : PlainState) → IsSameBlock x y → Restores old x.txs x.pairs new → Restores old y.txs y.pairs new
restores_as x y old new same back = subst (λ (txs : Txs). Restores old txs y.pairs new) same.txs (record {
  same = back.same;
  graph = record {
    names = back.graph.names;
    names_once = back.graph.names_once;
    pairs = λ a b. (
      λ here. elim ((back.graph.pairs a b).0 here) [ inl was ↦ inl was | inr put ↦ inr ((same.pairs a b).0 put.0, put.1) ],
      λ is. (back.graph.pairs a b).1 (elim is [ inl was ↦ inl was | inr put ↦ inr ((same.pairs a b).1 put.0, put.1) ]),
    );
    pairs_once = back.graph.pairs_once;
  };
  listed = back.listed;
  others = back.others;
})

turned : (x y : MinedBlock) → IsSameBlock x y → IsSameBlock y x
turned x y same = record { txs = sym same.txs; pairs = λ a b. ((same.pairs a b).1, (same.pairs a b).0) }

brings_as : (x y : MinedBlock) (state : PlainState) (why : Refusal) → IsSameBlock x y → BringsOver state x.txs x.pairs why
    → BringsOver state y.txs y.pairs why
brings_as x y state why same over = record {
  strict = over.strict;
  next = over.next;
  restores = restores_as x y state over.next same over.restores;
  id = over.id;
  first = subst (λ (txs : Txs). IsFirst (λ before id. (any : Refusal) × IsInOver over.next id any) (ids_of txs) over.id) same.txs over.first;
  over = over.over;
}

row_as : (x y : MinedBlock) (state : PlainState) (found : Option Refusal) → IsSameBlock x y → RestoreRow state x.txs x.pairs found
    → RestoreRow state y.txs y.pairs found
row_as x y state found same row = subst (λ (txs : Txs). RestoreRow state txs y.pairs found) same.txs (elim row [
  | inl live ↦ inl live
  | inr one ↦ inr (
    one.0,
    elim one.1 [
      | inl full ↦ inl full
      | inr two ↦ inr (
        two.0,
        elim two.1 [
          | inl over ↦ inl (over.0, brings_as x (record { txs = x.txs; pairs = y.pairs }) state over.0 pairs_alone over.1, over.2)
          | inr none ↦ inr (λ why over. none.0 why (brings_as (record { txs = x.txs; pairs = y.pairs }) x state why (turned x _ pairs_alone) over), none.1)
        ],
      )
    ],
  )
])
  where
    pairs_alone : IsSameBlock x (record { txs = x.txs; pairs = y.pairs })
    pairs_alone = record { txs = refl; pairs = same.pairs }

-- a state with the blocks of a list has as many
record IsSplit (block : MinedBlock) (earlier : List MinedBlock) (blocks : List MinedBlock) : Type 0 where
  first : MinedBlock
  rest : List MinedBlock
  at : blocks ≡ first ∷ rest
  same : IsSameBlock block first
  others : AreSameBlocks earlier rest

split : (block : MinedBlock) (earlier blocks : List MinedBlock) → AreSameBlocks (block ∷ earlier) blocks → IsSplit block earlier blocks
split block earlier [] none = absurd none
split block earlier (y ∷ ys) same = record { first = y; rest = ys; at = refl; same = same.0; others = same.1 }

none_kept : (blocks : List MinedBlock) → AreSameBlocks [] blocks → blocks ≡ []
none_kept [] same = refl
none_kept (y ∷ ys) none = absurd none

-- ---- the row

module _ (block : MinedBlock) (earlier : List MinedBlock) (state : State) (same : AreSameBlocks (block ∷ earlier) state.plain.blocks) where
  some_block : state.plain.blocks ≡ [] → ⊥
  some_block none = subst (AreSameBlocks (block ∷ earlier)) none same

  unmine_row : (found : Option Refusal) → RestoreRefusalIs state.plain block.txs block.pairs found → RefusalIs state.plain Unmine found
  unmine_row found row = elim row [
    | inl staged ↦ inl staged
    | inr one ↦ inr (
      one.0,
      inr (
        some_block,
        row_as block (latest_of state.plain.blocks) state.plain found
            (latest_same (block ∷ earlier) state.plain.blocks same) one.1,
      ),
    )
  ]

  -- a refusal of the graph is one of the command
  refused_here : (found : Option Refusal) (why : Refusal) → RestoreRefusalIs state.plain block.txs block.pairs found → IsAnsweredBy found why
      → Step state Unmine (Refused why) state
  refused_here None why row answered = elim answered [
    | inl told ↦ absurd (no_none why told)
    | inr lacks ↦ inr (inl (inl (record { none = unmine_row None row; may = tt; told = ap Refused lacks.0; same = refl })))
  ]
    where
      no_none : (why : Refusal) → None ≡ Some why → ⊥
      no_none why same = cc
  refused_here (Some other) why row answered = elim answered [
    | inl told ↦ inl (record { why = other; first = unmine_row (Some other) row; told = ap Refused (sym (one other why told)); same = refl })
    | inr lacks ↦ inr (inl (inr (record { why = other; first = unmine_row (Some other) row; may = lacks.1; told = ap Refused lacks.0; same = refl })))
  ]
    where
      one : (a b : Refusal) → Some a ≡ Some b → a ≡ b
      one a b same = cc

  -- ---- the block goes

  module _ (old new : graphs.Kept) (stands : graphs.StandsFor old state) (row : RestoreRefusalIs state.plain block.txs block.pairs None)
      (next : State) (next_stands : graphs.StandsFor new next) (back : RestoresSet block.txs block.pairs state next) where
    cut : IsSplit block earlier state.plain.blocks
    cut = split block earlier state.plain.blocks same

    -- the state that the graph leads to, without the block
    abbrev left : State
    left = record { plain = record next.plain { blocks = cut.rest }; picks = next.picks }

    unmines : Unmines state.plain left.plain
    unmines =
        let put : Restores state.plain cut.first.txs cut.first.pairs next.plain = restores_as block cut.first state.plain next.plain cut.same back.0 in (
          cut.first,
          cut.rest,
          cut.at,
          record {
            same = ap (λ (s : PlainState). record s { blocks = cut.rest }) put.same;
            graph = put.graph;
            listed = put.listed;
            others = put.others;
          },
        )

    left_stands : graphs.StandsFor new left
    left_stands = record {
      plain = record {
        limits = next_stands.plain.limits;
        most = next_stands.plain.most;
        begun = next_stands.plain.begun;
        table = next_stands.plain.table;
        main = next_stands.plain.main;
        staging = next_stands.plain.staging;
        valid = valid_unmined state.plain left.plain stands.plain.valid (unmine_row None row) unmines;
      };
      picks = next_stands.picks;
    }

    left_keeps : KeepsPicks state left
    left_keeps = record {
      picks = record { main = back.1.picks.main; staging = back.1.picks.staging };
      main = back.1.main;
      staging = back.1.staging;
    }

    unmined_here : (to : State) × StandsFor (record { graph = new; blocks = earlier }) to × Step state Unmine (Unmined (ids_of block.txs)) to
    unmined_here = (
      left,
      record { graph = left_stands; blocks = cut.others },
      inr (inr (record {
        none = unmine_row None row;
        accepts = record {
          plain = record {
            answer = ap (λ (txs : Txs). Unmined (ids_of txs)) (latest_same (block ∷ earlier) state.plain.blocks same).txs;
            change = unmines;
          };
          picks = left_keeps;
        };
      })),
    )

-- ---- the steps

module _ (old new : graphs.Kept) (block : MinedBlock) (earlier : List MinedBlock) where
  pub unmined_step : ((state : State) → graphs.StandsFor old state → RestoreRefusalIs state.plain block.txs block.pairs None)
      → graphs.Leads old new (RestoresSet block.txs block.pairs)
      → MakesStep (record { graph = old; blocks = block ∷ earlier }) (record { graph = new; blocks = earlier }) Unmine (Unmined (ids_of block.txs))
  unmined_step row leads state stands =
      let to = leads state stands.graph in
      unmined_here block earlier state stands.blocks old new stands.graph (row state stands.graph) to.0 to.1 to.2

  pub unmine_refused : (why : Refusal) → ((state : State) → graphs.StandsFor old state
      → (found : Option Refusal) × RestoreRefusalIs state.plain block.txs block.pairs found × IsAnsweredBy found why)
      → MakesStep (record { graph = old; blocks = block ∷ earlier }) (record { graph = old; blocks = block ∷ earlier }) Unmine (Refused why)
  unmine_refused why row state stands =
      let found = row state stands.graph in
      (state, stands, refused_here block earlier state stands.blocks found.0 why found.1 found.2)

-- without a block
module _ (kept : graphs.Kept) where
  pub without_staged : ((state : State) → graphs.StandsFor kept state → IsStaged state.plain)
      → MakesStep (record { graph = kept; blocks = [] }) (record { graph = kept; blocks = [] }) Unmine (Refused Staging)
  without_staged is state stands =
      (state, stands, inl (record { why = Staging; first = inl (is state stands.graph, refl); told = refl; same = refl }))

  pub without_block : ((state : State) → graphs.StandsFor kept state → IsStaged state.plain → ⊥)
      → MakesStep (record { graph = kept; blocks = [] }) (record { graph = kept; blocks = [] }) Unmine (Refused NoBlock)
  without_block none state stands = (
    state,
    stands,
    inl (record {
      why = NoBlock;
      first = inr (none state stands.graph, inl (none_kept state.plain.blocks stands.blocks, refl));
      told = refl;
      same = refl;
    }),
  )

-- ---- the first block

-- the first block of a list, and the others
pub record Begins (blocks : List MinedBlock) (block : MinedBlock) : Type 0 where
  pub earlier : List MinedBlock
  pub at : blocks ≡ block ∷ earlier

pub begins : (blocks : List MinedBlock) (block : MinedBlock) → 0 < length blocks → block ≡ slice_index_or blocks 0 block → Begins blocks block
begins [] block some at = absurd (let none : ⊥ = omega (arith, some) in none)
begins (x ∷ xs) block some at = record { earlier = xs; at = ap (λ b. b ∷ xs) (sym at) }

pub no_first : (blocks : List MinedBlock) → (0 < length blocks → ⊥) → blocks ≡ []
no_first [] none = refl
no_first (x ∷ xs) none = absurd (none (omega arith))

-- where the first one is taken off
pub left_are : (blocks fewer : List MinedBlock) (block : MinedBlock) (is : Begins blocks block) → blocks ≡ latest_of blocks ∷ fewer → is.earlier ≡ fewer
left_are blocks fewer block is cut = rest_of (sym is.at ∙ cut)

pub told_are : (blocks : List MinedBlock) (block : MinedBlock) (ids : List ℕ) (is : Begins blocks block) → ids ≡ latest_ids blocks → ids_of block.txs ≡ ids
told_are blocks block ids is told = sym (told ∙ ap latest_ids is.at)

-- ---- what is kept

pub may_restore : (kept : graphs.Kept) (block : MinedBlock) (earlier : List MinedBlock) → AreKept (block ∷ earlier)
    → kept.levels.issued + length (ids_of block.txs) ≤ 2 ^ 64 - 1 → MayRestore kept block.txs block.pairs
may_restore kept block earlier are few =
    let is = are.whole block (Contains-head block earlier) in
    record {
      some = is.some;
      once = is.once;
      in_range = λ id fee size here. let rate = is.rates id fee size here in record { fee = rate.0; some = rate.1.0; size = rate.1.1 };
      parents = is.parents;
      acyclic = is.acyclic;
      issued = subst (λ n. kept.levels.issued + n ≤ 2 ^ 64 - 1) (length-map block.txs _) few;
    }

pub kept_earlier : (block : MinedBlock) (earlier : List MinedBlock) → AreKept (block ∷ earlier) → AreKept earlier
kept_earlier block earlier are = record {
  few = let all : suc (length earlier) ≤ MAX_BLOCKS = are.few in omega (arith, all);
  whole = λ b here. are.whole b (Contains-later block b earlier here);
}

pub sizes_earlier : (block : MinedBlock) (earlier : List MinedBlock) (most : ℕ) → HaveAtMost (block ∷ earlier) most → HaveAtMost earlier most
sizes_earlier block earlier most were b here = were b (Contains-later block b earlier here)
