-- Steps of a graph by commands that neither mine nor take back leave the mined blocks as they are.
use Rattle.std.proofs.Common.{◌≡◌, ℕ, List, [], ◌∷◌, Option, None, Some, refl, sym, ap, subst, ◌∙◌, inl, inr}
use Rattle.graphs.specs.Graphs.{Graph}
use Rattle.graph_model.specs.Changes.{begun, Forgets, Changes, DropsFromTop}
use Rattle.graph_model.specs.Commands.{Command, SetLimits, Add, Dep, SetFee, Remove, Mine, Evict, Stage, Commit, Abort, Settle, Trim, Unmine, Compare, Order, Diagram, Proof, Cluster, Ancestors, Descendants, Chunk, Before, Block, Count, Dump}
use Rattle.graph_model.specs.Replies.{Reply}
use Rattle.graph_model.specs.SameLaws.{AreSameBlocks}
use Rattle.graph_model.specs.States.{PlainState, Picks, MinedBlock, State, with_top}
use Rattle.graph_model.specs.Steps.{Step}
use Rattle.tx_graph.specs.Kept as graphs
use Rattle.reorg.specs.Kept.{Kept, StandsFor, MakesStep}
use Rattle.reorg.specs.Laws.{LeavesBlocks, OtherCommandsKeepBlocks}

-- ---- the blocks of a state

top_stays : (state : PlainState) (top : Graph) → (with_top state top).blocks ≡ state.blocks
top_stays state top = of state.staging refl
  where
    of : (staging : Option Graph) → state.staging ≡ staging → (with_top state top).blocks ≡ state.blocks
    of None is = ap (λ (s : Option Graph). (elim s as (λ _. PlainState) [ None ↦ record state { main = top } | Some _ ↦ record state { staging = Some top } ]).blocks) is
    of (Some graph) is = ap (λ (s : Option Graph). (elim s as (λ _. PlainState) [ None ↦ record state { main = top } | Some _ ↦ record state { staging = Some top } ]).blocks) is

forgets_stays : (mid new : PlainState) → Forgets mid new → new.blocks ≡ mid.blocks
forgets_stays mid new forgets = ap (λ (s : PlainState). s.blocks) forgets.same

-- an equal state has the same blocks
is_stays : (mid new : PlainState) → new ≡ mid → new.blocks ≡ mid.blocks
is_stays mid new same = ap (λ (s : PlainState). s.blocks) same

drops_stays : (old new : PlainState) (ids : List ℕ) → DropsFromTop old ids new → new.blocks ≡ old.blocks
drops_stays old new [] drops = is_stays (begun old) new drops
drops_stays old new (id ∷ ids) (graph, drops, forgets) = forgets_stays (with_top (begun old) graph) new forgets ∙ top_stays (begun old) graph

changes_stay : (picks : Picks) (old new : PlainState) (command : Command) → LeavesBlocks command → Changes picks old command new → new.blocks ≡ old.blocks
changes_stay picks old new (SetLimits limits) leaves change = is_stays _ new change
changes_stay picks old new (Add id fee size) leaves change = is_stays _ new change ∙ top_stays _ _
changes_stay picks old new (Dep parent child) leaves change = elim change [
  | inl there ↦ is_stays _ new there.1
  | inr more ↦ is_stays _ new more.1 ∙ top_stays _ _
]
changes_stay picks old new (SetFee id fee) leaves change = is_stays _ new change
changes_stay picks old new (Remove id) leaves (graph, without, forgets) = forgets_stays _ new forgets ∙ top_stays _ graph
changes_stay picks old new (Mine ids) none change = absurd none
changes_stay picks old new Evict leaves change = forgets_stays _ new change.4.2
changes_stay picks old new Stage leaves change = is_stays _ new change
changes_stay picks old new Commit leaves change = forgets_stays _ new change
changes_stay picks old new Abort leaves change = forgets_stays _ new change
changes_stay picks old new Settle leaves change = elim change [
  | inl commits ↦ forgets_stays _ new commits.1
  | inr aborts ↦ forgets_stays _ new aborts.1
]
changes_stay picks old new Trim leaves (ids, trimmed, drops) = drops_stays old new ids drops
changes_stay picks old new Unmine none change = absurd none
changes_stay picks old new Compare leaves change = is_stays old new change
changes_stay picks old new (Order level) leaves change = is_stays old new change
changes_stay picks old new (Diagram level) leaves change = is_stays old new change
changes_stay picks old new (Proof level) leaves change = is_stays old new change
changes_stay picks old new (Cluster id level) leaves change = is_stays old new change
changes_stay picks old new (Ancestors id level) leaves change = is_stays old new change
changes_stay picks old new (Descendants id level) leaves change = is_stays old new change
changes_stay picks old new (Chunk id) leaves change = is_stays old new change
changes_stay picks old new (Before a b) leaves change = is_stays old new change
changes_stay picks old new (Block size) leaves change = is_stays old new change
changes_stay picks old new (Count level) leaves change = is_stays old new change
changes_stay picks old new Dump leaves change = is_stays old new change

-- a state that stays keeps its blocks
same_stays : (old new : State) → new ≡ old → new.plain.blocks ≡ old.plain.blocks
same_stays old new same = ap (λ (s : State). s.plain.blocks) same

pub step_stays : (old new : State) (command : Command) (reply : Reply) → LeavesBlocks command → Step old command reply new
    → new.plain.blocks ≡ old.plain.blocks
step_stays old new command reply leaves step = elim step [
  | inl refused ↦ same_stays old new refused.same
  | inr rest ↦ elim rest [
    | inl lacks ↦ elim lacks [ inl none ↦ same_stays old new none.same | inr gives ↦ same_stays old new gives.same ]
    | inr accepted ↦ changes_stay old.picks old.plain new.plain command leaves accepted.accepts.plain.change
  ]
]

-- ---- the law

pub lifted : OtherCommandsKeepBlocks
lifted old new command reply blocks leaves steps state stands =
    let to = steps state stands.graph in (
      to.0,
      record {
        graph = to.1;
        blocks = subst (AreSameBlocks blocks) (sym (step_stays state to.0 command reply leaves to.2)) stands.blocks;
      },
      to.2,
    )
