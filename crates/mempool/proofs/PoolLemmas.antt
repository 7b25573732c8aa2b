-- Steps of a graph beside its mined blocks.
use Rattle.std.proofs.Common.{◌≡◌, ◌≤◌, ◌*◌, ℕ, ℤ, List, [], ◌∷◌, length, is_ok, if◌then◌else◌, Ok, Err, subst, refl, lit≤}
use Rattle.std.proofs.lemmas.List.{length-map}
use Rattle.std.specs.declared.result.Result.{Result}
use Rattle.graph_model.specs.declared.names.Refusal.{Refusal}
use Rattle.lists.proofs.Entries.{Contains-head, none_in_empty}
use Rattle.graph_model.specs.Commands.{Command}
use Rattle.graph_model.specs.Replies.{Reply}
use Rattle.graph_model.specs.Refusals.{latest_ids}
use Rattle.graph_model.specs.States.{MinedBlock, State, start}
use Rattle.tx_graph.specs.Kept as graphs
use Rattle.reorg.specs.Kept.{Kept, StandsFor, MakesStep}
use Rattle.reorg.specs.Blocks.{HaveAtMost}
use Rattle.reorg.specs.Laws.{LeavesBlocks}
use Rattle.reorg.proofs.Lifted.{lifted}
use Rattle.mempool.specs.declared.request.Change.{Change}
use Rattle.mempool.specs.declared.request.Change.TheVariants as changes
use Rattle.mempool.specs.declared.request.Search.{Search}
use Rattle.mempool.specs.declared.request.Search.TheVariants as searches
use Rattle.mempool.specs.Pools.{IsPool, most_raised}
use Rattle.mempool.specs.Requests.{change_command, search_command}

abbrev pub pool_of : graphs.Kept → List MinedBlock → Kept
pool_of graph blocks = record { graph = graph; blocks = blocks }

-- ---- a step of the graph that leaves the blocks

pub pool_steps : (old new : graphs.Kept) (blocks : List MinedBlock) (seen : Kept) (command : Command) (reply : Reply) → LeavesBlocks command
    → pool_of old blocks ≡ seen → graphs.MakesStep old new command reply → MakesStep seen (pool_of new blocks) command reply
pool_steps old new blocks seen command reply leaves is steps =
    subst (λ (k : Kept). MakesStep k (pool_of new blocks) command reply) is (lifted old new command reply blocks leaves steps)

pub pool_stays : (old new : graphs.Kept) (blocks : List MinedBlock) (command : Command) (reply : Reply) → LeavesBlocks command
    → graphs.MakesStep old new command reply → IsPool (pool_of old blocks) → IsPool (pool_of new blocks)
pool_stays old new blocks command reply leaves steps pool =
    let next = lifted old new command reply blocks leaves steps pool.stands.0 pool.stands.1 in record { short = pool.short; stands = (next.0, next.1) }

-- a reading of the graph
pub pool_reads : (graph : graphs.Kept) (blocks : List MinedBlock) (seen : Kept) (command : Command) (reply : Reply) → LeavesBlocks command
    → pool_of graph blocks ≡ seen → graphs.MakesStep graph graph command reply → MakesStep seen seen command reply
pool_reads graph blocks seen command reply leaves is steps =
    subst (λ (k : Kept). MakesStep k k command reply) is (lifted graph graph command reply blocks leaves steps)

-- ---- the latest block, and no block

pub latest_short : (blocks : List MinedBlock) → HaveAtMost blocks most_raised → length (latest_ids blocks) ≤ most_raised
latest_short [] short = lit≤ tt
latest_short (block ∷ earlier) short = rw (length-map block.txs (λ (tx : ℕ × ℤ × ℕ). tx.0)) (short block (Contains-head block earlier))

pub few_restored : (blocks : List MinedBlock) (result : Result (List ℕ) Refusal) → HaveAtMost blocks most_raised
    → (if is_ok result then length (latest_ids blocks) else 0) ≤ most_raised
few_restored blocks (Ok ids) short = latest_short blocks short
few_restored blocks (Err why) short = lit≤ tt

pub pool_without_blocks : (graph : graphs.Kept) (blocks : List MinedBlock) → blocks ≡ [] → (state : State) → graphs.StandsFor graph state
    → state.plain.blocks ≡ [] → IsPool (pool_of graph blocks)
pool_without_blocks graph blocks none state stands empty = rw none record {
  short = λ block within. absurd (none_in_empty block within);
  stands = (state, record { graph = stands; blocks = rw empty tt });
}

-- ---- requests whose commands leave the blocks

pub change_leaves : (change : Change) → LeavesBlocks (change_command change)
change_leaves (changes.Limits set) = tt
change_leaves (changes.Add id fee size) = tt
change_leaves (changes.Dep parent child) = tt
change_leaves (changes.Fee id fee) = tt
change_leaves (changes.Remove id) = tt
change_leaves changes.Stage = tt
change_leaves changes.Commit = tt
change_leaves changes.Abort = tt

pub search_leaves : (search : Search) → LeavesBlocks (search_command search)
search_leaves (searches.Cluster id level) = tt
search_leaves (searches.Ancestors id level) = tt
search_leaves (searches.Descendants id level) = tt
