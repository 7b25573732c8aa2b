-- Steps of a graph beside its mined blocks.
use Rattle.std.proofs.Common.{◌≡◌, ◌≤◌, ◌+◌, length, List, [], Ok, Err, subst, sym, refl, inl, inr, Some, ℕ}
use Rattle.std.specs.Prelude.{IfOk}
use Rattle.outside.specs.declared.errors.NoMemory.{NoMemory}
use Rattle.graph_model.specs.declared.names.Limits.{Limits}
use Rattle.graph_model.specs.SameLaws.{AreSameBlocks}
use Rattle.std.specs.declared.result.Result.{Result}
use Rattle.graphs.specs.Rooms.{Room}
use Rattle.graphs.specs.declared.names.Level.{Level}
use Rattle.graph_model.specs.declared.names.Refusal.{Refusal}
use Rattle.graph_model.specs.declared.names.Refusal.TheVariants.{Oversized}
use Rattle.graph_model.specs.Commands.{Command}
use Rattle.graph_model.specs.Oversize.{IsOversized}
use Rattle.graph_model.specs.Refusals.{RefusalIs}
use Rattle.graph_model.specs.Replies.{Reply, Refused}
use Rattle.graph_model.specs.States.{MinedBlock, PlainState, State}
use Rattle.tx_graph.specs.Kept as graphs
use Rattle.reorg.specs.Kept.{Kept, MakesStep}
use Rattle.reorg.specs.Laws.{LeavesBlocks}
use Rattle.reorg.proofs.Lifted.{lifted}
use Rattle.desk.specs.declared.listing.Listing.{Listing}
use Rattle.desk.specs.declared.request.Change.{Change}
use Rattle.desk.specs.declared.request.Change.TheVariants as changes
use Rattle.desk.specs.declared.request.Search.{Search}
use Rattle.desk.specs.declared.request.Search.TheVariants as searches
use Rattle.desk.specs.declared.telling.Total.{Total}
use Rattle.desk.specs.Gatherings.{GathersOrder, GathersCorners, GathersText}
use Rattle.desk.specs.Pools.{IsPool, IsNew}
use Rattle.desk.specs.Requests.{change_command, search_command}

abbrev pub pool_of : graphs.Kept → List MinedBlock → Kept
pool_of graph blocks = record { graph = graph; blocks = blocks }

-- ---- a step of the graph that leaves the blocks

pub pool_steps : (old new : graphs.Kept) (blocks : List MinedBlock) (seen : Kept) (command : Command) (reply : Reply) → LeavesBlocks command
    → pool_of old blocks ≡ seen → graphs.MakesStep old new command reply → MakesStep seen (pool_of new blocks) command reply
pool_steps old new blocks seen command reply leaves is steps =
    subst (λ (k : Kept). MakesStep k (pool_of new blocks) command reply) is (lifted old new command reply blocks leaves steps)

pub pool_stays : (old new : graphs.Kept) (blocks : List MinedBlock) (found : Room) (command : Command) (reply : Reply) → LeavesBlocks command
    → graphs.MakesStep old new command reply → IsPool (pool_of old blocks) found → IsPool (pool_of new blocks) found
pool_stays old new blocks found command reply leaves steps pool =
    let next = lifted old new command reply blocks leaves steps pool.stands.0 pool.stands.1 in record { stands = (next.0, next.1); room = pool.room }

-- a reading of the graph
pub pool_reads : (graph : graphs.Kept) (blocks : List MinedBlock) (seen : Kept) (command : Command) (reply : Reply) → LeavesBlocks command
    → pool_of graph blocks ≡ seen → graphs.MakesStep graph graph command reply → MakesStep seen seen command reply
pool_reads graph blocks seen command reply leaves is steps =
    subst (λ (k : Kept). MakesStep k k command reply) is (lifted graph graph command reply blocks leaves steps)

-- a reading of the graph that a pool lends
pub graph_reads : (pool : Kept) (graph : graphs.Kept) (command : Command) (reply : Reply) → LeavesBlocks command → graph ≡ pool.graph
    → graphs.MakesStep graph graph command reply → MakesStep pool pool command reply
graph_reads pool graph command reply leaves is step =
    lifted pool.graph pool.graph command reply pool.blocks leaves (subst (λ (g : graphs.Kept). graphs.MakesStep g g command reply) is step)

-- a graph without mined blocks
pub pool_without_blocks : (graph : graphs.Kept) (blocks : List MinedBlock) (found : Room) (state : State) → graphs.StandsFor graph state
    → state.plain.blocks ≡ [] → blocks ≡ [] → 128 ≤ length found.ids + found.room → IsPool (pool_of graph blocks) found
pool_without_blocks graph blocks found state stands empty none room = rw none record {
  stands = (state, record { graph = stands; blocks = subst (AreSameBlocks []) (sym empty) tt });
  room = room;
}

pub pool_is_new : (limits : Limits) (graph : graphs.Kept) → graphs.StandsFor graph (graphs.start_within 128 limits) → graph.levels.issued ≡ 0
    → (r : Result Kept NoMemory) → IfOk r (λ pool. pool ≡ pool_of graph []) → IfOk r (IsNew limits)
pool_is_new limits graph start none (Ok pool) is = subst (IsNew limits) (sym is) (record { start = start; blocks = refl; none = none })
pool_is_new limits graph start none (Err e) is = tt

-- ---- what is gathered of the graph is gathered of the pool

pub pool_gathers_order : (May Pools : Reply → Type 0) → ((reply : Reply) → May reply → Pools reply) → (r : Result Listing Refusal)
    → GathersOrder May r → GathersOrder Pools r
pool_gathers_order May Pools lifts (Ok list) (parts, may, is) = (parts, lifts _ may, is)
pool_gathers_order May Pools lifts (Err why) h = elim h [ inl none ↦ inl none | inr may ↦ inr (lifts _ may) ]

pub pool_gathers_corners : (May Pools : Reply → Type 0) → ((reply : Reply) → May reply → Pools reply) → (r : Result (List Total) Refusal)
    → GathersCorners May r → GathersCorners Pools r
pool_gathers_corners May Pools lifts (Ok list) (points, may, is) = (points, lifts _ may, is)
pool_gathers_corners May Pools lifts (Err why) h = elim h [ inl none ↦ inl none | inr may ↦ inr (lifts _ may) ]

pub pool_gathers_text : (May Pools : Reply → Type 0) → ((reply : Reply) → May reply → Pools reply) → (r : Result (List ℕ) Refusal)
    → GathersText May r → GathersText Pools r
pool_gathers_text May Pools lifts (Ok list) (text, may, is) = (text, lifts _ may, is)
pool_gathers_text May Pools lifts (Err why) may = lifts _ may

-- ---- a command whose row starts with an oversized level is refused where the level is oversized

pub refused_over : (kept : graphs.Kept) (command : Command) (level : Level)
    → ((state : PlainState) → IsOversized state level → RefusalIs state command (Some Oversized))
    → ((state : State) → graphs.StandsFor kept state → IsOversized state.plain level) → graphs.MakesStep kept kept command (Refused Oversized)
refused_over kept command level row over state stands =
    (state, stands, inl (record { why = Oversized; first = row state.plain (over state stands); told = refl; same = refl }))

-- ---- requests whose commands leave the blocks

pub change_leaves : (change : Change) → LeavesBlocks (change_command change)
change_leaves (changes.Limits set) = tt
change_leaves (changes.Add id fee size) = tt
change_leaves (changes.Dep parent child) = tt
change_leaves (changes.Fee id fee) = tt
change_leaves (changes.Remove id) = tt
change_leaves changes.Stage = tt
change_leaves changes.Commit = tt
change_leaves changes.Abort = tt

pub search_leaves : (search : Search) → LeavesBlocks (search_command search)
search_leaves (searches.Cluster id level) = tt
search_leaves (searches.Ancestors id level) = tt
search_leaves (searches.Descendants id level) = tt
