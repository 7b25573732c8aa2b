-- What several transactions of a graph have together, beside its mined blocks.
use Rattle.std.proofs.Common.{◌≡◌, ℕ, List, Ok, Err, subst}
use Rattle.std.specs.Prelude.{IfOk}
use Rattle.std.specs.declared.result.Result.{Result}
use Rattle.outside.specs.declared.errors.NoMemory.{NoMemory}
use Rattle.graphs.specs.declared.names.Kin.{Kin}
use Rattle.graphs.specs.declared.names.Level.{Level}
use Rattle.graphs.specs.Graphs.{Lists}
use Rattle.graphs.specs.Rooms.{Room}
use Rattle.graph_model.specs.States.{MinedBlock, State, level_of}
use Rattle.tx_graph.specs.Kept as graphs
use Rattle.tx_graph.specs.Unions.{IsKinIn, LieInComponents}
use Rattle.reorg.specs.Kept.{Kept}
use Rattle.desk.specs.Unions.{AreInClusters, AreKinOf}
use Rattle.desk.proofs.PoolLemmas.{pool_of}

pub pool_kin : (graph : graphs.Kept) (blocks : List MinedBlock) (seen : Kept) (kin : Kin) (level : Level) (ids : List ℕ) (r : Result Room NoMemory)
    → pool_of graph blocks ≡ seen
    → IfOk r (λ found. (state : State) → graphs.StandsFor graph state → Lists (IsKinIn kin (level_of state.plain level) ids) found.ids)
    → IfOk r (λ found. AreKinOf seen kin level ids found.ids)
pool_kin graph blocks seen kin level ids (Ok found) is are =
    subst (λ (k : Kept). AreKinOf k kin level ids found.ids) is (λ state stands. are state stands.graph)
pool_kin graph blocks seen kin level ids (Err e) is are = tt

pub pool_clusters : (graph : graphs.Kept) (blocks : List MinedBlock) (seen : Kept) (level : Level) (ids : List ℕ) (r : Result ℕ NoMemory)
    → pool_of graph blocks ≡ seen
    → IfOk r (λ count. (state : State) → graphs.StandsFor graph state → LieInComponents (level_of state.plain level) ids count)
    → IfOk r (λ count. AreInClusters seen level ids count)
pool_clusters graph blocks seen level ids (Ok count) is are =
    subst (λ (k : Kept). AreInClusters k level ids count) is (λ state stands. are state stands.graph)
pool_clusters graph blocks seen level ids (Err e) is are = tt
