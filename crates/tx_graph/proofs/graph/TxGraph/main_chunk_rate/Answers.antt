-- The rate is that of the chunk, and a refusal that of the chunk.
use Rattle.std.proofs.Common.{refl}
use Rattle.cluster_store.specs.Lent.{lent}
use Rattle.tx_graph.proofs.Asked.{handed}
use Rattle.tx_graph.proofs.graph.TxGraph.main_chunk_rate.Goals as goal

pub returns-in_err-part : goal.returns-in_err-part
returns-in_err-part g c = handed _ _ c.from_residual.result c.in_err-part.field-0.0 c.from_residual.ensures.1 c.in_err-part.ensures.step

pub returns : goal.returns
returns g c = (lent c.in_ok-part.part, c.in_ok-part.ensures.step, refl)
