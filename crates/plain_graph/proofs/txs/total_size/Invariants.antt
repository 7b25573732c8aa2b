use Rattle.std.proofs.Common.{◌≡◌, ◌*◌, ◌≤◌, take}
use Rattle.std.specs.Prelude.{sum_by}
use Rattle.fee_rate.specs.declared.limits.TheConstants.{MAX_SIZE}
use Rattle.graph_model.specs.States.{size_in}
use Rattle.plain_graph.specs.Plain.{entry_in}
use Rattle.plain_graph.proofs.txs.total_size.Given as goal

abbrev pub invariant-loop-id : goal.invariant-loop-id
invariant-loop-id l = (l.total ≡ sum_by (λ id. size_in (entry_in l.txs id)) (take l.id-index l.ids)) × (l.total ≤ MAX_SIZE * l.id-index)
