-- A command meets one refusal in a state, or none.
use Rattle.std.proofs.Common.{sym, ap, ◌∙◌, length}
use Rattle.std.specs.Prelude.{sum_by}
use Rattle.graph_model.specs.declared.names.Refusal.TheVariants.{Late, Range, Fee, Size, Taken, ClusterSize, Full, Unknown, Cycle, Count, Staging, Twice, Parent, Empty, NoStaging, Oversized, NoBlock}
use Rattle.graph_model.specs.States.{PlainState}
use Rattle.graph_model.specs.Commands.{Command, SetLimits, Add, Dep, SetFee, Remove, Mine, Evict, Stage, Commit, Abort, Settle, Trim, Unmine, Dump, Compare, Order, Diagram, Proof, Cluster, Ancestors, Descendants, Chunk, Before, Block}
use Rattle.graph_model.specs.Commands as commands
use Rattle.graph_model.specs.Refusals.{IsFirst, OverCount, OverSize, latest_of, RefusalIs}
use Rattle.graph_model.proofs.RowLemmas.{IsOne, end_one, first_one, first_at_one, joins_once, first_entry}
use Rattle.graph_model.proofs.OverLemmas.{one_restore}

pub one_refusal : (state : PlainState) (command : Command) → IsOne (RefusalIs state command)
one_refusal state (SetLimits limits) = first_one _ Late _ (first_one _ Range _ end_one)
one_refusal state (Add id fee size) =
    first_one _ Fee _ (first_one _ Size _ (first_one _ Taken _ (first_one _ (ClusterSize size) _ (first_one _ Full _ end_one))))
one_refusal state (Dep parent child) =
    first_one _ (Unknown parent) _ (first_one _ (Unknown child) _ (first_one _ Cycle _
    (first_at_one (OverCount state parent child) Count _
    (λ m n one other. one.3 ∙ ap length (joins_once _ parent child one.0 other.0 one.2 other.2) ∙ sym other.3)
    (first_at_one (OverSize state parent child) ClusterSize _
    (λ m n one other. one.3 ∙ ap (sum_by _) (joins_once _ parent child one.0 other.0 one.2 other.2) ∙ sym other.3) end_one))))
one_refusal state (SetFee id fee) = first_one _ Fee _ (first_one _ (Unknown id) _ end_one)
one_refusal state (Remove id) = first_one _ (Unknown id) _ end_one
one_refusal state (Mine ids) =
    first_one _ Staging _ (first_at_one (IsFirst _ ids) Twice _ (first_entry _ ids)
    (first_at_one (IsFirst _ ids) Unknown _ (first_entry _ ids) (first_at_one (IsFirst _ ids) Parent _ (first_entry _ ids) end_one)))
one_refusal state Evict = first_one _ Staging _ (first_one _ Empty _ (first_one _ Oversized _ end_one))
one_refusal state Stage = first_one _ Staging _ end_one
one_refusal state Commit = first_one _ NoStaging _ end_one
one_refusal state Abort = first_one _ NoStaging _ end_one
one_refusal state Settle = first_one _ NoStaging _ (first_one _ Oversized _ end_one)
one_refusal state Compare = first_one _ NoStaging _ (first_one _ Oversized _ end_one)
one_refusal state Trim = end_one
one_refusal state Unmine =
    first_one _ Staging _ (first_one _ NoBlock _ (one_restore state (latest_of state.blocks).txs (latest_of state.blocks).pairs))
one_refusal state (Order level) = first_one _ Oversized _ end_one
one_refusal state (Diagram level) = first_one _ Oversized _ end_one
one_refusal state (Proof level) = first_one _ Oversized _ end_one
one_refusal state (Cluster id level) = first_one _ (Unknown id) _ (first_one _ Oversized _ end_one)
one_refusal state (Ancestors id level) = first_one _ (Unknown id) _ (first_one _ Oversized _ end_one)
one_refusal state (Descendants id level) = first_one _ (Unknown id) _ (first_one _ Oversized _ end_one)
one_refusal state (Chunk id) = first_one _ (Unknown id) _ (first_one _ Oversized _ end_one)
one_refusal state (Before a b) = first_one _ (Unknown a) _ (first_one _ (Unknown b) _ (first_one _ Oversized _ end_one))
one_refusal state (Block size) = first_one _ Oversized _ end_one
one_refusal state (commands.Count level) = end_one
one_refusal state Dump = first_one _ Oversized _ end_one
