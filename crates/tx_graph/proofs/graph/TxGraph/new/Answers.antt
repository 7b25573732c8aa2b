use Rattle.std.proofs.Common.{◌*◌}
use Rattle.tx_graph.specs.Kept.{start_within}
use Rattle.tx_graph.proofs.Starts.{picks_none, stands_start}
use Rattle.tx_graph.proofs.graph.TxGraph.new.Goals as goal

pub invariant_of-result : goal.invariant_of-result
invariant_of-result g c = record {
  picked = picks_none c.in_ok-new.field-0 c.args.limits c.in_ok-new.ensures;
  stands = (
    start_within (64 * g.row.W) c.args.limits,
    stands_start (64 * g.row.W) c.args.limits c.requires.in_range c.in_ok-new.field-0 c.in_ok-new.ensures,
  );
}

pub returns-clause-start : goal.returns-clause-start
returns-clause-start g c =
    stands_start (64 * g.row.W) c.args.limits c.requires.in_range c.in_ok-new.field-0 c.in_ok-new.ensures
