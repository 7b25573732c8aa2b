use Rattle.std.proofs.Common.{subst, refl, lit<}
use Rattle.graph_model.specs.Commands as commands
use Rattle.graph_model.specs.Runs as runs
use Rattle.tx_graph.specs.Kept as graphs
use Rattle.tx_graph.specs.Readings.{part_reply}
use Rattle.replay.proofs.PoolLemmas.{pool_is_read}
use Rattle.replay.proofs.commands.MempoolObeys.read.Goals as goal

pub returns-in-Order : goal.returns-in-Order
returns-in-Order g c =
    let (answer, read, writes, told) = c.write_order.ensures in
    rw c.in-Order.is (answer, pool_is_read _ c.args.self.now (commands.Order c.in-Order.level) answer tt c.graph.ensures.graph read, writes, told)

pub returns-in-Diagram : goal.returns-in-Diagram
returns-in-Diagram g c =
    let (answer, read, writes, told) = c.write_diagram.ensures in
    rw c.in-Diagram.is (answer, pool_is_read _ c.args.self.now (commands.Diagram c.in-Diagram.level) answer tt c.graph-in-Diagram.ensures.graph read, writes, told)

pub returns-in-Proof : goal.returns-in-Proof
returns-in-Proof g c =
    let (answer, read, writes, told) = c.write_proof.ensures in
    rw c.in-Proof.is (answer, pool_is_read _ c.args.self.now (commands.Proof c.in-Proof.level) answer tt c.graph-in-Proof.ensures.graph read, writes, told)

pub returns-in-Chunk : goal.returns-in-Chunk
returns-in-Chunk g c =
    let (answer, is, writes, told) = c.write_part.ensures in (
      answer,
      rw c.in-Chunk.is (pool_is_read _ c.args.self.now (commands.Chunk c.in-Chunk.id) answer tt c.graph-in-Chunk.ensures.graph
          (part_reply c.chunk.result, c.chunk.ensures.step, is)),
      writes,
      told,
    )

pub returns-in-Dump : goal.returns-in-Dump
returns-in-Dump g c =
    let (answer, read, writes, told) = c.write_dump.ensures in
    rw c.in-Dump.is (answer, pool_is_read _ c.args.self.now commands.Dump answer tt c.graph-in-Dump.ensures.graph read, writes, told)
