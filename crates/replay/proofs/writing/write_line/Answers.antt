use Rattle.std.proofs.Common.{FitsSigned, rules}
use Rattle.std.specs.Int.{w64, w128}
use Rattle.std.proofs.lemmas.Int.{to_z-of_z}
use Rattle.replay.proofs.WritingLemmas.{chunk_writes}
use Rattle.replay.proofs.writing.write_line.Goals as goal

pub returns-in-Tx : goal.returns-in-Tx
returns-in-Tx g c = let fits : FitsSigned w64 c.in-Tx.rate.fee = search rules in rw c.in-Tx.is (rw (to_z-of_z w64 c.in-Tx.rate.fee fits) at c.write_tx.ensures)

pub returns-in-Edge : goal.returns-in-Edge
returns-in-Edge g c = rw c.in-Edge.is c.write_edge.ensures

pub returns-in-Chunk : goal.returns-in-Chunk
returns-in-Chunk g c = rw c.in-Chunk.is (chunk_writes _ _ _ _ _ c.in-Chunk.part c.from.result c.from.ensures.0 c.from.ensures.1 c.write_chunk.ensures)

pub returns-in-Flow : goal.returns-in-Flow
returns-in-Flow g c = rw c.in-Flow.is c.write_flow.ensures

pub returns-in-Point : goal.returns-in-Point
returns-in-Point g c = let fits : FitsSigned w128 c.in-Point.fee = search rules in
    rw c.in-Point.is (rw (to_z-of_z w128 c.in-Point.fee fits) at c.write_point.ensures)
