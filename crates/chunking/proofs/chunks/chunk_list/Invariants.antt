use Rattle.std.proofs.Common.{◌≤◌, take}
use Rattle.chunking.specs.Chunkings.{AreChunks}
use Rattle.chunking.proofs.chunks.chunk_list.Given as goal

abbrev pub invariant-loop-at : goal.invariant-loop-at
invariant-loop-at l = (l.count ≤ l.at) × AreChunks (take l.at l.rates) (take l.count l.out)
