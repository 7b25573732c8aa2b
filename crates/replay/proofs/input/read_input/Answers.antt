use Rattle.std.proofs.Common.{◌≤◌, drop, length, length-take, length-drop, take-append-drop, arith}
use Rattle.replay.proofs.input.read_input.Goals as goal

pub returns-clause-reads : goal.returns-clause-reads
returns-clause-reads g c =
    let bytes = c.loop-chunk.bytes.items in
    let long : 268435457 ≤ length bytes = omega (arith, c.loop-chunk.bytes.ok.0, c.loop-chunk-test.false, c.len.ensures) in rw c.read-2.ensures (
      drop 268435456 bytes,
      omega (arith, length-drop 268435456 bytes),
      omega (arith, length-drop 268435456 bytes, c.loop-chunk.invariant.most, c.loop-chunk.bytes.ok.0),
      rw c.truncate.ensures.items (rw (take-append-drop 268435456 bytes) c.loop-chunk.invariant.read),
      rw c.truncate.ensures.items (omega (arith, length-take 268435456 bytes)),
    )
