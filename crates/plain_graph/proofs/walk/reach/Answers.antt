use Rattle.std.proofs.Common.{◌≤◌, ◌<◌, arith, length}
use Rattle.std.proofs.lemmas.Grind.{common_steps}
use Rattle.graphs.proofs.ListLemmas.{length-within}
use Rattle.plain_graph.proofs.walk.reach.Goals as goal

pub push-requires : goal.push-requires
push-requires c =
    let within : length c.args.starts.now ≤ length c.requires.room.names =
    length-within c.args.starts.now c.requires.room.names c.requires.distinct c.requires.room.inside in
    omega (arith, c.requires.room.enough)

pub loop-id-preserved : goal.loop-id-preserved
loop-id-preserved c =
    let within : length c.args.starts.now ≤ length c.requires.room.names =
    length-within c.args.starts.now c.requires.room.names c.requires.distinct c.requires.room.inside in
    let left : 0 < c.loop-id.found.room = omega (arith, c.requires.room.enough) in
    rw c.push.ensures (grind (arith, common_steps), omega arith)
