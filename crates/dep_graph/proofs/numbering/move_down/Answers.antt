use Rattle.std.proofs.Common.{rules, ◌<◌, length, refl}
use Rattle.dep_graph.specs.Moves.{IsMovedDown}
use Rattle.dep_graph.proofs.Reading.{row_read}
use Rattle.dep_graph.proofs.Moving.{Changing-more}
use Rattle.dep_graph.proofs.numbering.move_down.Goals as goal

pub loop-i-preserved : goal.loop-i-preserved
loop-i-preserved g c =
    let inside : c.loop-i.i < length c.loop-i.rows = search rules in
    Changing-more (IsMovedDown c.args.moving.now c.args.by) c.args.first c.args.rows.now c.loop-i.rows c.loop-i.i c.index-rows-i.result
    (record { rate = c.index-rows-i.result.rate; ancestors = c.moved_down.result; descendants = c.moved_down-in-loop-i.result }) (search rules) inside
    (row_read c.loop-i.rows c.loop-i.i c.index-rows-i.result c.index-rows-i.is inside)
    (record { rate = refl; ancestors = c.moved_down.ensures; descendants = c.moved_down-in-loop-i.ensures })
    c.loop-i.invariant
