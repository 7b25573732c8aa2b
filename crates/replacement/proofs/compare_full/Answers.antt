use Rattle.graphs.specs.Diagrams.{corners_of}
use Rattle.graphs.proofs.CornerLemmas.{joins_some}
use Rattle.replacement.proofs.compare_full.Goals as goal

pub verdict-requires-clause-a_corners : goal.verdict-requires-clause-a_corners
verdict-requires-clause-a_corners g c =
    let parts = c.requires.top_level in
    let segments = joins_some parts.0 parts.1.level.some parts.1.level.falling in
    (corners_of segments.0, c.corners.ensures.corners parts.0 segments.0 parts.1 segments.1)

pub verdict-requires-clause-b_corners : goal.verdict-requires-clause-b_corners
verdict-requires-clause-b_corners g c =
    let parts = c.requires.main_level in
    let segments = joins_some parts.0 parts.1.level.some parts.1.level.falling in
    (corners_of segments.0, c.corners-2.ensures.corners parts.0 segments.0 parts.1 segments.1)

pub returns : goal.returns
returns g c mains tops before after main top one other =
    c.verdict.ensures (corners_of after) (corners_of before)
    (c.corners.ensures.corners tops after top other) (c.corners-2.ensures.corners mains before main one)
