use Rattle.std.proofs.Common.{map}
use Rattle.graphs.specs.Diagrams.{corners_of}
use Rattle.diagram.specs.Parts.{rate_of}
use Rattle.leaf_tests.proofs.diagram_tests.compared.Goals as goal

pub verdict-requires-clause-a_corners : goal.verdict-requires-clause-a_corners
verdict-requires-clause-a_corners c =
    let level = c.are_level_parts.ensures.0 c.if-not-are_level_parts.false in
    let segments = c.equal_rates_join_once.ensures.some (map rate_of c.args.a.now) level.some level.falling in
    (corners_of segments.0, c.slice_corners.ensures.corners segments.0 segments.1)

pub verdict-requires-clause-b_corners : goal.verdict-requires-clause-b_corners
verdict-requires-clause-b_corners c =
    let level = c.are_level_parts-else-not-are_level_parts.ensures.0 c.if-not-are_level_parts-2.false in
    let segments = c.equal_rates_join_once.ensures.some (map rate_of c.args.b.now) level.some level.falling in
    (corners_of segments.0, c.slice_corners-2.ensures.corners segments.0 segments.1)
