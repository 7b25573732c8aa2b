use Rattle.std.proofs.Common.{map}
use Rattle.std.proofs.iter.Yields.{copies, fronts}
use Rattle.std.proofs.lemmas.Iterator.{YieldsList-from_slice}
use Rattle.std.proofs.lemmas.Iterator.Consumers.{YieldsList-at, YieldsList-from_copied}
use Rattle.lists.proofs.Iterators.{always_viewed}
use Rattle.diagram.specs.Parts.{rate_of}
use Rattle.leaf_tests.proofs.diagram_tests.slice_corners.Goals as goal

pub corners-requires-clause-level : goal.corners-requires-clause-level
corners-requires-clause-level c =
    let road = YieldsList-from_copied (YieldsList-at c.copied.ensures.source (YieldsList-from_slice c.args.parts.now c.iter.ensures.rest)) in
    (map rate_of c.args.parts.now, record { yields = always_viewed (copies fronts) rate_of c.copied.result c.args.parts.now road.runs; level = c.requires })

pub returns-clause-corners : goal.returns-clause-corners
returns-clause-corners c segments joins =
    let road = YieldsList-from_copied (YieldsList-at c.copied.ensures.source (YieldsList-from_slice c.args.parts.now c.iter.ensures.rest)) in
    c.corners.ensures.corners (map rate_of c.args.parts.now) segments
    (record { yields = always_viewed (copies fronts) rate_of c.copied.result c.args.parts.now road.runs; level = c.requires }) joins
