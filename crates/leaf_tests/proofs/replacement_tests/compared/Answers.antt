use Rattle.std.proofs.Common.{map}
use Rattle.std.proofs.iter.Yields.{copies, fronts}
use Rattle.std.proofs.lemmas.Iterator.{YieldsList-from_slice}
use Rattle.std.proofs.lemmas.Iterator.Consumers.{YieldsList-at, YieldsList-from_copied}
use Rattle.lists.proofs.Iterators.{always_viewed}
use Rattle.diagram.specs.Parts.{rate_of}
use Rattle.leaf_tests.proofs.replacement_tests.compared.Goals as goal

pub compare_full-requires-clause-main_level : goal.compare_full-requires-clause-main_level
compare_full-requires-clause-main_level c =
    let road = YieldsList-from_copied (YieldsList-at c.copied.ensures.source (YieldsList-from_slice c.args.main.now c.iter.ensures.rest)) in
    (map rate_of c.args.main.now, record { yields = always_viewed (copies fronts) rate_of c.copied.result c.args.main.now road.runs; level = c.requires.main })

pub compare_full-requires-clause-top_level : goal.compare_full-requires-clause-top_level
compare_full-requires-clause-top_level c =
    let road = YieldsList-from_copied (YieldsList-at c.copied-2.ensures.source (YieldsList-from_slice c.args.top.now c.iter-2.ensures.rest)) in
    (map rate_of c.args.top.now, record { yields = always_viewed (copies fronts) rate_of c.copied-2.result c.args.top.now road.runs; level = c.requires.top })
