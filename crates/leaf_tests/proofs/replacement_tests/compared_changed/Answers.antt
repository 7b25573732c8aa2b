use Rattle.std.proofs.Common.{map}
use Rattle.std.proofs.lemmas.Iterator.{YieldsList-from_slice}
use Rattle.std.proofs.lemmas.Iterator.Consumers.{YieldsList-at, YieldsList-from_copied}
use Rattle.std.proofs.iter.Yields.{copies, fronts}
use Rattle.lists.proofs.Iterators.{always_viewed}
use Rattle.diagram.specs.Parts.{rate_of}
use Rattle.leaf_tests.proofs.replacement_tests.compared_changed.Goals as goal

pub compare_changed-requires-clause-main_changes : goal.compare_changed-requires-clause-main_changes
compare_changed-requires-clause-main_changes c =
    let road = YieldsList-from_copied (YieldsList-at c.copied.ensures.source (YieldsList-from_slice c.args.main_only.now c.iter.ensures.rest)) in (
      map rate_of c.args.main_only.now,
      record {
        yields = record { yields = always_viewed (copies fronts) rate_of c.copied.result c.args.main_only.now road.runs; level = c.requires.main };
        last = c.requires.main_last;
      },
    )

pub compare_changed-requires-clause-top_changes : goal.compare_changed-requires-clause-top_changes
compare_changed-requires-clause-top_changes c =
    let road = YieldsList-from_copied (YieldsList-at c.copied-2.ensures.source (YieldsList-from_slice c.args.top_only.now c.iter-2.ensures.rest)) in (
      map rate_of c.args.top_only.now,
      record {
        yields = record { yields = always_viewed (copies fronts) rate_of c.copied-2.result c.args.top_only.now road.runs; level = c.requires.top };
        last = c.requires.top_last;
      },
    )
