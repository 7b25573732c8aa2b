use Rattle.graphs.proofs.CornerLemmas.{joins_some}
use Rattle.replacement.proofs.MergeLemmas.{common_parts_keep_verdicts}
use Rattle.replacement.proofs.PartLists.{all_non_negative}
use Rattle.replacement.proofs.compare_changed.Goals as goal

pub returns : goal.returns
returns g c mains tops common main top before after one other in_both in_main in_top joins_main joins_top =
    let mains_level = one.yields.level in
    let tops_level = other.yields.level in
    let old = joins_some mains mains_level.some mains_level.falling in
    let new = joins_some tops tops_level.some tops_level.falling in
    let keeps = common_parts_keep_verdicts mains tops common main top old.0 new.0 before after c.compare_full.result
    (all_non_negative mains mains_level.some mains_level.falling one.last)
    (all_non_negative tops tops_level.some tops_level.falling other.last)
    in_both in_main in_top old.1 new.1 joins_main joins_top in
    keeps.0 (c.compare_full.ensures mains tops old.0 new.0 one.yields other.yields old.1 new.1)
