use Rattle.std.proofs.lemmas.List.Elements.{Contains-append_left}
use Rattle.graphs.proofs.CornerLemmas.{joins_some}
use Rattle.replacement.proofs.MergeLemmas.{best_common_parts_keep_verdicts}
use Rattle.replacement.proofs.compare_with_tail.Goals as goal

pub compare_full-requires-clause-main_level : goal.compare_full-requires-clause-main_level
compare_full-requires-clause-main_level g c =
    let parts = c.requires.main in
    let level = c.new-main.ensures.parts parts.0 parts.1 parts.2 in
    (level.0, level.2)

pub compare_full-requires-clause-top_level : goal.compare_full-requires-clause-top_level
compare_full-requires-clause-top_level g c =
    let parts = c.requires.top in
    let level = c.new-top.ensures.parts parts.0 parts.1 parts.2 in
    (level.0, level.2)

pub returns : goal.returns
returns g c mains tops upper tail main top before after one other enough in_main in_top joins_main joins_top =
    let low_main = c.new-main.ensures.parts mains tail one in
    let low_top = c.new-top.ensures.parts tops tail other in
    let old = joins_some low_main.0 low_main.2.level.some low_main.2.level.falling in
    let new = joins_some low_top.0 low_top.2.level.some low_top.2.level.falling in
    let keeps = best_common_parts_keep_verdicts mains tops upper tail low_main.0 low_top.0 main top old.0 new.0 before after c.compare_full.result
    (λ part h. one.fit.some part (Contains-append_left mains tail part h)) (λ part h. other.fit.some part (Contains-append_left tops tail part h)) enough
    low_main.1 low_top.1 in_main in_top old.1 new.1 joins_main joins_top in
    keeps.0 (c.compare_full.ensures low_main.0 low_top.0 old.0 new.0 low_main.2 low_top.2 old.1 new.1)
