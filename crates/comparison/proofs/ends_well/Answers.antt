-- The last part that a walk shows decides.
use Rattle.std.proofs.Common.{rules, arith, FitsSigned, w64, sym, ◌∙◌}
use Rattle.std.proofs.lemmas.Int.{ints}
use Rattle.cluster_store.specs.Walks.{shown_part}
use Rattle.comparison.proofs.Merging.{ends_by_last, none_ends}
use Rattle.comparison.proofs.Rooms.{stored_fits}
use Rattle.comparison.proofs.ends_well.Goals as goal

pub returns-in-Some-clause-last : goal.returns-in-Some-clause-last
returns-in-Some-clause-last g c =
    let fits : FitsSigned w64 c.in-Some.shown.part.rate.fee = search rules in
    let both = ends_by_last c.args.level c.args.store.now c.next_back.new.self (shown_part c.in-Some.shown)
    (sym c.walk.ensures.parts ∙ c.in-Some.ensures.steps) in
    (λ h. both.0 (grind (arith, ints, h)), λ ends. let pays = both.1 ends in grind (arith, ints, pays))

pub returns-in-None-clause-last : goal.returns-in-None-clause-last
returns-in-None-clause-last g c =
    let ends = none_ends c.args.level c.args.store.now (sym c.walk.ensures.parts ∙ c.in-None.ensures.steps.0) in
    ((λ _. ends), (λ _. search rules))

pub walk-requires : goal.walk-requires
walk-requires g c = (omega arith, stored_fits g.row.W c.requires)

pub next_back-requires-room-T-Parts : goal.next_back-requires-room-T-Parts
next_back-requires-room-T-Parts g c κs = stored_fits g.row.W c.requires
