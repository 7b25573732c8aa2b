use Rattle.replay.proofs.SummaryLemmas.{totals_are}
use Rattle.replay.proofs.totals.main_totals.Goals as goal

pub returns : goal.returns
returns g c =
    let step = c.diagram.ensures.step in
    let told = c.last_corner-corners.ensures step.0 step.1 in
    totals_are c.args.graph.now _ step.0 step.2 c.count.ensures told.0 told.1

-- that the graph fits in memory is asked of the caller too
pub diagram-requires : goal.diagram-requires
diagram-requires g c = (assumption, c.requires)

pub count-requires : goal.count-requires
count-requires g c = assumption

pub last_corner-corners-requires : goal.last_corner-corners-requires
last_corner-corners-requires g c = let step = c.diagram.ensures.step in record { can = c.diagram.ensures.can; ends = c.diagram.ensures.ends; corners = (step.0, step.1) }
