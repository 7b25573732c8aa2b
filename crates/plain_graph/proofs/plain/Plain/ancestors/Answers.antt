use Rattle.plain_graph.proofs.Readings.{same_but_found, steps_ancestors}
use Rattle.plain_graph.proofs.plain.Plain.ancestors.Goals as goal

pub returns-clause-step : goal.returns-clause-step
returns-clause-step c = steps_ancestors c.args.self.now c.walk.new.self c.args.level c.args.id c.walk.result
    (same_but_found c.args.self.now c.walk.new.self _ c.walk.ensures.same) c.walk.ensures.found
