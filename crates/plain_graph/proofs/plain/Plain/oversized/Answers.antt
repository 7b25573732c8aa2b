use Rattle.plain_graph.proofs.OverLemmas.{over_of_states}
use Rattle.plain_graph.proofs.plain.Plain.oversized.Goals as goal

pub returns : goal.returns
returns c = over_of_states c.args.self.now c.args.level c.self.inside.over (rw (← c.self.view_is) c.self.invariant.noted)
