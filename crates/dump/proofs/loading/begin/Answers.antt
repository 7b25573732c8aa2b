use Rattle.std.proofs.Common.{subst}
use Rattle.graph_model.specs.Commands.{SetLimits}
use Rattle.graph_model.specs.Limits.{bounds_of}
use Rattle.graph_model.specs.Replies.{Done}
use Rattle.graph_model.specs.declared.names.Limits.{Limits}
use Rattle.tx_graph.specs.Kept.{MakesStep}
use Rattle.dump.proofs.loading.begin.Goals as goal

pub returns-in-Ok-clause-step : goal.returns-in-Ok-clause-step
returns-in-Ok-clause-step g c =
    subst (λ (l : Limits). MakesStep c.args.graph.now c.set_limits.new.self (SetLimits (bounds_of l)) Done) c.limits-limits.ensures c.in-Ok.ensures.step
