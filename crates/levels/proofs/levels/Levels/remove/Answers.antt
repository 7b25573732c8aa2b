-- One name is dropped.
use Rattle.std.proofs.Common.{ap, ◌∙◌}
use Rattle.std.proofs.lemmas.Result.{on_ok_weaker}
use Rattle.lists.proofs.Entries.{none_in_empty}
use Rattle.graphs.specs.Closures.{is_member}
use Rattle.graphs.specs.declared.names.Level.TheVariants.{Top}
use Rattle.levels.specs.Levels.{level_at}
use Rattle.cluster_store.proofs.Listed.{only_one}
use Rattle.levels.proofs.Saying.{loses_one}
use Rattle.levels.proofs.levels.Levels.remove.Goals as goal

pub drop_names-requires : goal.drop_names-requires
drop_names-requires g c = (
  assumption,
  (
    λ id here. ap (is_member (level_at c.args.self.now Top).graph) (only_one c.args.id id here) ∙ c.requires,
    ((λ here. none_in_empty c.args.id here), tt),
  ),
)

pub returns-clause-dropped : goal.returns-clause-dropped
returns-clause-dropped g c =
    on_ok_weaker c.drop_names.result (λ top. (top.0, loses_one (level_at c.args.self.now Top).graph top.0.graph c.args.id top.1, top.2))
    c.drop_names.ensures.dropped

pub returns-clause-steps : goal.returns-clause-steps
returns-clause-steps g c = c.drop_names.ensures.steps
