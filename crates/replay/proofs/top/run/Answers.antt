use Rattle.std.proofs.Common.{inl, inr}
use Rattle.graph_model.specs.CommandLines as commands
use Rattle.replay.proofs.top.run.Goals as goal

pub returns-in-Ok-Gen-clause-complete : goal.returns-in-Ok-Gen-clause-complete
returns-in-Ok-Gen-clause-complete g c asked reads writes = elim c.write_generated.ensures.told [
  | inl done ↦ rw done tt
  | inr rest ↦ elim rest [
    | inl fault ↦ absurd (writes (rw fault at (c.write_generated.ensures.faults 0)).1)
    | inr none ↦ rw none.0 tt
  ]
]

-- the words ask for nothing
pub returns-in-Err-Refused-clause-replays : goal.returns-in-Err-Refused-clause-replays
returns-in-Err-Refused-clause-replays g c asked = absurd (c.in-Err-Refused.ensures.refused c.in-Err-Refused.field-0-is commands.Replays asked)

pub returns-in-Err-Refused-clause-checks : goal.returns-in-Err-Refused-clause-checks
returns-in-Err-Refused-clause-checks g c asked = absurd (c.in-Err-Refused.ensures.refused c.in-Err-Refused.field-0-is commands.Checks asked)

pub returns-in-Err-Refused-clause-loads : goal.returns-in-Err-Refused-clause-loads
returns-in-Err-Refused-clause-loads g c asked = absurd (c.in-Err-Refused.ensures.refused c.in-Err-Refused.field-0-is commands.Loads asked)

pub returns-in-Err-Refused-clause-generates : goal.returns-in-Err-Refused-clause-generates
returns-in-Err-Refused-clause-generates g c seed count asked =
    absurd (c.in-Err-Refused.ensures.refused c.in-Err-Refused.field-0-is (commands.Generates seed count) asked)
