use Rattle.wire.proofs.FormLemmas.{lists_none}
use Rattle.wire.proofs.line.read_fields.Goals as goal

pub returns-in-Some-clause-names : goal.returns-in-Some-clause-names
returns-in-Some-clause-names c = lists_none _ c.in-Some.line c.in-Some.ensures
