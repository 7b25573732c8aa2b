use Rattle.std.proofs.Common.{refl}
use Rattle.plain_graph.proofs.Standing.{stands_at_start}
use Rattle.plain_graph.proofs.plain.Plain.new.Goals as goal

pub returns-clause-start : goal.returns-clause-start
returns-clause-start c = stands_at_start _ refl refl c.new.ensures.items c.new-2.ensures.items
