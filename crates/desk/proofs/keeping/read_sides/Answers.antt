use Rattle.std.proofs.Common.{Some, inl, inr}
use Rattle.graph_model.specs.Commands as commands
use Rattle.graph_model.specs.Refusals.{RefusalIs}
use Rattle.graph_model.specs.States.{State}
use Rattle.desk.specs.Orders.{ShowsSides}
use Rattle.desk.proofs.OrderLemmas.{of_pool, reads_none}
use Rattle.desk.proofs.keeping.read_sides.Goals as goal

pub returns-in-Err : goal.returns-in-Err
returns-in-Err c =
    reads_none c.args.desk.now commands.Compare c.refuse.result c.refuse.new.kept c.in-Err.why ShowsSides c.refuse.ensures.code c.refuse.ensures.kept
    (elim c.in-Err.ensures [
      | inl none ↦ inl none
      | inr row ↦ inr (of_pool c.args.desk.now c.graph.result.now c.graph.ensures (λ (s : State). RefusalIs s.plain commands.Compare (Some c.in-Err.why)) row)
    ])
