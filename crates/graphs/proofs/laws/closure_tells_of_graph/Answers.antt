use Rattle.graphs.specs.Closures.{is_member, is_ancestor}
use Rattle.graphs.proofs.ClosingLemmas.{order_from, ancestors_told, connected_linked, covers_agree}
use Rattle.graphs.proofs.laws.closure_tells_of_graph.Goals as goal

pub returns : goal.returns
returns c = record {
  order = λ g graph closes among. order_from (is_member g) (is_ancestor g) graph closes among;
  ancestors = λ g graph order closes. ancestors_told (is_member g) (is_ancestor g) graph closes order;
  connected = connected_linked;
  covers = covers_agree;
}
