use Rattle.dep_graph.proofs.Kept.{keeps, members_of-kept, IsClosed-kept}
use Rattle.dep_graph.proofs.graph.DepGraph.members.Goals as goal

pub returns-clause-members : goal.returns-clause-members
returns-clause-members g c = members_of-kept (keeps c.self.invariant c.self.view_is)

pub returns-clause-closed : goal.returns-clause-closed
returns-clause-closed g c = IsClosed-kept (keeps c.self.invariant c.self.view_is)
