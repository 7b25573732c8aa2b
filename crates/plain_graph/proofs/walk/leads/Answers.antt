use Rattle.graphs.specs.Graphs.{Lists}
use Rattle.plain_graph.specs.Walks.{Reaches}
use Rattle.plain_graph.proofs.Starts.{distinct_one, lists_from_one}
use Rattle.plain_graph.proofs.walk.leads.Goals as goal

pub reach-requires-clause-distinct : goal.reach-requires-clause-distinct
reach-requires-clause-distinct c = distinct_one c.args.from

pub returns-clause-walk : goal.returns-clause-walk
returns-clause-walk c =
    let lists : Lists (Reaches c.args.way c.args.pairs.now c.args.from) c.ids.result.now =
    rw c.ids.ensures (lists_from_one c.args.way c.args.pairs.now c.args.from c.reach.new.found.ids c.reach.ensures.lists) in
    (λ holds. (lists.exact c.args.to).0 (c.has.ensures.0 holds), λ walk. c.has.ensures.1 ((lists.exact c.args.to).1 walk))
