use Rattle.std.proofs.Common.{◌∙◌, ap, arith, ◌≤◌}
use Rattle.std.specs.FinSet as fin
use Rattle.graphs.proofs.Members.{contains-members_of}
use Rattle.order_tests.proofs.Sizes.{graph_fits}
use Rattle.order_tests.proofs.samples.is_in.Goals as goal

pub members-requires : goal.members-requires
members-requires g c = (let few : g.row.W ≤ 2 = c.requires.few in (graph_fits g.row.W few, omega arith))

pub returns : goal.returns
returns g c =
    let at = c.args.place in
    let same = ap (λ s. fin.contains s at) c.members.ensures.members in
    c.has.ensures ∙ same ∙ contains-members_of c.args.graph.now at
