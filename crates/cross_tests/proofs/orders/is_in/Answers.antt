use Rattle.std.proofs.Common.{◌∙◌, ap}
use Rattle.std.specs.FinSet as fin
use Rattle.graphs.proofs.Members.{contains-members_of}
use Rattle.cross_tests.proofs.orders.is_in.Goals as goal

pub returns : goal.returns
returns g c =
    let at = c.args.place in
    let same = ap (λ s. fin.contains s at) c.members.ensures.members in
    c.has.ensures ∙ same ∙ contains-members_of c.args.graph.now at
