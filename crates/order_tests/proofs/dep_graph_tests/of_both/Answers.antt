use Rattle.std.proofs.Common.{◌∙◌, ap, sym}
use Rattle.std.proofs.lemmas.Bool.{and_parts}
use Rattle.std.specs.FinSet as fin
use Rattle.graphs.proofs.Members.{contains-members_of}
use Rattle.graphs.specs.Closures.{members_of}
use Rattle.bitset.specs.Sets.{contains-intersection}
use Rattle.order_tests.proofs.dep_graph_tests.of_both.Goals as goal

pub returns : goal.returns
returns c p e =
    sym (contains-members_of c.args.graph.now p)
    ∙ (and_parts (fin.contains (members_of c.args.graph.now) p) (fin.contains c.args.set.now p)
    (sym (ap (λ s. fin.contains s p) (c.meet.ensures ∙ ap (λ s. fin.intersection s c.args.set.now) c.members.ensures.members)
    ∙ contains-intersection (members_of c.args.graph.now) c.args.set.now p) ∙ e)).0
