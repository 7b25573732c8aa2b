use Rattle.std.proofs.Common.{◌∙◌, ap, sym, not, nat_eq}
use Rattle.std.proofs.lemmas.Bool.{and_parts}
use Rattle.std.specs.FinSet as fin
use Rattle.graphs.proofs.Members.{contains-members_of}
use Rattle.graphs.specs.Closures.{members_of}
use Rattle.bitset.specs.Sets.{contains-remove}
use Rattle.order_tests.proofs.dep_graph_tests.all_but.Goals as goal

pub returns : goal.returns
returns c p e =
    sym (contains-members_of c.args.graph.now p)
    ∙ (and_parts (not (nat_eq p c.args.place)) (fin.contains (members_of c.args.graph.now) p)
    (sym (ap (λ s. fin.contains s p) (c.remove.ensures ∙ ap (λ s. fin.remove s c.args.place) c.members-rest.ensures.members)
    ∙ contains-remove (members_of c.args.graph.now) c.args.place p) ∙ e)).1
