use Rattle.std.proofs.Common.{subst}
use Rattle.std.specs.Prelude.{Result}
use Rattle.graphs.specs.declared.names.Level.TheVariants.{Main}
use Rattle.graph_model.specs.Commands.{Descendants}
use Rattle.graph_model.specs.Replies.{names_reply}
use Rattle.tx_graph.specs.Kept.{MakesStep}
use Rattle.reorg.proofs.Descending.{none_refused, told_below}
use Rattle.reorg.proofs.making.find_below.Goals as goal

pub unreachable-requires : goal.unreachable-requires
unreachable-requires g c =
    let kept = c.args.graph.now in
    none_refused kept c.args.id c.additions-stands.ensures.stands c.requires.member c.requires.within c.in-Err.field-0
    (subst (λ r. MakesStep kept kept (Descendants c.args.id Main) (names_reply r c.descendants.new.out.ids)) c.in-Err.is c.descendants.ensures.step)

pub returns-clause-found : goal.returns-clause-found
returns-clause-found g c =
    let kept = c.args.graph.now in
    told_below kept c.args.id c.additions-stands.ensures.stands c.requires.member c.descendants.new.out.ids
    (subst (λ r. MakesStep kept kept (Descendants c.args.id Main) (names_reply r c.descendants.new.out.ids)) c.in-Ok.is c.descendants.ensures.step)
