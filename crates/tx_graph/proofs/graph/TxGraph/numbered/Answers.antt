-- The numbers are those of the components of every state.
use Rattle.std.proofs.Common.{◌*◌, ℕ, List, ap, ◌∙◌, subst}
use Rattle.graphs.specs.Certificates.{Part}
use Rattle.graphs.specs.declared.names.Level.TheVariants.{Main}
use Rattle.graphs.specs.Rates.{sum_of}
use Rattle.graph_model.specs.declared.names.Refusal.TheVariants.{Memory}
use Rattle.graph_model.specs.Answers.{order_of}
use Rattle.graph_model.specs.Commands.{Block}
use Rattle.graph_model.specs.Replies.{Built, Refused}
use Rattle.graph_model.specs.States.{State}
use Rattle.diagram.specs.Parts.{sums_of}
use Rattle.tx_graph.specs.Dropped.{AreOfClusters, ArePaidBySize, IsBlockOf}
use Rattle.tx_graph.specs.Kept.{Kept, StandsFor, MakesStep}
use Rattle.tx_graph.proofs.Blocks.{of_clusters, paid_by_size, steps_built, steps_unbuilt}
use Rattle.tx_graph.proofs.Calls.{kept_of, within_view}
use Rattle.tx_graph.proofs.Rooms.{levels_fit}
use Rattle.tx_graph.proofs.graph.TxGraph.numbered.Goals as goal

pub returns-clause-parts : goal.returns-clause-parts
returns-clause-parts g c = c.parts.ensures.parts ∙ ap (λ (k : Kept). k.levels.main.parts) c.self.view_is

pub returns-clause-numbers : goal.returns-clause-numbers
returns-clause-numbers g c =
    let kept = kept_of (64 * g.row.W) c.self.inside.begun c.self.inside.levels in
    subst (λ (k : Kept). (state : State) → StandsFor k state → AreOfClusters state.plain.main c.parts.result) c.self.view_is
    (of_clusters kept c.parts.result c.parts.ensures.numbers)

pub returns-clause-rates : goal.returns-clause-rates
returns-clause-rates g c =
    let kept = kept_of (64 * g.row.W) c.self.inside.begun c.self.inside.levels in
    subst (λ (k : Kept). ArePaidBySize k.levels.main.parts) c.self.view_is
    (paid_by_size kept c.parts.ensures.best.pick c.self.invariant.stands c.parts.ensures.rates)

pub returns-clause-block : goal.returns-clause-block
returns-clause-block g c =
    let kept = kept_of (64 * g.row.W) c.self.inside.begun c.self.inside.levels in
    subst (λ (k : Kept). (size : ℕ) (taken : List Part) → IsBlockOf k size taken
    → MakesStep k k (Block size) (Built (sum_of (sums_of taken)) (order_of taken))) c.self.view_is
    (λ size taken block. steps_built kept size taken c.self.invariant.picked (within_view kept c.args.self.now Main c.self.view_is c.requires.within) block)

pub returns-clause-memory : goal.returns-clause-memory
returns-clause-memory g c =
    let kept = kept_of (64 * g.row.W) c.self.inside.begun c.self.inside.levels in
    subst (λ (k : Kept). (size : ℕ) → MakesStep k k (Block size) (Refused Memory)) c.self.view_is
    (steps_unbuilt kept (within_view kept c.args.self.now Main c.self.view_is c.requires.within))

pub parts-requires : goal.parts-requires
parts-requires g c =
    let kept = kept_of (64 * g.row.W) c.self.inside.begun c.self.inside.levels in
    (levels_fit g.row.W assumption, (assumption, within_view kept c.args.self.now Main c.self.view_is c.requires.within))
