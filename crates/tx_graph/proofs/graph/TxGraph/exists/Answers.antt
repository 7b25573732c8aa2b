use Rattle.std.proofs.Common.{◌*◌, sym, ◌∙◌, subst}
use Rattle.tx_graph.specs.Kept.{Kept, StandsFor}
use Rattle.tx_graph.proofs.Calls.{kept_of}
use Rattle.tx_graph.proofs.Rooms.{levels_fit}
use Rattle.tx_graph.proofs.Standing.{named}
use Rattle.tx_graph.proofs.graph.TxGraph.exists.Goals as goal

pub returns : goal.returns
returns g c state stands =
    let kept = kept_of (64 * g.row.W) c.self.inside.begun c.self.inside.levels in
    let stood = subst (λ (k : Kept). StandsFor k state) (sym c.self.view_is) stands in
    let here = named kept state.plain stood.plain c.args.level c.args.id in
    (λ is. here.1 (sym c.has.ensures ∙ is), λ there. c.has.ensures ∙ here.0 there)

pub has-requires : goal.has-requires
has-requires g c = levels_fit g.row.W assumption
