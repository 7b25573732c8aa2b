use Rattle.std.proofs.Common.{◌*◌, sym, subst}
use Rattle.graphs.specs.declared.names.Level.TheVariants.{Main}
use Rattle.tx_graph.specs.Kept.{Kept, StandsFor}
use Rattle.tx_graph.proofs.Calls.{kept_of, sums_some, sums_found}
use Rattle.tx_graph.proofs.Rooms.{levels_fit}
use Rattle.tx_graph.proofs.graph.TxGraph.sums.Goals as goal

pub returns-in-Some : goal.returns-in-Some
returns-in-Some g c state stands =
    let kept = kept_of (64 * g.row.W) c.self.inside.begun c.self.inside.levels in
    sums_some kept Main c.args.id c.in-Some.rate c.in-Some.ensures.0 c.in-Some.ensures.1 state
    (subst (λ (k : Kept). StandsFor k state) (sym c.self.view_is) stands)

pub returns : goal.returns
returns g c state stands =
    let kept = kept_of (64 * g.row.W) c.self.inside.begun c.self.inside.levels in
    sums_found kept c.args.id c.rate-2.result c.in_default.ensures c.rate-2.ensures state (subst (λ (k : Kept). StandsFor k state) (sym c.self.view_is) stands)

pub rate-requires : goal.rate-requires
rate-requires g c = levels_fit g.row.W assumption

pub rate-requires-2 : goal.rate-requires-2
rate-requires-2 g c = levels_fit g.row.W assumption
