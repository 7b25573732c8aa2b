use Rattle.std.proofs.Common.{◌*◌, ◌≡◌, true, sym, subst}
use Rattle.tx_graph.proofs.Calls.{kept_of, within_view}
use Rattle.tx_graph.proofs.Rooms.{levels_fit}
use Rattle.tx_graph.specs.Kept.{Kept}
use Rattle.graphs.specs.Closures.{is_member}
use Rattle.levels.specs.Levels.{level_at}
use Rattle.tx_graph.proofs.graph.TxGraph.covers.Goals as goal

pub covers-requires : goal.covers-requires
covers-requires g c =
    let kept = kept_of (64 * g.row.W) c.self.inside.begun c.self.inside.levels in
    let here = subst (λ (k : Kept). is_member (level_at k.levels c.args.level).graph c.args.id ≡ true) (sym c.self.view_is) c.requires.live in
    (levels_fit g.row.W assumption, (assumption, (within_view kept c.args.self.now c.args.level c.self.view_is c.requires.within, here)))
