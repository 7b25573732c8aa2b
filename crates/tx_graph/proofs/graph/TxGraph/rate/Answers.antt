use Rattle.std.proofs.Common.{◌≡◌, true, sym, subst, ap, ◌∙◌, true≢false}
use Rattle.tx_graph.proofs.Rooms.{levels_fit}
use Rattle.tx_graph.specs.Kept.{Kept}
use Rattle.graphs.specs.Closures.{is_member, rate_of}
use Rattle.levels.specs.Levels.{level_at}
use Rattle.tx_graph.proofs.graph.TxGraph.rate.Goals as goal

pub rate-requires : goal.rate-requires
rate-requires g c = levels_fit g.row.W assumption

pub returns : goal.returns
returns g c = c.in-Some.ensures.1 ∙ ap (λ (k : Kept). rate_of (level_at k.levels c.args.level).graph c.args.id) c.self.view_is

pub unreachable-requires : goal.unreachable-requires
unreachable-requires g c =
    let here = subst (λ (k : Kept). is_member (level_at k.levels c.args.level).graph c.args.id ≡ true) (sym c.self.view_is) c.requires in
    absurd (true≢false (sym here ∙ c.in-None.ensures))
