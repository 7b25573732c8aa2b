use Rattle.std.proofs.Common.{ℕ}
use Rattle.graphs.specs.Closures.{is_member}
use Rattle.reorg.specs.Blocks.{ArePairsBy, ArePairsOf, IsBelow, LeadsTo}
use Rattle.reorg.proofs.Pairing.{by_same, if_ok}
use Rattle.reorg.proofs.linking.pairs_in_links.Goals as goal

pub returns : goal.returns
returns g c =
    let graph = c.args.graph.now.levels.main.graph in let ids = c.args.ids.now in let links = c.in_ok-links.links in
    if_ok (λ list. ArePairsBy (LeadsTo links.pairs) ids list.items) (λ list. ArePairsOf graph ids list.items) c.pairs_below.result
    (λ list. by_same (LeadsTo links.pairs) (IsBelow graph) ids list.items (λ m d here.
    let exact = c.in_ok-links.ensures.ancestors m d (c.requires m here) in
    (λ is. (exact.0 is.0, is.1), λ is. (exact.1 is.0, is.1))))
    c.pairs_below.ensures
