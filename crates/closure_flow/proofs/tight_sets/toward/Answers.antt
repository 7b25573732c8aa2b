use Rattle.std.proofs.Common.{ℕ, ◌*◌}
use Rattle.closure_flow.proofs.Networks.{network_fits, read_parents, shown_only, words_fit}
use Rattle.closure_flow.proofs.Searches.{beyond_is}
use Rattle.closure_flow.proofs.tight_sets.toward.Goals as goal

pub senders-requires : goal.senders-requires
senders-requires g c = (
  network_fits g.row.W _ _ _ c.args.network.now.sized,
  (words_fit g.row.W _ _ _ c.args.network.now.sized, c.requires.below _ c.requires.inside),
)

pub returns : goal.returns
returns g c =
    let n : ℕ = 64 * g.row.W in
    let net = c.args.network.now in
    beyond_is n _ _ _ _ c.index-parents-place.result c.senders.result _ _ _ c.args.place
    c.requires.allowed c.requires.inside
    (λ q. read_parents _ c.args.place q _ (c.requires.parents _ c.requires.inside) c.index-parents-place.is)
    (λ d m. let f = (c.senders.ensures d).0 m in ((shown_only n _ _ _ d c.args.place net.lean net.inside f).0, f))
    (λ d h. (c.senders.ensures d).1 h)
    c.meet.ensures c.union.ensures c.minus.ensures
