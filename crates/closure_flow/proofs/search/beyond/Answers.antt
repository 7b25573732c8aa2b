use Rattle.std.proofs.Common.{ℕ, ◌*◌, ◌∙◌, sym}
use Rattle.closure_flow.proofs.Networks.{read_set, senders_send, send_senders, read_parents}
use Rattle.closure_flow.proofs.Searches.{beyond_is}
use Rattle.closure_flow.proofs.search.beyond.Goals as goal

pub returns : goal.returns
returns g c =
    let n : ℕ = 64 * g.row.W in
    let below = c.args.network.now.inside _ c.requires.inside in
    let read = λ (d : ℕ). read_set n _ _ _ c.args.place d _ c.args.network.now.sized below c.index.ensures in
    beyond_is n _ _ _ _ c.index-parents-place.result c.index.result.now _ _ _ c.args.place
    c.requires.allowed c.requires.inside
    (λ q. read_parents _ c.args.place q _ (c.requires.parents _ c.requires.inside) c.index-parents-place.is)
    (λ d m. senders_send n _ _ c.args.place d c.args.network.now.lean below (read d ∙ m))
    (λ d h. sym (read d) ∙ send_senders n _ _ c.args.place d h)
    c.meet.ensures c.union.ensures c.minus.ensures
