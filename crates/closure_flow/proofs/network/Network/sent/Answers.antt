use Rattle.std.proofs.Common.{sym, ◌∙◌, ap, get_or, ℕ, ◌*◌}
use Rattle.std.proofs.lemmas.Grind.{get_or_default_zero}
use Rattle.closure_flow.proofs.Networks.{sent_yes, sent_no, read_set}
use Rattle.closure_flow.proofs.network.Network.sent.Goals as goal

pub returns-then-has : goal.returns-then-has
returns-then-has g c =
    let n : ℕ = 64 * g.row.W in
    c.index-then-has.ensures
    ∙ get_or_default_zero _ _ _ c.place_of.ensures.within
    ∙ ap (λ (i : ℕ). get_or c.args.self.now.amounts.items i 0) c.place_of.ensures.at
    ∙ sym (sent_yes n _ _ c.args.child c.args.parent
    (read_set n _ _ _ c.args.parent c.args.child _ c.args.self.now.sized c.requires.parent c.index.ensures ∙ sym c.has.ensures ∙ c.if-has.true))

pub returns-else-has : goal.returns-else-has
returns-else-has g c =
    let n : ℕ = 64 * g.row.W in
    sym (sent_no n _ _ c.args.child c.args.parent
    (read_set n _ _ _ c.args.parent c.args.child _ c.args.self.now.sized c.requires.parent c.index.ensures ∙ sym c.has.ensures ∙ c.if-has.false))
