use Rattle.std.proofs.Common.{ℕ, ◌*◌, ◌∙◌, ◌<◌, sym, ap, subst, arith}
use Rattle.std.specs.FinSet as set
use Rattle.lists.proofs.Cases.{clash}
use Rattle.bitset.specs.Sets.{contains-empty}
use Rattle.closure_flow.proofs.Networks.{not_received, read_set, send_senders, senders_send, shown_within}
use Rattle.closure_flow.proofs.network.Network.senders.Goals as goal

pub returns-then-has : goal.returns-then-has
returns-then-has g c d =
    let n : ℕ = 64 * g.row.W in
    let net = c.args.self.now in
    let here = sym c.has.ensures ∙ c.if-has.true in
    let is = shown_within n net.within net.into.items net.amounts.items d c.args.parent here in
    let read = read_set n _ _ _ c.args.parent d _ net.sized c.requires c.index.ensures in (
      λ m. subst (λ (k : ℕ). 0 < k) (sym is) (senders_send n _ _ c.args.parent d net.lean c.requires (read ∙ m)).1,
      λ f. sym read ∙ send_senders n _ _ c.args.parent d (subst (λ (k : ℕ). 0 < k) is f),
    )

pub returns-else-has : goal.returns-else-has
returns-else-has g c d =
    let net = c.args.self.now in
    let none = not_received (64 * g.row.W) net.within net.into.items net.amounts.items d c.args.parent (sym c.has.ensures ∙ c.if-has.false) in (
      λ m. clash _ m (ap (λ s. set.contains s d) c.empty.ensures ∙ contains-empty d),
      λ f. absurd (omega (arith, none, f)),
    )
