use Rattle.std.proofs.Common.{sym, subst}
use Rattle.linearize.specs.Drafts.{AreShown}
use Rattle.linearize.proofs.DraftLemmas.{shown}
use Rattle.linearize.proofs.draft.Draft.parts.Goals as goal

pub returns : goal.returns
returns g c =
    let s = c.self.inside in
    subst (λ ps. AreShown ps c.args.self.now.parts) (sym c.as_slice.ensures.value)
    (subst (λ w. AreShown s.parts.items w.parts) c.self.view_is (shown s.parts.items s.order.items s.flows.items c.self.invariant.0))
