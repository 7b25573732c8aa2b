use Rattle.std.proofs.Common.{◌∙◌, ap}
use Rattle.linearize.specs.Drafts.{all_placed}
use Rattle.linearize.proofs.DraftLemmas.{order_is}
use Rattle.linearize.proofs.draft.Draft.order.Goals as goal

pub returns : goal.returns
returns g c =
    let s = c.self.inside in
    c.as_slice.ensures.value ∙ order_is 0 0 s.parts.items s.order.items s.flows.items ∙ ap all_placed c.self.view_is
