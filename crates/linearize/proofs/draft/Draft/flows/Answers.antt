use Rattle.std.proofs.Common.{◌∙◌, ap, map}
use Rattle.linearize.specs.Drafts.{all_flows, named}
use Rattle.linearize.proofs.DraftLemmas.{flows_are}
use Rattle.linearize.proofs.draft.Draft.flows.Goals as goal

pub returns : goal.returns
returns g c =
    let s = c.self.inside in
    ap (map named) c.as_slice.ensures.value ∙ flows_are 0 0 s.parts.items s.order.items s.flows.items ∙ ap all_flows c.self.view_is
