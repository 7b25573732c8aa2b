use Rattle.std.proofs.Common.{nat_eq, unwrap_or, sym, ap, ◌∙◌}
use Rattle.std.specs.Map.{lookup}
use Rattle.std.specs.FinMap as finmap
use Rattle.staging.specs.Maps.{Maps, top_of}
use Rattle.staging.proofs.ChangeLemmas.{get-top_of}
use Rattle.staging.proofs.overlay.Overlay.get_top.Goals as goal

pub returns-in-Some : goal.returns-in-Some
returns-in-Some g c =
    let o = c.self.inside in
    c.as_ref.ensures.value
    ∙ ap (λ change. unwrap_or change (lookup (nat_eq c.args.key) o.base.entries)) c.in-Some.ensures
    ∙ sym (get-top_of o.base.entries o.changes.entries o.spare o.staged c.self.invariant.none c.args.key)
    ∙ ap (λ (m : Maps g.row.V.Denot). finmap.get (top_of m) c.args.key) c.self.view_is

pub returns-in-None : goal.returns-in-None
returns-in-None g c =
    let o = c.self.inside in
    c.get.ensures.value
    ∙ ap (λ change. unwrap_or change (lookup (nat_eq c.args.key) o.base.entries)) c.in-None.ensures
    ∙ sym (get-top_of o.base.entries o.changes.entries o.spare o.staged c.self.invariant.none c.args.key)
    ∙ ap (λ (m : Maps g.row.V.Denot). finmap.get (top_of m) c.args.key) c.self.view_is
