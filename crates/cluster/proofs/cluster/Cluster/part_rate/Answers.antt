-- The rates that are kept are those of the parts that are shown.
use Rattle.std.proofs.Common.{◌≡◌, ◌<◌, length, slice_index_or, sym, ap, ◌∙◌, subst, arith}
use Rattle.std.specs.Prelude.{slice_get, Some}
use Rattle.linearize.specs.Graphs.{sum_from}
use Rattle.cluster.specs.Clusters.{Cluster}
use Rattle.cluster.specs.Kept.{cut, no_end, sum_in}
use Rattle.cluster.proofs.Parting.{lent_cut, end_there, rate_at}
use Rattle.cluster.proofs.cluster.Cluster.part_rate.Goals as goal

pub returns : goal.returns
returns g c = λ part there.
    let ends = c.self.inside.order.parts.items in
    let names = c.self.inside.order.names.items in
    let flows = c.self.inside.order.flows.items in
    let shown = cut ends names flows in
    let below : c.args.at < length shown = subst (λ (s : Cluster). c.args.at < length s.parts) (sym c.self.view_is) c.requires in
    let here : slice_get shown c.args.at ≡ Some part = subst (λ (s : Cluster). slice_get s.parts c.args.at ≡ Some part) (sym c.self.view_is) there in
    let rate_is : sum_from c.rate_in.result ≡ sum_in (slice_index_or ends c.args.at no_end) =
    c.rate_in.ensures ∙ ap (λ es. sum_in (slice_index_or es c.args.at no_end)) c.as_slice-parts.ensures in
    rate_at ends names flows shown c.self.invariant.ordered.ends c.args.at no_end (sum_from c.rate_in.result) part below rate_is here

pub bounds-parts-at : goal.bounds-parts-at
bounds-parts-at g c =
    let o = c.self.inside.order in
    end_there c.as_slice-parts.result.now o.names.items o.flows.items (cut o.parts.items o.names.items o.flows.items)
    (lent_cut c.as_slice-parts.ensures c.self.invariant.ordered.ends) c.args.at
    (subst (λ (s : Cluster). c.args.at < length s.parts) (sym c.self.view_is) c.requires)

pub offset_bounds-parts-at : goal.offset_bounds-parts-at
offset_bounds-parts-at g c = let low = bounds-parts-at g c in omega (arith, low, c.as_slice-parts.type_inv.1)
