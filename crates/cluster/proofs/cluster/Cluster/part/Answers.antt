use Rattle.std.proofs.Common.{◌≡◌, ℕ, ◌-◌, ◌<◌, ◌≤◌, List, length, take, drop, slice_index_or, sym, ap, ◌∙◌, subst, arith}
use Rattle.std.specs.Prelude.{slice_get, Some}
use Rattle.graphs.specs.declared.names.Flow.{Flow}
use Rattle.linearize.specs.Graphs.{sum_from}
use Rattle.cluster.specs.Clusters.{Cluster}
use Rattle.cluster.specs.Kept.{cut, no_end}
use Rattle.cluster.proofs.Parting.{lent_cut, end_there, names_range, flows_range, part_at}
use Rattle.cluster.proofs.cluster.Cluster.part.Goals as goal

pub bounds-parts-at : goal.bounds-parts-at
bounds-parts-at g c =
    let o = c.self.inside.order in
    end_there c.as_slice-parts.result.now o.names.items o.flows.items (cut o.parts.items o.names.items o.flows.items)
    (lent_cut c.as_slice-parts.ensures c.self.invariant.ordered.ends) c.args.at
    (subst (λ (s : Cluster). c.args.at < length s.parts) (sym c.self.view_is) c.requires)

pub offset_bounds-parts-at : goal.offset_bounds-parts-at
offset_bounds-parts-at g c = let low = bounds-parts-at g c in omega (arith, low, c.as_slice-parts.type_inv.1)

pub end_before-before-requires : goal.end_before-before-requires
end_before-before-requires g c =
    let o = c.self.inside.order in
    end_there c.as_slice-parts.result.now o.names.items o.flows.items (cut o.parts.items o.names.items o.flows.items)
    (lent_cut c.as_slice-parts.ensures c.self.invariant.ordered.ends) c.args.at
    (subst (λ (s : Cluster). c.args.at < length s.parts) (sym c.self.view_is) c.requires)

pub between-requires-clause-start : goal.between-requires-clause-start
between-requires-clause-start g c =
    let o = c.self.inside.order in
    (names_range c.as_slice-parts.result.now o.names.items o.flows.items (cut o.parts.items o.names.items o.flows.items)
    (lent_cut c.as_slice-parts.ensures c.self.invariant.ordered.ends) c.args.at
    (subst (λ (s : Cluster). c.args.at < length s.parts) (sym c.self.view_is) c.requires) c.end_before-before.result no_end c.end_before-before.ensures).0

pub between-requires-clause-end : goal.between-requires-clause-end
between-requires-clause-end g c =
    let o = c.self.inside.order in
    subst (λ (xs : List ℕ). (slice_index_or c.as_slice-parts.result.now c.args.at no_end).end ≤ length xs) (sym c.as_slice.ensures)
    (names_range c.as_slice-parts.result.now o.names.items o.flows.items (cut o.parts.items o.names.items o.flows.items)
    (lent_cut c.as_slice-parts.ensures c.self.invariant.ordered.ends) c.args.at
    (subst (λ (s : Cluster). c.args.at < length s.parts) (sym c.self.view_is) c.requires) c.end_before-before.result no_end c.end_before-before.ensures).1

pub between-requires-2-clause-start : goal.between-requires-2-clause-start
between-requires-2-clause-start g c =
    let o = c.self.inside.order in
    (flows_range c.as_slice-parts.result.now o.names.items o.flows.items (cut o.parts.items o.names.items o.flows.items)
    (lent_cut c.as_slice-parts.ensures c.self.invariant.ordered.ends) c.args.at
    (subst (λ (s : Cluster). c.args.at < length s.parts) (sym c.self.view_is) c.requires) c.end_before-before.result no_end c.end_before-before.ensures).0

pub between-requires-2-clause-end : goal.between-requires-2-clause-end
between-requires-2-clause-end g c =
    let o = c.self.inside.order in
    subst (λ (fs : List Flow). (slice_index_or c.as_slice-parts.result.now c.args.at no_end).flow_end ≤ length fs) (sym c.as_slice-2.ensures.value)
    (flows_range c.as_slice-parts.result.now o.names.items o.flows.items (cut o.parts.items o.names.items o.flows.items)
    (lent_cut c.as_slice-parts.ensures c.self.invariant.ordered.ends) c.args.at
    (subst (λ (s : Cluster). c.args.at < length s.parts) (sym c.self.view_is) c.requires) c.end_before-before.result no_end c.end_before-before.ensures).1

pub returns : goal.returns
returns g c =
    let o = c.self.inside.order in
    let before = c.end_before-before.result in
    let here = slice_index_or c.as_slice-parts.result.now c.args.at no_end in
    subst (λ (s : Cluster). slice_get s.parts c.args.at
    ≡ Some (record { rate = sum_from c.rate_in.result; ids = c.between.result.now; flows = c.between-2.result.now })) c.self.view_is
    (part_at c.as_slice-parts.result.now o.names.items o.flows.items (cut o.parts.items o.names.items o.flows.items)
    (lent_cut c.as_slice-parts.ensures c.self.invariant.ordered.ends) c.args.at
    (subst (λ (s : Cluster). c.args.at < length s.parts) (sym c.self.view_is) c.requires) before no_end c.end_before-before.ensures
    (sum_from c.rate_in.result) c.between.result.now c.between-2.result.now c.rate_in.ensures
    (c.between.ensures ∙ ap (λ xs. take (here.end - before.end) (drop before.end xs)) c.as_slice.ensures)
    (c.between-2.ensures ∙ ap (λ (fs : List Flow). take (here.flow_end - before.flow_end) (drop before.flow_end fs)) c.as_slice-2.ensures.value))
