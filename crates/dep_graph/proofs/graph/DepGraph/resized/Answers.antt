use Rattle.std.proofs.Common.{rules, ◌<◌, ◌*◌, length, refl, sym, ap, ◌∙◌, subst, arith}
use Rattle.bitset.specs.Places.{IsWithin}
use Rattle.dep_graph.specs.Changes.{AreResized}
use Rattle.dep_graph.specs.Rows.{graph_from, IsKept}
use Rattle.dep_graph.proofs.Kept.{keeps, IsClosed-kept, members_of-kept}
use Rattle.dep_graph.proofs.Resized.{cut_same, resized_kept, resized_same}
use Rattle.dep_graph.proofs.graph.DepGraph.resized.Goals as goal

pub end_of-requires : goal.end_of-requires
end_of-requires g c =
    (search rules, λ p e. let low : p < length c.self.inside.rows.items = c.self.invariant.there p e in omega (arith, ap length c.as_slice-whole.ensures))

pub resized_rows-requires : goal.resized_rows-requires
resized_rows-requires g c =
    let few = c.end_of.ensures.least (length c.self.inside.rows.items) c.self.invariant.there in
    (search rules, (search rules, (search rules, omega (arith, few, ap length c.as_slice-whole.ensures))))

pub invariant_of-result : goal.invariant_of-result
invariant_of-result g c =
    let k = keeps c.self.invariant c.self.view_is in
    let within : IsWithin (64 * g.row.V) c.self.inside.members = subst (IsWithin (64 * g.row.V)) (sym (members_of-kept k)) c.requires in
    let made = subst (λ rows. AreResized g.row.V c.end_of.result rows c.in_ok-rows.rows.items) c.as_slice-whole.ensures c.in_ok-rows.ensures in
    subst (λ s. IsKept (64 * g.row.V) s c.in_ok-rows.rows.items) (sym (cut_same _ _ _ c.resized.ensures within))
    (resized_kept k within c.end_of.result c.end_of.ensures.all (c.end_of.ensures.least _ within) c.in_ok-rows.rows.items made)

pub returns-clause-same : goal.returns-clause-same
returns-clause-same g c =
    let k = keeps c.self.invariant c.self.view_is in
    let within : IsWithin (64 * g.row.V) c.self.inside.members = subst (IsWithin (64 * g.row.V)) (sym (members_of-kept k)) c.requires in
    let made = subst (λ rows. AreResized g.row.V c.end_of.result rows c.in_ok-rows.rows.items) c.as_slice-whole.ensures c.in_ok-rows.ensures in
    ap (λ s. graph_from (64 * g.row.V) s c.in_ok-rows.rows.items) (cut_same _ _ _ c.resized.ensures within)
    ∙ resized_same k within c.end_of.result c.end_of.ensures.all (c.end_of.ensures.least _ within) c.in_ok-rows.rows.items made

pub returns-clause-closed : goal.returns-clause-closed
returns-clause-closed g c = IsClosed-kept (keeps (invariant_of-result g c) refl)
