use Rattle.std.proofs.Common.{rules, ◌≡◌, ◌<◌, ◌≤◌, ap, arith, lit<, true}
use Rattle.std.specs.FinSet as fin
use Rattle.graphs.specs.Closures.{members_of}
use Rattle.linearize.specs.Graphs.{most_members}
use Rattle.cross_tests.proofs.Sizes.{scratch_fits}
use Rattle.cross_tests.proofs.orders.solved.Goals as goal

pub optimal-requires : goal.optimal-requires
optimal-requires g c =
    let w = g.row.W in
    let dep = c.args.graph.now in
    let same = ap (λ s. fin.len s) c.members.ensures.members in
    let again = ap (λ s. fin.len s) c.members-2.ensures.members in
    let some : 0 < fin.len (members_of dep) = omega (arith, c.count.ensures.exact, same) in
    let few : fin.len (members_of dep) ≤ most_members = omega (arith, c.count-2.ensures.exact, again) in
    let rated : c.has_rates.result ≡ true = search rules in
    let joined : c.is_component.result ≡ true = search rules in
    let in_range = c.has_rates.ensures.0 rated in
    let one = c.is_component.ensures.0 joined in
    (scratch_fits w c.requires, (search rules, (lit< tt, (some, (few, (in_range, one))))))
