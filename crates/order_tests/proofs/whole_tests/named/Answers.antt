use Rattle.std.proofs.Common.{rules, ◌≡◌, ◌≤◌, length, true, ap, arith, lit<}
use Rattle.std.specs.FinSet as set
use Rattle.bitset.specs.Members.{len_bound}
use Rattle.graphs.specs.Closures.{members_of}
use Rattle.order_tests.proofs.whole_tests.named.Goals as goal

pub whole-requires : goal.whole-requires
whole-requires g c =
    let same = ap (λ s. set.len s) c.members.ensures.members in
    let most : set.len c.members.result ≤ 128 = len_bound 128 c.members.result c.count.ensures.within in
    let some : 1 ≤ length c.args.names.now = omega arith in
    let each : length c.args.names.now ≡ set.len (members_of c.args.graph.now) = omega (arith, c.count.ensures.exact, same, most) in
    let joined : c.is_component.result ≡ true = search rules in
    let rated : c.has_rates.result ≡ true = search rules in
    (lit< tt, (lit< tt, (lit< tt, (record { some = some; each = each; once = c.requires }, (c.is_component.ensures.0 joined, c.has_rates.ensures.0 rated)))))
