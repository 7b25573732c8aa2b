use Rattle.std.proofs.Common.{◌≡◌, rules, true, IsTrue}
use Rattle.order_tests.proofs.cluster_tests.paying.Goals as goal

pub with_fee-requires : goal.with_fee-requires
with_fee-requires g c =
    let one : c.has.result ≡ true = search rules in
    let paid : IsTrue c.is_fee.result = search rules in
    (search rules, (search rules, (c.has.ensures.0 one, c.is_fee.ensures.0 paid)))
