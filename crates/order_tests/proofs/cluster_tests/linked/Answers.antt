use Rattle.std.proofs.Common.{◌≡◌, rules, true, false, sym, ◌∙◌}
use Rattle.order_tests.proofs.cluster_tests.linked.Goals as goal

pub linked-requires : goal.linked-requires
linked-requires g c =
    let one : c.has.result ≡ true = search rules in
    let two : c.has-2.result ≡ true = search rules in
    let none : c.reaches.result ≡ false = search rules in
    (search rules, (search rules, (c.has.ensures.0 one, (c.has-2.ensures.0 two, sym c.reaches.ensures ∙ none))))
