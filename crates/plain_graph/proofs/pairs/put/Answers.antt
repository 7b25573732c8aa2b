use Rattle.std.proofs.Common.{ℕ}
use Rattle.plain_graph.proofs.Entries.{not_so}
use Rattle.std.specs.Prelude.{Contains, IsTrue, ◌↔◌}
use Rattle.plain_graph.proofs.Puts.{puts_pushed}
use Rattle.plain_graph.proofs.pairs.put.Goals as goal

pub returns-in_ok-push : goal.returns-in_ok-push
returns-in_ok-push c =
    let found : IsTrue c.has_pair.result ↔ Contains {X = ℕ × ℕ} c.args.list.now.items (c.args.parent, c.args.child) =
    rw c.deref.ensures.value at c.has_pair.ensures in
    rw (c.in_ok-push.ensures.items) (puts_pushed c.args.list.now.items c.args.parent c.args.child (not_so c.has_pair.result found c.if-not-has_pair.true))
