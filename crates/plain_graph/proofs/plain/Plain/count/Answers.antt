use Rattle.std.proofs.Common.{◌≡◌, length, rules}
use Rattle.plain_graph.proofs.Standing.{steps_counted}
use Rattle.plain_graph.proofs.plain.Plain.count.Goals as goal

pub returns : goal.returns
returns c =
    let same : c.len.result ≡ length c.args.self.now.txs = rw (← c.self.view_is) (search rules) in steps_counted c.args.self.now c.args.level c.len.result same
