use Rattle.std.proofs.Common.{◌*◌}
use Rattle.record.proofs.Keeping.{over_held, over_is}
use Rattle.record.proofs.Rating.{tx_rate}
use Rattle.record.proofs.record.Record.rate_at.Goals as goal

pub returns-in-Over : goal.returns-in-Over
returns-in-Over g c =
    let links = c.deref.result.now.links in
    let held = over_held (64 * g.row.W) c.self.inside.kept c.in-Over.over c.deref.result.now c.in-Over.is c.deref.ensures c.self.invariant.2 in
    let is = over_is c.self.inside.kept c.in-Over.over c.deref.result.now c.args.self.now c.in-Over.is c.deref.ensures c.self.view_is in
    tx_rate links held.links c.args.self.now is c.txs.result.now c.txs.ensures.txs c.args.at c.requires
