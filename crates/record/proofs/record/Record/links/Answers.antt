-- A component with its order has parts.
use Rattle.std.proofs.Common.{◌*◌}
use Rattle.record.proofs.Ordered.{has_parts}
use Rattle.record.proofs.Keeping.{within_held}
use Rattle.record.proofs.record.Record.links.Goals as goal

pub returns-in-Within : goal.returns-in-Within
returns-in-Within g c =
    has_parts (64 * g.row.W) c.args.self.now
    (within_held (64 * g.row.W) c.self.inside.kept c.in-Within.field-0 c.args.self.now c.in-Within.is c.self.view_is c.self.invariant.2)
