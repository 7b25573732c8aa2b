use Rattle.std.proofs.Common.{◌*◌}
use Rattle.graph_model.specs.Limits.{bounds_of}
use Rattle.dump_text.specs.Lists.{text_of}
use Rattle.dump.proofs.Loaded.{made}
use Rattle.dump.proofs.loading.load.Goals as goal

pub returns-in-Ok : goal.returns-in-Ok
returns-in-Ok g c = record {
  loads = made (64 * g.row.W) (bounds_of c.args.limits) c.args.bytes.now (text_of c.in-Ok.lists) c.make.result c.in-Ok.ensures.checks.0
      c.in-Ok.ensures.checks.1 c.make.ensures;
}
