use Rattle.std.proofs.Common.{◌-◌}
use Rattle.staging.proofs.ChangeLemmas.{change_staged, change_base}
use Rattle.staging.proofs.overlay.Overlay.change.Goals as goal
use Rattle.staging.proofs.overlay.Overlay.change.Goals.{then-self, else-self}

pub returns-clause-top : goal.returns-clause-top
returns-clause-top g c =
    let o = c.self.inside in
    let staged = change_staged c.args.key c.args.value o.spare (o.spare - 1) o.base.entries o.changes.entries in
    let base = change_base c.args.key c.args.value o.spare (o.spare - 1) o.base.entries in
    elim c.if-self.branch [
      | then-self w ↦ rw (w.self-inside-is, ← c.self.view_is)
          (staged w.put_reserved.new.map.entries w.put_reserved.ensures.updates.0 o.staged w.if-self.true)
      | else-self w ↦ rw (w.self-inside-is, ← c.self.view_is)
          (base w.change_reserved.new.map.entries o.changes.entries w.change_reserved.ensures.updates.0 o.staged w.if-self.false)
    ]
