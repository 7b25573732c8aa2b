use Rattle.std.proofs.Common.{◌+◌, ◌-◌, ◌≤◌, length, drop, ap, ◌∙◌, arith, length-take}
use Rattle.replay.specs.Windows.{Sight}
use Rattle.replay.proofs.WindowLemmas.{consumed}
use Rattle.replay.proofs.window.Window.cut.Goals as goal

pub returns-clause-held : goal.returns-clause-held
returns-clause-held c =
    let w = c.self.inside in
    let long = ap (λ (s : Sight). length s.held) c.self.view_is in
    let fits : w.start + (c.args.count + 1) ≤ w.end = omega (arith, c.requires, long, length-take (w.end - w.start) (drop w.start w.buffer.items)) in
    consumed w.buffer.items w.start w.end (c.args.count + 1) fits ∙ ap (λ (s : Sight). drop (c.args.count + 1) s.held) c.self.view_is
