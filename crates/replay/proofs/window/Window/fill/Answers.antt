use Rattle.std.proofs.Common.{◌≡◌, ◌-◌, ◌++◌, length, take, ap, ◌∙◌, sym, arith, rules}
use Rattle.replay.specs.Windows.{Sight}
use Rattle.replay.proofs.WindowLemmas.{more_held, same_held}
use Rattle.replay.proofs.window.Window.fill.Goals as goal

pub returns-in-Ok-clause-ok : goal.returns-in-Ok-clause-ok
returns-in-Ok-clause-ok g c =
    let w = c.self.inside in
    let n = c.in-Ok.count in
    let bound = c.in-Ok.ensures.bound in
    let held = ap (λ (s : Sight). s.held ++ take n c.read.new.buf) c.self.view_is in
    let all = ap length c.deref_mut.ensures.value in
    let k = length w.buffer.items - w.end in
    let more = more_held w.buffer.items c.read.new.buf w.start w.end k n w.buffer.len (omega (arith, all, c.deref_mut.ensures.len))
    (let long : length c.read.new.buf ≡ k = search rules in long) (omega (arith, c.self.invariant)) (omega (arith, c.self.invariant)) bound.0 in
    (take n c.read.new.buf, sym bound.1, rw c.deref_mut.ensures.value (more ∙ held), c.in-Ok.ensures.bytes.0)

pub returns-in-Err-clause-err : goal.returns-in-Err-clause-err
returns-in-Err-clause-err g c =
    let w = c.self.inside in
    let held = ap (λ (s : Sight). s.held) c.self.view_is in
    let all = ap length c.deref_mut.ensures.value in
    let k = length w.buffer.items - w.end in
    let same = same_held w.buffer.items c.read.new.buf w.start w.end k w.buffer.len (omega (arith, all, c.deref_mut.ensures.len))
    (let long : length c.read.new.buf ≡ k = search rules in long) (omega (arith, c.self.invariant)) (omega (arith, c.self.invariant)) in
    (rw c.deref_mut.ensures.value (same ∙ held), c.in-Err.ensures.bytes)
