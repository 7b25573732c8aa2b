use Rattle.std.proofs.Common.{◌≡◌, ◌+◌, ◌-◌, ◌≤◌, ◌++◌, length, take, drop, ap, sym, ◌∙◌, refl, arith, length-append, length-take-le, length-drop, take-append-drop}
use Rattle.replay.proofs.CutLemmas.{split_past}
use Rattle.replay.proofs.lines.count_within.Goals as goal

pub returns-then-count-left : goal.returns-then-count-left
returns-then-count-left c shown came held long =
    let left = 268435456 - c.args.taken in
    let sum : c.args.before ≡ length shown = omega (arith, c.requires.held, ap length held, length-append shown came, long) in
    let within : left ≤ length came = omega arith in (
      take left came,
      drop left came,
      sym (take-append-drop left came),
      c.keep.ensures ∙ ap (take (c.args.before + left)) held ∙ ap (λ n. take (n + left) (shown ++ came)) sum ∙ split_past shown came left within,
      omega (arith, length-take-le left came within, c.requires.taken),
      (refl, omega (arith, length-drop left came), omega (arith, length-drop left came, long, c.requires.most)),
    )
