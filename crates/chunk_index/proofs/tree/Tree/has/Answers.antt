use Rattle.std.proofs.Common.{◌≡◌, length, is_some, sym, ap, ◌∙◌, arith}
use Rattle.chunk_index.proofs.Finds.{number-has}
use Rattle.chunk_index.proofs.Steps.{empty-has}
use Rattle.chunk_index.proofs.tree.Tree.has.Goals as goal

pub returns-then-self-eq0 : goal.returns-then-self-eq0
returns-then-self-eq0 c =
    let none : length c.args.self.now ≡ 0 = omega (arith, c.self.invariant.counted, ap length c.self.view_is) in
    empty-has c.args.self.now c.args.key.now none

pub returns : goal.returns
returns c = c.is_some.ensures ∙ ap is_some c.find.ensures ∙ sym (number-has c.args.self.now c.args.key.now)
