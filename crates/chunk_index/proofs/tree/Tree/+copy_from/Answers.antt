use Rattle.std.proofs.Common.{◌≡◌, ◌+◌, ◌-◌, ◌∷◌, ◌++◌, length, take, drop, slice_set, List, refl, ap, ◌∙◌, arith, rules}
use borrow.Rule.Slice.PartMut.{mid_of}
use Rattle.chunk_index.specs.declared.entry.Entry.{Entry}
use Rattle.chunk_index.specs.TreeShape.{entry_of}
use Rattle.chunk_index.proofs.Copies.{from_right, across}
use Rattle.chunk_index.proofs.tree.Tree.+copy_from.Goals as goal

pub returns-then-left-at : goal.returns-then-left-at
returns-then-left-at t c =
    let l = c.in-Some.root.value.left in
    let r = c.in-Some.root.value.right in
    let e = entry_of c.in-Some.root.value in
    let whole : l ++ e ∷ r ≡ c.args.self.now = search rules in
    let size : length l ≡ c.node.inside.0.0.len = search rules in
    let filled : c.copy_from.new.out ≡ take (length c.args.out.now) (drop (c.args.at - length l - 1) r) = search rules in
    filled
    ∙ ap (λ (xs : List Entry). take (length c.args.out.now) xs) (from_right l r e c.args.at (omega arith) ∙ ap (λ (xs : List Entry). drop c.args.at xs) whole)

pub returns-else-out-left : goal.returns-else-out-left
returns-else-out-left t c =
    let l = c.in-Some.root.value.left in
    let r = c.in-Some.root.value.right in
    let e = c.entry.result in
    let k = c.node.inside.0.0.len - c.args.at in
    let out = c.args.out.now in
    let p = c.copy_from-else-out-left.new.out in
    let q = c.copy_from-else-out-left-2.new.out in
    let whole : l ++ e ∷ r ≡ c.args.self.now = search rules in
    let size : length l ≡ c.node.inside.0.0.len = search rules in
    let filled : p ≡ take (length (take k out)) (drop c.args.at l) = search rules in
    let rest : q ≡ take (length (mid_of (k + 1) (length (slice_set (p ++ drop k out) k e) - (k + 1)) (slice_set (p ++ drop k out) k e))) r = search rules in
    across l r e c.args.at (length out) k out p q (omega arith) (omega arith) (omega arith) refl filled rest
    ∙ ap (λ (xs : List Entry). take (length out) (drop c.args.at xs)) whole
