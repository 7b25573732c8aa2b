use Rattle.std.proofs.Common.{List, sym, ap, ◌∙◌}
use Rattle.chunk_index.specs.declared.entry.Entry.{Entry}
use Rattle.chunk_index.specs.declared.tree.Node.{Node}
use Rattle.chunk_index.specs.Keys.{without}
use Rattle.chunk_index.specs.Numbers.{listed}
use Rattle.chunk_index.specs.Pairs.{pair_key, clear_of}
use Rattle.chunk_index.specs.TreeShape.{entry_of}
use Rattle.chunk_index.proofs.Maps.{Numbers}
use Rattle.chunk_index.proofs.Settling.{clear_none, clear_parts}
use Rattle.chunk_index.proofs.emptying.+take_all.Goals as goal

pub returns-in-Some-clause-clear : goal.returns-in-Some-clause-clear
returns-in-Some-clause-clear t c =
    let l = c.in-Some.left in
    let r = c.in-Some.right in
    let node = c.in-Some.node.value in
    c.take_all-in-Some.ensures.clear
    ∙ ap (clear_of r) (c.remove.ensures.without ∙ ap (λ (n : Node). without pair_key (listed c.take_all.new.numbers) n.key) c.deref.ensures
    ∙ ap (λ (ns : Numbers). without pair_key ns node.key) c.take_all.ensures.clear)
    ∙ sym (clear_parts l (entry_of node) r (listed c.args.numbers.now))
    ∙ ap (λ (xs : List Entry). clear_of xs (listed c.args.numbers.now)) (sym c.in-Some.ensures.parts)

pub returns-in_default-clause-clear : goal.returns-in_default-clause-clear
returns-in_default-clause-clear t c =
    sym (clear_none (listed c.args.numbers.now))
    ∙ ap (λ (xs : List Entry). clear_of xs (listed c.args.numbers.now)) (sym c.in_default.ensures.parts)
