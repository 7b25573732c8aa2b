use Rattle.std.proofs.Common.{List, sym, ap, ◌∙◌}
use Rattle.chunk_index.specs.declared.entry.Entry.{Entry}
use Rattle.chunk_index.specs.declared.tree.Node.{Node}
use Rattle.chunk_index.specs.Keys.{has_key, key_of}
use Rattle.chunk_index.specs.TreeShape.{entries_under, entry_of}
use Rattle.chunk_index.proofs.Settling.{has_node}
use Rattle.chunk_index.proofs.tree.Tree.any_key.Goals as goal

pub returns-in-Some : goal.returns-in-Some
returns-in-Some c =
    let node = c.in-Some.root.value in
    ap (λ (n : Node). has_key key_of c.args.self.now n.key) c.deref-node.ensures
    ∙ ap (λ (es : List Entry). has_key key_of es node.key) (sym c.self.view_is ∙ ap entries_under c.in-Some.is)
    ∙ has_node node.left (entry_of node) node.right
