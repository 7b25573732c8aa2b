use Rattle.std.proofs.Common.{◌≡◌, ◌∷◌, ◌++◌, sym, ◌∙◌, rules}
use Rattle.chunk_index.specs.Keys.{number_at}
use Rattle.chunk_index.specs.TreeShape.{entry_of}
use Rattle.chunk_index.proofs.Steps.{goes_left, goes_right, stops, shorter_left, shorter_right}
use Rattle.chunk_index.proofs.tree.Tree.+find.Goals as goal

pub find-requires : goal.find-requires
find-requires t c =
    let l = c.deref-node.result.now.left in
    let r = c.deref-node.result.now.right in
    let e = entry_of c.deref-node.result.now in
    let whole : c.args.self.now ≡ l ++ e ∷ r = search rules in
    let way = goes_left c.args.self.now l e r whole c.requires c.args.key.now c.in-Less.ensures in
    let shorter = shorter_left c.args.self.now l e r whole in
    (search rules, way.order)

pub find-requires-in-Greater : goal.find-requires-in-Greater
find-requires-in-Greater t c =
    let l = c.deref-node.result.now.left in
    let r = c.deref-node.result.now.right in
    let e = entry_of c.deref-node.result.now in
    let whole : c.args.self.now ≡ l ++ e ∷ r = search rules in
    let way = goes_right c.args.self.now l e r whole c.requires c.args.key.now c.in-Greater.ensures in
    let shorter = shorter_right c.args.self.now l e r whole in
    (search rules, way.order)

pub returns-in-None : goal.returns-in-None
unfolding number_at
returns-in-None t c = search rules

pub returns-in-Less : goal.returns-in-Less
returns-in-Less t c =
    let l = c.deref-node.result.now.left in
    let r = c.deref-node.result.now.right in
    let e = entry_of c.deref-node.result.now in
    let whole : c.args.self.now ≡ l ++ e ∷ r = search rules in
    let way = goes_left c.args.self.now l e r whole c.requires c.args.key.now c.in-Less.ensures in
    c.find.ensures ∙ way.number

pub returns-in-Equal : goal.returns-in-Equal
returns-in-Equal t c =
    let l = c.deref-node.result.now.left in
    let r = c.deref-node.result.now.right in
    let e = entry_of c.deref-node.result.now in
    let whole : c.args.self.now ≡ l ++ e ∷ r = search rules in
    let way = stops c.args.self.now l e r whole c.requires c.args.key.now c.in-Equal.ensures in
    sym way.number

pub returns-in-Greater : goal.returns-in-Greater
returns-in-Greater t c =
    let l = c.deref-node.result.now.left in
    let r = c.deref-node.result.now.right in
    let e = entry_of c.deref-node.result.now in
    let whole : c.args.self.now ≡ l ++ e ∷ r = search rules in
    let way = goes_right c.args.self.now l e r whole c.requires c.args.key.now c.in-Greater.ensures in
    c.find-in-Greater.ensures ∙ way.number
