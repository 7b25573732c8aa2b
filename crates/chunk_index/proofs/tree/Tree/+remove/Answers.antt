use Rattle.std.proofs.Common.{List, ◌∷◌, ◌++◌, ap, ◌∙◌, rules}
use Rattle.chunk_index.specs.declared.entry.Entry.{Entry}
use Rattle.chunk_index.specs.TreeShape.{entry_of}
use Rattle.chunk_index.proofs.Steps.{goes_left, goes_right, stops, none-has, shorter_left, shorter_right}
use Rattle.chunk_index.proofs.tree.Tree.+remove.Goals as goal

pub unreachable-requires : goal.unreachable-requires
unreachable-requires t c = none-has c.args.self c.args.key.now c.in-None.ensures.parts c.requires.there

pub remove-left-requires : goal.remove-left-requires
remove-left-requires t c =
    let h = entry_of c.in-Some.here.value in
    let way = goes_left c.args.self c.in-Some.left h c.in-Some.right c.in-Some.ensures.parts c.requires.order c.args.key.now (search rules) in
    let shorter = shorter_left c.args.self c.in-Some.left h c.in-Some.right c.in-Some.ensures.parts in
    (search rules, (way.order, way.has ∙ c.requires.there))

pub remove-right-requires : goal.remove-right-requires
remove-right-requires t c =
    let h = entry_of c.in-Some.here.value in
    let way = goes_right c.args.self c.in-Some.left h c.in-Some.right c.in-Some.ensures.parts c.requires.order c.args.key.now (search rules) in
    let shorter = shorter_right c.args.self c.in-Some.left h c.in-Some.right c.in-Some.ensures.parts in
    (search rules, (way.order, way.has ∙ c.requires.there))

pub returns-in-Less-clause-without : goal.returns-in-Less-clause-without
returns-in-Less-clause-without t c =
    let h = entry_of c.in-Some.here.value in
    let way = goes_left c.args.self c.in-Some.left h c.in-Some.right c.in-Some.ensures.parts c.requires.order c.args.key.now (search rules) in
    c.join.ensures ∙ ap (λ (t : List Entry). t ++ h ∷ c.in-Some.right) c.remove-left.ensures.without ∙ way.without

pub returns-in-Equal-clause-without : goal.returns-in-Equal-clause-without
returns-in-Equal-clause-without t c =
    let h = entry_of c.in-Some.here.value in
    let way = stops c.args.self c.in-Some.left h c.in-Some.right c.in-Some.ensures.parts c.requires.order c.args.key.now (search rules) in
    c.append.ensures ∙ way.without

pub returns-in-Greater-clause-without : goal.returns-in-Greater-clause-without
returns-in-Greater-clause-without t c =
    let h = entry_of c.in-Some.here.value in
    let way = goes_right c.args.self c.in-Some.left h c.in-Some.right c.in-Some.ensures.parts c.requires.order c.args.key.now (search rules) in
    c.join-in-Greater.ensures ∙ ap (λ (t : List Entry). c.in-Some.left ++ h ∷ t) c.remove-right.ensures.without ∙ way.without
