use Rattle.std.proofs.Common.{rules}
use Rattle.std.proofs.lemmas.List.Sorted.{answers_always}
use Rattle.dump_text.proofs.Neighbours.{found_edge, ok_tells}
use Rattle.dump_text.proofs.Rising.{ends}
use Rattle.dump_text.proofs.testing.has_edge.Goals as goal

pub returns : goal.returns
returns c =
    let found = c.binary_search_by_key-found in
    ok_tells _ _ found.result c.is_ok.result (search rules)
    (found_edge c.args.edges.now c.args.parent c.args.child found.result c.requires found.ensures.bound
    (found.ensures.position ends (answers_always _ _ _ (λ f a r g h. search rules))))
