use Rattle.std.proofs.Common.{ℕ, sym, subst}
use Rattle.std.specs.Prelude.{Contains, List}
use Rattle.graphs.specs.Closures.{is_ancestor}
use Rattle.links.specs.Leaving.{Adds}
use Rattle.reorg.specs.Blocks.{IsBelow}
use Rattle.reorg.proofs.Pairing.{Others, on_ok, others_all}
use Rattle.reorg.proofs.making.put_below.Goals as goal

pub returns-clause-adds : goal.returns-clause-adds
returns-clause-adds g c =
    let graph = c.args.graph.now.levels.main.graph in
    on_ok c.put_others.result
    (λ adds. others_all (IsBelow graph) c.args.id c.find_below.new.found.ids c.args.list.now.items c.put_others.new.list.items
    (λ d. let exact = c.find_below.ensures.found d in (λ is. (exact.0 is.0, is.1), λ is. (exact.1 is.0, is.1)))
    (subst (λ (ns : List ℕ). Adds (Others c.args.id ns) c.args.list.now.items c.put_others.new.list.items) c.ids.ensures adds))
    c.put_others.ensures
