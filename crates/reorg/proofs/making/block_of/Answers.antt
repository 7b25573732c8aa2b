use Rattle.std.proofs.Common.{◌≡◌, sym, ap, ◌∙◌, subst}
use Rattle.graph_model.specs.Changes.{ids_of}
use Rattle.reorg.specs.Blocks.{IsBlockOf}
use Rattle.reorg.proofs.Whole.{names_told}
use Rattle.reorg.proofs.making.block_of.Goals as goal

pub new-requires : goal.new-requires
new-requires g c =
    let graph = c.args.graph.now.levels.main.graph in
    c.from_vec.ensures ∙ c.in_ok-ids.ensures.items ∙ sym (ap ids_of c.in_ok-txs.ensures ∙ names_told graph c.args.ids.now)

pub returns : goal.returns
returns g c =
    let graph = c.args.graph.now.levels.main.graph in
    subst (IsBlockOf graph c.args.ids.now) (sym c.new.ensures) (record { txs = c.in_ok-txs.ensures; pairs = c.in_ok-pairs.ensures })
