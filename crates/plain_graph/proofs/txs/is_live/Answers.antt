use Rattle.plain_graph.proofs.Entries.{live_named}
use Rattle.std.proofs.Common.{◌≡◌, true, false, arith}
use Rattle.std.specs.Prelude.{is_some}
use Rattle.std.proofs.lemmas.Grind.{common_steps}
use Rattle.plain_graph.specs.Plain.{entry_in}
use Rattle.plain_graph.proofs.txs.is_live.Goals as goal

pub returns-then-tx-id-clause-named : goal.returns-then-tx-id-clause-named
returns-then-tx-id-clause-named c = let is : true ≡ is_some (entry_in c.args.txs.now c.args.id) = grind (arith, common_steps) in
    live_named c.args.txs.now c.args.id true is

pub returns-clause-named : goal.returns-clause-named
returns-clause-named c = let is : false ≡ is_some (entry_in c.args.txs.now c.args.id) = grind (arith, common_steps) in
    live_named c.args.txs.now c.args.id false is
