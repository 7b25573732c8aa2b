use Rattle.std.proofs.Common.{lit<}
use Rattle.graph_model.specs.Replies.{names_reply}
use Rattle.mempool.specs.Requests.{search_command}
use Rattle.mempool.proofs.PoolLemmas.{pool_reads, search_leaves}
use Rattle.mempool.proofs.pool.Mempool.find.Goals as goal

pub returns-clause-step : goal.returns-clause-step
returns-clause-step g c =
    pool_reads c.self.inside.graph c.self.inside.reorg c.args.self.now (search_command c.args.search) (names_reply c.find.result c.find.new.ids.ids) (search_leaves c.args.search) c.self.view_is c.find.ensures.step

pub find-requires : goal.find-requires
find-requires g c = (lit< tt, c.requires.room)
