use Rattle.node_pool.proofs.LawLemmas.{gone_later}
use Rattle.node_pool.proofs.laws.keys_are_used_once.Goals as goal

pub returns-clause-taken : goal.returns-clause-taken
returns-clause-taken g c key later spent called k d within = gone_later c.args.pool.now key later spent called k d within
