use Rattle.std.proofs.Common.{lit<}
-- The graph fits in memory where the session does.
use Rattle.replay.proofs.replay++session++Session+Destruct.drop.Goals as goal

pub drop-requires : goal.drop-requires
drop-requires g c = lit< tt
