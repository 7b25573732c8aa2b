use Rattle.std.proofs.Common.{refl, arith}
use Rattle.replay.proofs.commands.answer_line.Goals as goal

pub obey_unpaid-requires : goal.obey_unpaid-requires
obey_unpaid-requires g c = record { name = refl; parts = refl; some = omega (arith, c.new.ensures); few = c.requires.few; room = c.requires.room; mines = c.requires.mines }
