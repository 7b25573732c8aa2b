use Rattle.std.proofs.Common.{lit<}
use Rattle.replay.proofs.session.Session.new.Goals as goal

pub new-requires-2 : goal.new-requires-2
new-requires-2 g c = (lit< tt, (c.requires.wide, c.requires.narrow))
