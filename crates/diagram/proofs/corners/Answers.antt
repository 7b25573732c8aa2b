use Rattle.diagram.proofs.CornerLists.{fresh_corners, fresh_goes}
use Rattle.diagram.proofs.corners.Goals as goal

pub returns-clause-can : goal.returns-clause-can
returns-clause-can g c =
    fresh_goes g.I.Iterator.can_next g.I.Iterator.next_gives g.I.Iterator.remaining c.args.parts c.new.result c.requires.level.0
    c.new.ensures.parts c.new.ensures.end c.new.ensures.ahead c.requires.can c.requires.ends c.requires.level.1

pub returns-clause-corners : goal.returns-clause-corners
returns-clause-corners g c list segments yields joins =
    fresh_corners g.I.Iterator.next_gives c.args.parts c.new.result list segments c.new.ensures.parts c.new.ensures.end c.new.ensures.ahead yields joins
