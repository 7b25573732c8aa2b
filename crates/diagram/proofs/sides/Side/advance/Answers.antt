use Rattle.diagram.proofs.SideLemmas.{points_advance}
use Rattle.diagram.proofs.sides.Side.advance.Goals as goal

pub returns-clause-points : goal.returns-clause-points
returns-clause-points g c points has =
    points_advance g.I.Iterator.next_gives c.args.self.now c.args.next c.next-self.new.self
    c.next-self.result points c.requires.next c.next-self.ensures.steps has
