use Rattle.replacement.proofs.MergedWalks.{ahead_after}
use Rattle.replacement.proofs.merged.Peeked.advance.Goals as goal

pub returns-clause-left : goal.returns-clause-left
returns-clause-left g c parts yields =
    ahead_after g.I.Iterator.next_gives c.args.self.now.rest c.next-self.new.self c.next-self.result parts yields c.next-self.ensures.steps
