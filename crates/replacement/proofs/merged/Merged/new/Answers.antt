use Rattle.replacement.proofs.MergedWalks.{both_end, gives_level}
use Rattle.replacement.proofs.merged.Merged.new.Goals as goal

pub returns-clause-can : goal.returns-clause-can
returns-clause-can g c =
    let ones = c.requires.both.0 in
    let more = c.requires.both.1 in
    let both = c.requires.both.2 in
    record {
      one = c.new.ensures.ready;
      other = c.new-2.ensures.ready;
      ones = ones;
      others = more;
      ones_left = c.new.ensures.left ones both.one;
      others_left = c.new-2.ensures.left more both.other;
    }

pub returns-clause-ends : goal.returns-clause-ends
returns-clause-ends g c =
    both_end g.I.Iterator.can_next g.I.Iterator.remaining g.J.Iterator.can_next g.J.Iterator.remaining
    (record { one = c.new.result; other = c.new-2.result }) c.new.ensures.ready c.new-2.ensures.ready

pub returns-clause-parts : goal.returns-clause-parts
returns-clause-parts g c ones more both =
    gives_level g.I.Iterator.next_gives g.J.Iterator.next_gives c.args.one c.args.other (record { one = c.new.result; other = c.new-2.result }) ones more both
    (c.new.ensures.left ones both.one) (c.new-2.ensures.left more both.other)
