use Rattle.std.proofs.Common.{refl, inl, inr}
use Rattle.std.specs.Iterator.{AlwaysYields}
use Rattle.diagram.specs.Parts.{rate_of}
use Rattle.replacement.proofs.MergedWalks.{begins_below, begins_most, one_goes, other_goes, taken}
use Rattle.replacement.proofs.merged.MergedIterator.next.Goals as goal

pub returns-in-One-clause-steps : goal.returns-in-One-clause-steps
returns-in-One-clause-steps g c ones others one other =
    let walk = c.args.self.now.other in
    let part = c.in-One.part in
    let got = taken g.I.Iterator.next_gives c.args.self.now.one c.advance.new.self part ones c.in-One.ensures.0 c.advance.ensures.left one in
    let low = begins_most (rate_of part) walk.next (AlwaysYields g.J.Iterator.next_gives rate_of walk.rest) others other c.in-One.ensures.1 in
    (got.0, others, inl (got.1, refl, low), got.2, other)

pub returns-in-One-clause-goes : goal.returns-in-One-clause-goes
returns-in-One-clause-goes g c =
    one_goes g.I.Iterator.can_next g.I.Iterator.next_gives g.I.Iterator.remaining g.J.Iterator.can_next g.J.Iterator.next_gives g.J.Iterator.remaining
    c.args.self.now (record { one = c.advance.new.self; other = c.args.self.now.other }) c.in-One.part c.requires refl c.in-One.ensures.0
    c.advance.ensures.left c.advance.ensures.ready c.advance.ensures.fewer

pub returns-in-Other-clause-steps : goal.returns-in-Other-clause-steps
returns-in-Other-clause-steps g c ones others one other =
    let walk = c.args.self.now.one in
    let after = c.advance-in-Other in
    let part = c.in-Other.part in
    let got = taken g.J.Iterator.next_gives c.args.self.now.other after.new.self part others c.in-Other.ensures.0 after.ensures.left other in
    let less = begins_below (rate_of part) walk.next (AlwaysYields g.I.Iterator.next_gives rate_of walk.rest) ones one c.in-Other.ensures.1 in
    (ones, got.0, inr (got.1, refl, less), one, got.2)

pub returns-in-Other-clause-goes : goal.returns-in-Other-clause-goes
returns-in-Other-clause-goes g c =
    let after = c.advance-in-Other in
    other_goes g.I.Iterator.can_next g.I.Iterator.next_gives g.I.Iterator.remaining g.J.Iterator.can_next g.J.Iterator.next_gives g.J.Iterator.remaining
    c.args.self.now (record { one = c.args.self.now.one; other = after.new.self }) c.in-Other.part c.requires refl c.in-Other.ensures.0
    after.ensures.left after.ensures.ready after.ensures.fewer
