use Rattle.std.proofs.Common.{inr, subst, arith}
use Rattle.name_book.specs.Books.{IsMarked}
use Rattle.name_book.proofs.Gathering.{one-is}
use Rattle.name_book.proofs.Marks.{gained-unmarked, gained-marks, gains-touched, gains-untouched, rings_of}
use Rattle.name_book.proofs.Named.{named-more}
use Rattle.name_book.proofs.book.NameBook.add.Goals as goal

pub invariant_of-self : goal.invariant_of-self
invariant_of-self c =
    gained-marks c.self.inside.table c.insert.new.self c.self.inside.touched c.args.id (rw (← c.self.view_is) at c.requires.absent)
    (c.insert.ensures.rings 1 (omega arith)) c.self.invariant c.insert.ensures.names

pub invariant_of-self-else-staged : goal.invariant_of-self-else-staged
invariant_of-self-else-staged c =
    gained-marks c.self.inside.table c.insert.new.self c.self.inside.touched c.args.id (rw (← c.self.view_is) at c.requires.absent)
    (c.insert.ensures.rings 1 (omega arith)) c.self.invariant c.insert.ensures.names

pub touch_all-requires-clause-live : goal.touch_all-requires-clause-live
touch_all-requires-clause-live c x here =
    (named-more c.self.inside.table c.insert.new.self c.args.id c.insert.ensures.names x).1 (inr (one-is c.args.id x here))

pub touch_all-requires-clause-untouched : goal.touch_all-requires-clause-untouched
touch_all-requires-clause-untouched c x here marked =
    gained-unmarked c.self.inside.table c.insert.new.self c.self.inside.touched c.args.id (rw (← c.self.view_is) at c.requires.absent)
    (c.insert.ensures.rings 1 (omega arith)) c.self.invariant
    (subst (IsMarked (rings_of c.insert.new.self c.self.inside.touched)) (one-is c.args.id x here) marked)

pub returns-then-staged : goal.returns-then-staged
returns-then-staged c =
    let old = c.self.inside.table in let new = c.insert.new.self in let made = c.insert.ensures in
    rw (← c.self.view_is, c.if-staged.true) (gains-touched old new c.self.inside.touched c.args.id (rw (← c.self.view_is) at c.requires.absent) made.names
    made.rings made.counts c.self.invariant c.touch_all.new.self c.touch_all.ensures)

pub returns-else-staged : goal.returns-else-staged
returns-else-staged c =
    let old = c.self.inside.table in let new = c.insert.new.self in let made = c.insert.ensures in
    rw (← c.self.view_is, c.if-staged.false) (gains-untouched old new c.self.inside.touched c.args.id (rw (← c.self.view_is) at c.requires.absent) made.names
    made.rings made.counts c.self.invariant)
